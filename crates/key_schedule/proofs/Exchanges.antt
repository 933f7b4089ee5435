-- Exchanges of bits in both halves of a number, one after the other, are the same exchanges in each half, by computed tests.
use mathlib.Core.Path.{◌≡◌, refl, sym, ap, ap₂, ◌∙◌}
use mathlib.Core.Bool.{Bool, true, ◌&&◌}
use mathlib.Core.List.{List, [], ◌∷◌}
use Prim.Native.Nat.{ℕ, ◌^◌, ◌<◌}
use lib.Dec.{T, eqb, ltb}
use Rattle.bits.proofs.Computed.{below, and_left, and_right, agree, bounded}
use Rattle.bits.proofs.Reflect.{W, var, lit, and, xor, shr, shl}
use Rattle.primitives.specs.Words.{permuted}
use Rattle.primitives.proofs.Moves.{permuted-lt, permuted-id, permuted_cong}
use Rattle.primitives.proofs.Swaps.{exchange}
use Rattle.round_words.proofs.Exchanges.{Swap, came_from}
use Rattle.key_schedule.specs.InnerHalves.{low_of, high_of, joined, in_both, swapped}
use Rattle.key_schedule.proofs.Halves.{is_both, moves_both, both_then, joined-lt, low-lt, high_lt, joined-halves}

-- a mask in both halves
abbrev pub doubled : ℕ → ℕ
doubled mask = joined mask mask

-- the expression of one exchange
abbrev differing : Swap → W
differing s = and (xor (var 0) (shr (var 0) s.above)) (lit (doubled s.mask))

abbrev exchanging : Swap → W
exchanging s = xor (xor (var 0) (differing s)) (shl (differing s) s.above)

abbrev pub swap_all : List Swap → ℕ → ℕ
swap_all [] x = x
swap_all (s ∷ ss) x = swap_all ss (swapped x (doubled s.mask) s.above)

abbrev pub swaps_ok : List Swap → Bool
swaps_ok [] = true
swaps_ok (s ∷ ss) = is_both (exchange s.mask s.above) (exchanging s) && (below 32 (λ i. ltb (came_from ss i) 32) && swaps_ok ss)

swaps_move : (ss : List Swap) (x : ℕ) → T (swaps_ok ss) → x < 2 ^ 64 → swap_all ss x ≡ in_both (permuted (came_from ss)) x
swaps_move [] x t h =
    sym (ap₂ joined (permuted-id (λ i. i) (low_of x) (λ i l. refl) (low-lt x)) (permuted-id (λ i. i) (high_of x) (λ i l. refl) (high_lt x h)) ∙ joined-halves x)
swaps_move (s ∷ ss) x t h =
    let σ : ℕ → ℕ = exchange s.mask s.above in
    let one : Bool = is_both σ (exchanging s) in
    let inside : Bool = below 32 (λ i. ltb (came_from ss i) 32) in
    let rest : T (inside && swaps_ok ss) = and_right one (inside && swaps_ok ss) t in
    ap (swap_all ss) (moves_both σ (exchanging s) (and_left one (inside && swaps_ok ss) t) x h)
    ∙ swaps_move ss (in_both (permuted σ) x) (and_right inside (swaps_ok ss) rest)
    (joined-lt (permuted σ (low_of x)) (permuted σ (high_of x)) (permuted-lt σ (low_of x)) (permuted-lt σ (high_of x)))
    ∙ both_then (came_from ss) σ x (bounded 32 32 (came_from ss) (and_left inside (swaps_ok ss) rest))

-- a row of exchanges is the move π in both halves, by the test
pub swaps_are : (π : ℕ → ℕ) (ss : List Swap) → T (swaps_ok ss && below 32 (λ i. eqb (came_from ss i) (π i))) → (x : ℕ) → x < 2 ^ 64
    → swap_all ss x ≡ in_both (permuted π) x
swaps_are π ss t x h =
    let same : Bool = below 32 (λ i. eqb (came_from ss i) (π i)) in
    let eq : (i : ℕ) → i < 32 → came_from ss i ≡ π i = agree 32 (came_from ss) π (and_right (swaps_ok ss) same t) in
    swaps_move ss x (and_left (swaps_ok ss) same t) h
    ∙ ap₂ joined (permuted_cong (came_from ss) π (low_of x) eq) (permuted_cong (came_from ss) π (high_of x) eq)
