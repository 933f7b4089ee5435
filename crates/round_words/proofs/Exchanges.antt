-- Several exchanges of bits in one word, one after the other, are a move; an arrangement is such a move, by a computed test.
use mathlib.Core.Path.{◌≡◌, refl, sym, ap, ◌∙◌}
use mathlib.Core.Bool.{Bool, true, ◌&&◌}
use mathlib.Core.List.{List, [], ◌∷◌}
use Prim.Native.Nat.{ℕ, ◌^◌, ◌<◌}
use lib.Dec.{T, eqb, ltb}
use Rattle.bits.proofs.Computed.{below, and_left, and_right, agree, bounded}
use Rattle.primitives.specs.Words.{permuted, swapped_single}
use Rattle.primitives.proofs.Moves.{permuted-lt, permuted-id, permuted_then, permuted_cong}
use Rattle.primitives.proofs.Swaps.{exchange, apart, swap_is_move}
use Rattle.round_words.specs.Arranged.{nibble_at, arranged}

-- the bits under a mask change places with those so many above
pub record Swap : Type 0 where
  pub mask : ℕ
  pub above : ℕ

infix 25 ◌with◌
abbrev pub ◌with◌ : ℕ → ℕ → Swap
m with n = record { mask = m; above = n }

abbrev pub swap_all : List Swap → ℕ → ℕ
swap_all [] x = x
swap_all (s ∷ ss) x = swap_all ss (swapped_single x s.mask s.above)

-- where bit i comes from
abbrev pub came_from : List Swap → ℕ → ℕ
came_from [] i = i
came_from (s ∷ ss) i = exchange s.mask s.above (came_from ss i)

abbrev pub swaps_ok : List Swap → Bool
swaps_ok [] = true
swaps_ok (s ∷ ss) = apart s.mask s.above && (below 32 (λ i. ltb (came_from ss i) 32) && swaps_ok ss)

pub swaps_move : (ss : List Swap) (x : ℕ) → T (swaps_ok ss) → x < 2 ^ 32 → swap_all ss x ≡ permuted (came_from ss) x
swaps_move [] x t h = sym (permuted-id (λ i. i) x (λ i l. refl) h)
swaps_move (s ∷ ss) x t h =
    let one : Bool = apart s.mask s.above in
    let inside : Bool = below 32 (λ i. ltb (came_from ss i) 32) in
    let rest : T (inside && swaps_ok ss) = and_right one (inside && swaps_ok ss) t in
    ap (swap_all ss) (swap_is_move x s.mask s.above (and_left one (inside && swaps_ok ss) t))
    ∙ swaps_move ss (permuted (exchange s.mask s.above) x) (and_right inside (swaps_ok ss) rest) (permuted-lt (exchange s.mask s.above) x)
    ∙ permuted_then (came_from ss) (exchange s.mask s.above) x (bounded 32 32 (came_from ss) (and_left inside (swaps_ok ss) rest))

pub swaps_arrange : (k : ℕ) (ss : List Swap) (x : ℕ) → T (swaps_ok ss && below 32 (λ i. eqb (came_from ss i) (nibble_at k i))) → x < 2 ^ 32 → swap_all ss x ≡ arranged k x
unfolding arranged
swaps_arrange k ss x t h =
    let same : Bool = below 32 (λ i. eqb (came_from ss i) (nibble_at k i)) in
    swaps_move ss x (and_left (swaps_ok ss) same t) h ∙ permuted_cong (came_from ss) (nibble_at k) x (agree 32 (came_from ss) (nibble_at k) (and_right (swaps_ok ss) same t))
