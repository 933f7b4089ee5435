-- What a table of moves does in both halves, by computed tests: its parts, or its exchanges, are updates of a word in its arrangement, or put the word into one.
use mathlib.Core.Path.{◌≡◌, refl, sym, ap, ap₂, ◌∙◌}
use mathlib.Core.Bool.{Bool, true, ◌&&◌}
use mathlib.Core.List.{List, [], ◌∷◌}
use Prim.Native.Nat.{ℕ, ◌%◌, ◌^◌, ◌<◌}
use lib.Dec.{T, eqb, eqb→eq, ltb}
use Rattle.bits.proofs.Computed.{below, and_left, and_right}
use Rattle.bits.proofs.Reflect.{W, lit, value}
use Rattle.primitives.specs.Words.{permuted}
use Rattle.round_words.specs.Arranged.{nibble_at, arranged}
use Rattle.round_words.proofs.Exchanges.{Swap, ◌with◌, came_from}
use Rattle.key_schedule.specs.declared.Part.{Part}
use Rattle.key_schedule.specs.declared.Part.TheVariants.{Down, Up}
use Rattle.key_schedule.specs.InnerUpdate.{updated, later}
use Rattle.key_schedule.specs.InnerHalves.{low_of, high_of, joined, in_both, swapped}
use Rattle.key_schedule.specs.InnerMoves.{beside, moved, exchanged}
use Rattle.key_schedule.proofs.Halves.{is_both, moves_both}
use Rattle.key_schedule.proofs.Updates.{turned, updated-move, later_place, later-move, ◌∣◌, down, up, is_later}
use Rattle.key_schedule.proofs.Exchanges.{doubled, swap_all, swaps_ok, swaps_are}

-- ---- parts

-- their expression, beside e
abbrev beside_of : W → List Part → W
beside_of e [] = e
beside_of e (Down n mask ∷ ps) = beside_of (e ∣ down (n % 64) mask) ps
beside_of e (Up mask n ∷ ps) = beside_of (e ∣ up mask (n % 64)) ps

abbrev pub side_by_side : List Part → W
side_by_side ps = beside_of (lit 0) ps

value-beside : (e : W) (ps : List Part) (x : ℕ) → value 64 (x ∷ []) (beside_of e ps) ≡ beside (value 64 (x ∷ []) e) ps x
unfolding beside
value-beside e [] x = refl
value-beside e (Down n mask ∷ ps) x = value-beside (e ∣ down (n % 64) mask) ps x
value-beside e (Up mask n ∷ ps) x = value-beside (e ∣ up mask (n % 64)) ps x

pub updated_by : (ps : List Part) {x r : ℕ} → r ≡ moved ps x → T (is_both turned (side_by_side ps)) → x < 2 ^ 64 → r ≡ in_both updated x
unfolding moved
updated_by ps {x} e t h =
    e ∙ sym (value-beside (lit 0) ps x) ∙ moves_both turned (side_by_side ps) t x h
    ∙ ap₂ joined (sym (updated-move (low_of x))) (sym (updated-move (high_of x)))

pub later_by : (k m : ℕ) (ps : List Part) {x r : ℕ} → r ≡ moved ps x → T (ltb k 6 && is_both (later_place k m) (side_by_side ps)) → x < 2 ^ 64 → r ≡ in_both (later k m) x
unfolding moved
later_by k m ps {x} e t h = e ∙ sym (value-beside (lit 0) ps x) ∙ is_later k m (side_by_side ps) t x h

-- ---- exchanges

-- the same of one half
abbrev pub narrow : List (ℕ × ℕ) → List Swap
narrow [] = []
narrow (s ∷ ss) = (s.0 % 2 ^ 32 with s.1 % 32) ∷ narrow ss

-- each mask is in both halves
abbrev pub all_doubled : List (ℕ × ℕ) → Bool
all_doubled [] = true
all_doubled (s ∷ ss) = eqb (doubled (s.0 % 2 ^ 32)) s.0 && all_doubled ss

abbrev pub is_move : (ℕ → ℕ) → List (ℕ × ℕ) → Bool
is_move π ss = all_doubled ss && (swaps_ok (narrow ss) && below 32 (λ i. eqb (came_from (narrow ss) i) (π i)))

same_swaps : (ss : List (ℕ × ℕ)) (x : ℕ) → T (all_doubled ss) → exchanged ss x ≡ swap_all (narrow ss) x
unfolding exchanged
same_swaps [] x t = refl
same_swaps (s ∷ ss) x t =
    let both : Bool = eqb (doubled (s.0 % 2 ^ 32)) s.0 in
    ap (λ (mask : ℕ). exchanged ss (swapped x mask (s.1 % 32))) (sym (eqb→eq (doubled (s.0 % 2 ^ 32)) s.0 (and_left both (all_doubled ss) t)))
    ∙ same_swaps ss _ (and_right both (all_doubled ss) t)

moved_by : (π : ℕ → ℕ) (ss : List (ℕ × ℕ)) {x r : ℕ} → r ≡ exchanged ss x → T (is_move π ss) → x < 2 ^ 64 → r ≡ in_both (permuted π) x
moved_by π ss {x} e t h =
    let rest : Bool = swaps_ok (narrow ss) && below 32 (λ i. eqb (came_from (narrow ss) i) (π i)) in
    e ∙ same_swaps ss x (and_left (all_doubled ss) rest t) ∙ swaps_are π (narrow ss) (and_right (all_doubled ss) rest t) x h

pub arranged_by : (k : ℕ) (ss : List (ℕ × ℕ)) {x r : ℕ} → r ≡ exchanged ss x → T (is_move (nibble_at k) ss) → x < 2 ^ 64 → r ≡ in_both (arranged k) x
unfolding arranged
arranged_by k ss e t h = moved_by (nibble_at k) ss e t h

pub later_by_exchanges : (k m : ℕ) (ss : List (ℕ × ℕ)) {x r : ℕ} → r ≡ exchanged ss x → k < 6 → T (is_move (later_place k m) ss) → x < 2 ^ 64 → r ≡ in_both (later k m) x
later_by_exchanges k m ss {x} e l t h =
    moved_by (later_place k m) ss e t h ∙ ap₂ joined (sym (later-move k m (low_of x) l)) (sym (later-move k m (high_of x) l))
