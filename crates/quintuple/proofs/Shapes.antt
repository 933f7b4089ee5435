-- What the code of each round makes is the round: a law of its moves, over the three forms that the code uses, one of the round by what they give, one of both together, and the same of its undoing.
use mathlib.Core.Path.{◌≡◌, refl, ap, ◌∙◌}
use Prim.Native.Nat.{ℕ}
use lib.Bits.{bit_xor}
use lib.Dec.{T, eqb, ltb}
use Rattle.bits.proofs.Computed.{below, agree, bounded}
use Rattle.published.specs.Rounds.{entry}
use Rattle.published.specs.Inner.{unentry}
use Rattle.primitives.specs.declared.State.{State}
use Rattle.primitives.specs.Words.{permuted, swapped_single}
use Rattle.primitives.proofs.Moves.{permuted_cong, permuted_then}
use Rattle.primitives.proofs.Swaps.{exchange, apart, swap_is_move}
use Rattle.primitives.proofs.Blocks.{same_words}
use Rattle.quintuple.specs.Boxes.{boxed}
use Rattle.quintuple.specs.Inner.{exchanged_of, move, unmove, moved_in, unmoved_in, subround, unsubround}

-- the code's move is the move that is meant, by a test over the 32 places
pub same_move : (π σ : ℕ → ℕ) → T (below 32 (λ i. eqb (π i) (σ i))) → (x y w : ℕ) → w ≡ permuted π x → x ≡ y → w ≡ permuted σ y
same_move π σ t x y w e f = e ∙ permuted_cong π σ x (agree 32 π σ t) ∙ ap (permuted σ) f

-- swaps with literal masks are moves, after or before a rotation
pub swapped : (mask n : ℕ) → T (apart mask n) → (x w : ℕ) → w ≡ swapped_single x mask n → w ≡ permuted (exchange mask n) x
swapped mask n t x w e = e ∙ swap_is_move x mask n t

pub one_after : (π σ : ℕ → ℕ) → T (below 32 (λ i. ltb (π i) 32)) → (x y w : ℕ) → y ≡ permuted σ x → w ≡ permuted π y → w ≡ permuted (λ i. σ (π i)) x
one_after π σ t x y w e f = f ∙ ap (permuted π) e ∙ permuted_then π σ x (bounded 32 32 π t)

module _ (k : ℕ) (π0 π1 π2 : ℕ → ℕ) where
  -- the three moves of a round, and those of its undoing
  pub is_moved : T (below 32 (λ i. eqb (π0 i) (move k 0 i))) → T (below 32 (λ i. eqb (π1 i) (move k 1 i))) → T (below 32 (λ i. eqb (π2 i) (move k 2 i)))
      → (t : State) (s1 s2 s3 : ℕ) → s3 ≡ permuted π0 t.s3 → s1 ≡ permuted π1 t.s1 → s2 ≡ permuted π2 t.s2
      → ◌≡◌ {A = State} (record { s0 = t.s0; s1 = s1; s2 = s2; s3 = s3 }) (moved_in k t)
  unfolding moved_in
  is_moved m0 m1 m2 t s1 s2 s3 e3 e1 e2 =
      same_words _ _ refl (same_move π1 (move k 1) m1 t.s1 _ s1 e1 refl) (same_move π2 (move k 2) m2 t.s2 _ s2 e2 refl) (same_move π0 (move k 0) m0 t.s3 _ s3 e3 refl)

  pub is_unmoved : T (below 32 (λ i. eqb (π0 i) (unmove k 0 i))) → T (below 32 (λ i. eqb (π1 i) (unmove k 1 i))) → T (below 32 (λ i. eqb (π2 i) (unmove k 2 i)))
      → (t : State) (s0 s1 s2 : ℕ) → s0 ≡ permuted π0 t.s0 → s1 ≡ permuted π1 t.s1 → s2 ≡ permuted π2 t.s2
      → ◌≡◌ {A = State} (record { s0 = s0; s1 = s1; s2 = s2; s3 = t.s3 }) (unmoved_in k t)
  unfolding unmoved_in
  is_unmoved m0 m1 m2 t s0 s1 s2 e0 e1 e2 =
      same_words _ _ (same_move π0 (unmove k 0) m0 t.s0 _ s0 e0 refl) (same_move π1 (unmove k 1) m1 t.s1 _ s1 e1 refl) (same_move π2 (unmove k 2) m2 t.s2 _ s2 e2 refl) refl

-- the round of a state that its moves gave, and its undoing
pub moved_round : (k : ℕ) (s t r : State) (v u c : ℕ) → t ≡ boxed entry s → r ≡ moved_in k t
    → ◌≡◌ {A = State} (record { s0 = bit_xor r.s0 c; s1 = bit_xor r.s1 v; s2 = bit_xor r.s2 u; s3 = r.s3 }) (subround k s v u c)
unfolding subround moved_in boxed
moved_round k s t r v u c e f =
    ap (λ (r : State). record { s0 = bit_xor r.s0 c; s1 = bit_xor r.s1 v; s2 = bit_xor r.s2 u; s3 = r.s3 }) (f ∙ ap (moved_in k) e)

pub moved_unround : (k : ℕ) (s t b r : State) (v u c : ℕ) → t ≡ unmoved_in k (record { s0 = s.s3; s1 = bit_xor s.s1 v; s2 = bit_xor s.s2 u; s3 = bit_xor s.s0 c }) → b ≡ boxed unentry t
    → r ≡ exchanged_of b → r ≡ unsubround k s v u c
unfolding unsubround unmoved_in
moved_unround k s t b r v u c e f g = g ∙ ap exchanged_of (f ∙ ap (boxed unentry) e)

-- and with them the round, and its undoing, of any three moves that pass the test
module _ (k : ℕ) (π0 π1 π2 : ℕ → ℕ) where
  pub is_subround : T (below 32 (λ i. eqb (π0 i) (move k 0 i))) → T (below 32 (λ i. eqb (π1 i) (move k 1 i))) → T (below 32 (λ i. eqb (π2 i) (move k 2 i)))
      → (s t : State) (s1 s2 s3 v u c : ℕ) → t ≡ boxed entry s → s3 ≡ permuted π0 t.s3 → s1 ≡ permuted π1 t.s1 → s2 ≡ permuted π2 t.s2
      → ◌≡◌ {A = State} (record { s0 = bit_xor t.s0 c; s1 = bit_xor s1 v; s2 = bit_xor s2 u; s3 = s3 }) (subround k s v u c)
  is_subround m0 m1 m2 s t s1 s2 s3 v u c e e3 e1 e2 =
      moved_round k s t (record { s0 = t.s0; s1 = s1; s2 = s2; s3 = s3 }) v u c e (is_moved k π0 π1 π2 m0 m1 m2 t s1 s2 s3 e3 e1 e2)

  pub is_unsubround : T (below 32 (λ i. eqb (π0 i) (unmove k 0 i))) → T (below 32 (λ i. eqb (π1 i) (unmove k 1 i))) → T (below 32 (λ i. eqb (π2 i) (unmove k 2 i)))
      → (s t r : State) (s0 s1 s2 v u c : ℕ) → s0 ≡ permuted π0 s.s3 → s1 ≡ permuted π1 (bit_xor s.s1 v) → s2 ≡ permuted π2 (bit_xor s.s2 u)
      → t ≡ boxed unentry (record { s0 = s0; s1 = s1; s2 = s2; s3 = bit_xor s.s0 c }) → r ≡ exchanged_of t → r ≡ unsubround k s v u c
  is_unsubround m0 m1 m2 s t r s0 s1 s2 v u c e0 e1 e2 e f =
      moved_unround k s (record { s0 = s0; s1 = s1; s2 = s2; s3 = bit_xor s.s0 c }) t r v u c
      (is_unmoved k π0 π1 π2 m0 m1 m2 (record { s0 = s.s3; s1 = bit_xor s.s1 v; s2 = bit_xor s.s2 u; s3 = bit_xor s.s0 c }) s0 s1 s2 e0 e1 e2) e f
