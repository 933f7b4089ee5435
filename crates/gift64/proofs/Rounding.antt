-- Two rounds more after those done, and two more undone.
use mathlib.Core.Path.{◌≡◌, refl, sym, ap, ◌∙◌}
use mathlib.Core.Bool.{cond}
use mathlib.Core.List.{List}
use Prim.Native.Nat.{ℕ, suc, ◌+◌, ◌-◌, ◌%◌, ◌^◌, ◌<◌}
use native.Mathlib.Nat.{lt_of_lt_of_le}
use native.Mathlib.Numerals.{add-one}
use native.Mathlib.Omega.{arith}
use lib.Dec.{ltb, lit<, lit≤}
use lib.ListN.{get_or}
use borrow.Author.Tests.{lt-ltb}
use Rattle.bits.proofs.Bits.{of_bits_lt}
use Rattle.bits.proofs.Computed.{cond-true}
use Rattle.published.specs.Rounds.{rounds, unrounds, constant, round, unround}
use Rattle.published.specs.Gift64.{rounds64, unrounds64}
use Rattle.primitives.specs.declared.State.{State}
use Rattle.primitives.specs.Packed.{block_of64, Words}
use Rattle.gift64.specs.Inner.{block_in, subround, unsubround, pair_in, pairs_in, constant_word}
use Rattle.gift64.proofs.Turning.{round_on, unround_on, undone-words}

pub packed_is : (s : State) → block_in 0 s ≡ block_of64 s
unfolding block_in block_of64
packed_is s = refl

pub constant_word-lt : (r : ℕ) → constant_word r < 2 ^ 32
unfolding constant_word
constant_word-lt r = lt_of_lt_of_le (of_bits_lt 16 _) (lit≤ tt)

module _ (ws : List ℕ) (i m : ℕ) (even : i % 2 ≡ 0) where
  first : suc i % 2 ≡ 1
  first = omega arith

  second : suc (suc i) % 2 ≡ 0
  second = omega arith

  -- m rounds are left after these two
  module _ (s t : State) where
    pub two_more : (a : State) → a ≡ subround 0 s (get_or ws i 0) (constant_word i) → t ≡ subround 1 a (get_or ws (suc i) 0) (constant_word (suc i))
        → rounds64 (pairs_in m (suc (suc i)) ws) (suc (suc i)) (block_of64 t) ≡ rounds64 (pairs_in (suc (suc m)) i ws) i (block_of64 s)
    unfolding rounds pairs_in
    two_more a e f =
        ap (rounds64 (pairs_in m (suc (suc i)) ws) (suc (suc i)))
        (sym (packed_is t) ∙ ap (block_in 0) f
        ∙ round_on 1 (suc i) (lit< tt) second a (get_or ws (suc i) 0)
        ∙ ap (round 64 0 (pair_in (suc (suc i) % 2) (get_or ws (suc i) 0)) (constant (suc (suc i))))
        (ap (block_in 1) e ∙ round_on 0 i (lit< tt) first s (get_or ws i 0)
        ∙ ap (round 64 0 (pair_in (suc i % 2) (get_or ws i 0)) (constant (suc i))) (packed_is s)))

    pub two_less : (a : State) (x : ℕ) → Words s → get_or ws i 0 < 2 ^ 32 → get_or ws (suc i) 0 < 2 ^ 32
        → a ≡ unsubround 1 s (get_or ws (suc i) 0) (constant_word (suc i)) → t ≡ unsubround 0 a (get_or ws i 0) (constant_word i)
        → block_of64 s ≡ unrounds64 (pairs_in m (suc (suc i)) ws) (suc (suc i)) x → block_of64 t ≡ unrounds64 (pairs_in (suc (suc m)) i ws) i x
    unfolding unrounds pairs_in
    two_less a x hs hw hw' e f before =
        sym (packed_is t) ∙ ap (block_in 0) f
        ∙ unround_on 0 i (lit< tt) first a (get_or ws i 0) (undone-words 1 s (get_or ws (suc i) 0) (constant_word (suc i)) e) hw (constant_word-lt i)
        ∙ ap (unround 64 0 (pair_in (suc i % 2) (get_or ws i 0)) (constant (suc i)))
        (ap (block_in 1) e ∙ unround_on 1 (suc i) (lit< tt) second s (get_or ws (suc i) 0) hs hw' (constant_word-lt (suc i))
        ∙ ap (unround 64 0 (pair_in (suc (suc i) % 2) (get_or ws (suc i) 0)) (constant (suc (suc i)))) (packed_is s ∙ before))

-- ---- the same as the loops count

module _ (ws : List ℕ) (i : ℕ) (even : i % 2 ≡ 0) (more : i < 28) where
  left : suc (suc (28 - (i + 2))) ≡ 28 - i
  left = omega arith

  on : suc (suc i) ≡ i + 2
  on = omega arith

  tabled : (r : ℕ) → r < 28 → {c : ℕ} → c ≡ cond (ltb r 28) (constant_word r) 0 → c ≡ constant_word r
  tabled r h e = e ∙ cond-true (ltb r 28) (constant_word r) 0 (lt-ltb r 28 h)

  module _ (s a t : State) {c d : ℕ} (first-constant : c ≡ cond (ltb i 28) (constant_word i) 0) (second-constant : d ≡ cond (ltb (i + 1) 28) (constant_word (i + 1)) 0) where
    pub forward : a ≡ subround 0 s (get_or ws i 0) c → t ≡ subround 1 a (get_or ws (i + 1) 0) d
        → rounds64 (pairs_in (28 - (i + 2)) (i + 2) ws) (i + 2) (block_of64 t) ≡ rounds64 (pairs_in (28 - i) i ws) i (block_of64 s)
    forward e f =
        ap (λ (r : ℕ). rounds64 (pairs_in (28 - (i + 2)) r ws) r (block_of64 t)) (sym on)
        ∙ two_more ws i (28 - (i + 2)) even s t a (e ∙ ap (subround 0 s (get_or ws i 0)) (tabled i more first-constant))
        (f ∙ ap (subround 1 a (get_or ws (i + 1) 0)) (tabled (i + 1) (omega arith) second-constant) ∙ ap (λ (r : ℕ). subround 1 a (get_or ws r 0) (constant_word r)) (add-one i))
        ∙ ap (λ (m : ℕ). rounds64 (pairs_in m i ws) i (block_of64 s)) left

    pub backward : (x : ℕ) → Words s → ((r : ℕ) → get_or ws r 0 < 2 ^ 32) → a ≡ unsubround 1 s (get_or ws (i + 1) 0) d → t ≡ unsubround 0 a (get_or ws i 0) c
        → block_of64 s ≡ unrounds64 (pairs_in (28 - (i + 2)) (i + 2) ws) (i + 2) x → block_of64 t ≡ unrounds64 (pairs_in (28 - i) i ws) i x
    backward x hs hw e f before =
        two_less ws i (28 - (i + 2)) even s t a x hs (hw i) (hw (suc i))
        (e ∙ ap (unsubround 1 s (get_or ws (i + 1) 0)) (tabled (i + 1) (omega arith) second-constant) ∙ ap (λ (r : ℕ). unsubround 1 s (get_or ws r 0) (constant_word r)) (add-one i))
        (f ∙ ap (unsubround 0 a (get_or ws i 0)) (tabled i more first-constant))
        (before ∙ ap (λ (r : ℕ). unrounds64 (pairs_in (28 - (i + 2)) r ws) r x) (sym on))
        ∙ ap (λ (m : ℕ). unrounds64 (pairs_in m i ws) i x) left
