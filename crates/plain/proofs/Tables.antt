-- Step 1 nibble by nibble, through either table: the nibbles below i have gone through it, the others not yet.
use mathlib.Core.Path.{◌≡◌, refl, sym, ap, ◌∙◌}
use mathlib.Core.List.{List}
use Prim.Native.Nat.{ℕ, ◌+◌, ◌*◌, ◌/◌, ◌≤◌, ◌<◌}
use native.Mathlib.Decide.{ℕ_discrete}
use native.Mathlib.Omega.{arith}
use lib.Dec.{lit<}
use lib.ListN.{length, get_or, set, length-set}
use lib.Seq.{get_or-set_same, get_or-set_other}
use Rattle.bits.specs.Digit.{digit, number}
use Rattle.bits.proofs.Digits.{digit_lt, digit-number}
use Rattle.plain.specs.Inner.{state_of, nibbles_of}
use Rattle.plain.proofs.Nibbles.{nibbles_are, digit_state_of}

pub record Through (f : ℕ → ℕ) (ns : List ℕ) (i : ℕ) (now : List ℕ) : Type 0 where
  pub same : length now ≡ length ns
  pub past : (k : ℕ) → k < i → get_or now k 0 ≡ f (get_or ns k 0)
  pub rest : (k : ℕ) → i ≤ k → get_or now k 0 ≡ get_or ns k 0

module _ (f : ℕ → ℕ) (ns : List ℕ) where
  pub through_none : Through f ns 0 ns
  through_none = record { same = refl; past = λ k h. omega arith; rest = λ k h. refl }

  pub through_next : (i : ℕ) (now : List ℕ) → Through f ns i now → i < length now → Through f ns (i + 1) (set now i (f (get_or now i 0)))
  through_next i now t h =
      record {
        same = length-set now i (f (get_or now i 0)) ∙ t.same;
        past =
            λ k l.
            elim (ℕ_discrete k i) [
              | yes e ↦ rw (e, get_or-set_same now i (f (get_or now i 0)) 0 h) (ap f (t.rest i (omega arith)))
              | no ne ↦ get_or-set_other now i k (f (get_or now i 0)) 0 ne ∙ t.past k (omega arith)
            ];
        rest = λ k l. get_or-set_other now i k (f (get_or now i 0)) 0 (λ e. omega arith) ∙ t.rest k (omega arith);
      }

  pub through_all : (i : ℕ) (now : List ℕ) → ((x : ℕ) → x < 16 → f x < 16) → ((k : ℕ) → get_or ns k 0 < 16) → Through f ns i now → length ns ≤ i
      → now ≡ nibbles_of (length ns) (number 16 (4 * length ns / 4) (λ k. f (digit 16 (state_of ns) k)))
  through_all i now f_lt small t h =
      let s : ℕ = state_of ns in
      let quarter : 4 * length ns / 4 ≡ length ns = omega arith in
      nibbles_are (length ns) (number 16 (4 * length ns / 4) (λ k. f (digit 16 s k))) now t.same
      (λ k l.
      t.past k (omega arith)
      ∙ ap f (sym (digit_state_of ns small k l))
      ∙ sym (digit-number 16 (lit< tt) (4 * length ns / 4) (λ m. f (digit 16 s m)) (λ m d. f_lt (digit 16 s m) (digit_lt 16 (lit< tt) s m)) k (rw quarter l)))
