-- A list that is filled one place after the other, at places that a rule names: what was put stays, and nothing is said of the rest. `p i` is the i-th place,
-- and R i tells which words are right there. With the rule (λ i. i) it is filled upward.
use mathlib.Core.Path.{◌≡◌, ◌∙◌}
use mathlib.Core.List.{List}
use Prim.Native.Nat.{ℕ, ◌+◌, ◌<◌}
use native.Mathlib.Decide.{ℕ_discrete}
use native.Mathlib.Nat.{ne_of_lt}
use native.Mathlib.Omega.{arith}
use lib.ListN.{length, set, get_or}
use lib.Seq.{get_or-set_same, get_or-set_other}

pub record Fills (p : ℕ → ℕ) (R : ℕ → ℕ → Type 0) (k : ℕ) (y : List ℕ) : Type 0 where
  pub there : (i : ℕ) → i < k → R i (get_or y (p i) 0)

pub fills_none : {p : ℕ → ℕ} {R : ℕ → ℕ → Type 0} {y : List ℕ} → Fills p R 0 y
fills_none = record { there = λ i h. absurd (omega arith) }

-- one more, at a place where nothing was put yet
pub fills_put : {p : ℕ → ℕ} {R : ℕ → ℕ → Type 0} {k : ℕ} {y : List ℕ} (at w : ℕ) → at ≡ p k → at < length y → ((i : ℕ) → i < k → p i ≡ p k → ⊥)
    → R k w → Fills p R k y → Fills p R (k + 1) (set y at w)
fills_put {p} {R} {k} {y} at w e room new right f =
    record {
      there =
          λ i h.
          elim (ℕ_discrete i k) [
            | yes same ↦ rw (same, ← e, get_or-set_same y at w 0 room) right
            | no other ↦ let below : i < k = omega arith in rw (get_or-set_other y at (p i) w 0 (λ m. new i below (m ∙ e))) (f.there i below)
          ];
    }

pub fills_up : {R : ℕ → ℕ → Type 0} {k : ℕ} {y : List ℕ} (at w : ℕ) → at ≡ k → at < length y → R k w → Fills (λ i. i) R k y → Fills (λ i. i) R (k + 1) (set y at w)
fills_up at w e room right f = fills_put at w e room (λ i h. ne_of_lt h) right f

-- the same number of places, told otherwise
pub fills_is : {p : ℕ → ℕ} {R : ℕ → ℕ → Type 0} {k n : ℕ} {y : List ℕ} → k ≡ n → Fills p R k y → Fills p R n y
fills_is e f = rw e at f
