-- The outcome of a call that gives a number and leaves something: bytes or words that were lent to it, records, or a cipher that it made.
use Rattle.std.specs.Prelude.{◌≡◌, ℕ}
use Rattle.answers.specs.Order.{if_done}

-- The number r is the call's; e, what it leaves, is the new where that number is 0, and after a refusal the old.
pub record Gives {A : Type 0} (number : ℕ) (new old : A) (r : ℕ) (e : A) : Type 0 where
  pub is : r ≡ number
  pub leaves : e ≡ if_done number new old

-- a promise that one outcome meets, and no second
abbrev pub OneOutcome : {A : Type 0} → (ℕ → A → Type 0) → Type 0
OneOutcome {A} P = (r r' : ℕ) (e e' : A) → P r e → P r' e' → (r ≡ r') × (e ≡ e')
