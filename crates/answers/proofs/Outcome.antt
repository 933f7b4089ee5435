-- What a call gives that is done, and one that is refused; and that a promise admits no second outcome.
use mathlib.Core.Path.{◌≡◌, sym, ap, ◌∙◌}
use mathlib.Core.Bool.{Bool, cond}
use mathlib.Core.Logic.{◌≢◌}
use Prim.Native.Nat.{ℕ}
use borrow.Author.Tests.{eq-eqb, ne_eqb}
use Rattle.answers.specs.Order.{if_done}
use Rattle.answers.specs.Outcome.{Gives, OneOutcome}

pub if_done_lem {ℓ} : {A : Type ℓ} (number : ℕ) (x y : A) → number ≡ 0 → if_done number x y ≡ x
if_done_lem number x y e = ap (λ (t : Bool). cond t x y) (eq-eqb number 0 e)

pub if_refused {ℓ} : {A : Type ℓ} (number : ℕ) (x y : A) → number ≢ 0 → if_done number x y ≡ y
if_refused number x y ne = ap (λ (t : Bool). cond t x y) (ne_eqb number 0 ne)

-- where r is the call's number, as the function that tries its refusals told it: a refusal leaves the old, and what is done the new
module _ {A : Type 0} {number r : ℕ} {new old : A} (told : r ≡ number) where
  pub refuses : r ≢ 0 → Gives number new old r old
  refuses ne = record { is = told; leaves = sym (if_refused number new old (λ e. ne (told ∙ e))) }

  pub done : r ≡ 0 → {e : A} → e ≡ new → Gives number new old r e
  done z left = record { is = told; leaves = left ∙ sym (if_done_lem number new old (sym told ∙ z)) }

-- ---- no second outcome

pub one_outcome : {A : Type 0} (number : ℕ) (new old : A) → OneOutcome (Gives number new old)
one_outcome number new old r r' e e' g h = (g.is ∙ sym h.is, g.leaves ∙ sym h.leaves)

-- what is equal to one answer is equal to each other
pub one_answer : {A : Type 0} {answer x y : A} → x ≡ answer → y ≡ answer → x ≡ y
one_answer e f = e ∙ sym f
