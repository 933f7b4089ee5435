-- `Text::push_decimal` pushes the last digit after the digits of a tenth of the number.
use mathlib.Core.Path.{sym, subst}
use mathlib.Core.List.{List, [], ◌∷◌}
use Prim.Native.Nat.{ℕ, ◌+◌, ◌/◌, ◌%◌}
use native.Mathlib.Omega.{arith}
use Rattle.text.specs.Decimal.{decimal_of}
use Rattle.text.specs.Written.{Adds}
use Rattle.text.proofs.Numerals.{decimal_short, decimal_long}
use Rattle.text.proofs.Texts.{then_adds}
use Rattle.text.proofs.Text.+push_decimal.Goals as goal
use Rattle.text.proofs.Text.+push_decimal.Goals.{then-n-ge10, else-n-ge10}

pub returns : goal.returns
returns t c =
    let n : ℕ = c.args.n in
    let digit : Adds ((48 + n % 10) ∷ []) c.if-n-ge10.self c.push.new.self = c.push.ensures in
    elim c.if-n-ge10.branch [
      | then-n-ge10 w ↦ subst (λ (x : List ℕ). Adds x c.args.self.now c.push.new.self) (sym (decimal_long n w.if-n-ge10.true))
          (then_adds (decimal_of (n / 10)) ((48 + n % 10) ∷ []) _ _ _ (rw (← w.self-is) at w.push_decimal.ensures) digit)
      | else-n-ge10 w ↦ subst (λ (x : List ℕ). Adds x c.args.self.now c.push.new.self) (sym (decimal_short n (omega arith))) (rw w.self-is at digit)
    ]
