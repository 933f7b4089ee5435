-- `Text::push_byte` pushes the two digits of a byte.
use mathlib.Core.Path.{ap₂, subst}
use mathlib.Core.List.{List, [], ◌∷◌}
use Prim.Native.Nat.{ℕ}
use Rattle.text.specs.Hex.{hex_of}
use Rattle.text.specs.Written.{Adds}
use Rattle.text.proofs.Texts.{then_adds}
use Rattle.text.proofs.Text.push_byte.Goals as goal

pub returns : goal.returns
unfolding hex_of
returns c =
    subst (λ (x : List ℕ). Adds x c.args.self.now c.push-2.new.self)
    (ap₂ (λ (x y : ℕ). x ∷ y ∷ []) c.hex_digit.ensures c.hex_digit-2.ensures)
    (then_adds (c.hex_digit.result ∷ []) (c.hex_digit-2.result ∷ []) _ _ _ c.push.ensures c.push-2.ensures)
