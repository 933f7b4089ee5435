-- `cmac::same_tags`: no bit differs exactly if no byte does.
use mathlib.Core.Path.{ap, ◌∙◌}
use Prim.Native.Nat.{ℕ}
use lib.Dec.{eqb}
use Rattle.cmac.proofs.Strings.{told}
use Rattle.cmac.proofs.same_tags.Goals as goal

pub returns : goal.returns
returns c = ap (λ (d : ℕ). eqb d 0) c.differing.ensures ∙ told c.args.a.now c.args.b.now c.requires
