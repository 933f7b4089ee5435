-- `cmac::pad`: a full block stays; else hex 80 is put after the bytes, and zeros after it.
use mathlib.Core.Path.{◌≡◌, sym, ◌∙◌}
use native.Mathlib.Omega.{arith}
use lib.ListN.{take}
use borrow.Author.Tests.{ne_eqb}
use Rattle.bits.proofs.Computed.{cond-false}
use Rattle.cmac.proofs.LastBlock.{padded_is}
use Rattle.cmac.proofs.pad.Goals as goal

pub returns-then-count-lt16 : goal.returns-then-count-lt16
returns-then-count-lt16 c =
    let less : c.args.count ≡ 16 → ⊥ = λ e. omega arith in
    c.hold.ensures ∙ padded_is (take c.args.count c.args.held) ∙ sym (cond-false _ _ _ (ne_eqb _ 16 less))
