-- `Page::put_all`: the bytes passed so far are laid.
use mathlib.Core.Path.{refl}
use native.Mathlib.Omega.{arith}
use Rattle.differ_text.proofs.Laid.{puts_one}
use Rattle.differ_text.proofs.Page.put_all.Goals as goal

pub loop-b-preserved : goal.loop-b-preserved
loop-b-preserved c =
    puts_one (λ x. x) (λ a b. refl) c.args.bs.now c.loop-b.b-index (omega arith) c.loop-b.invariant c.put.ensures
