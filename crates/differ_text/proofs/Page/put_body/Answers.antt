-- `Page::put_body`: the text of the bytes passed so far is laid.
use native.Mathlib.Omega.{arith}
use Rattle.differ_text.specs.Rendered.{escaped}
use Rattle.differ_text.proofs.Laid.{puts-nothing, puts_as, puts_one}
use Rattle.differ_text.proofs.Sides.{escaped-append, escaped_one}
use Rattle.differ_text.proofs.Page.put_body.Goals as goal

pub loop-b-init : goal.loop-b-init
unfolding escaped
loop-b-init c = puts-nothing c.args.self.now

pub loop-b-preserved : goal.loop-b-preserved
loop-b-preserved c =
    puts_one escaped escaped-append c.args.body.now c.loop-b.b-index (omega arith) c.loop-b.invariant (puts_as c.put_escaped.ensures (escaped_one _))
