-- `Request::of_line` reads the parts of a line, and a line of which it does not find one is not good.
use native.Mathlib.Omega.{arith}
use Rattle.line_answers.proofs.Good.{all_good, bad}
use Rattle.line_answers.proofs.Request.of_line.Goals as goal
use Rattle.line_answers.proofs.Request.of_line.Goals.{then-line-ne67-via-then-line-ne67, then-line-ne67-via-else-line-ne67+then-line-ne32, then-line-ne67-via-else-line-ne67+else-line-ne32+then-line-ne32-2}

pub returns-then-line-ne67 : goal.returns-then-line-ne67
returns-then-line-ne67 c =
    bad c.args.line.now (λ g. elim c.then-line-ne67.branch [
      | then-line-ne67-via-then-line-ne67 w ↦ w.if-line-ne67.true g.long
      | then-line-ne67-via-else-line-ne67+then-line-ne32 w ↦ w.if-line-ne32.true g.first
      | then-line-ne67-via-else-line-ne67+else-line-ne32+then-line-ne32-2 w ↦ w.if-line-ne32-2.true g.second
    ])

pub returns-in_default : goal.returns-in_default
returns-in_default c = bad c.args.line.now (λ g. let e = c.in_default.ensures in let f = g.letter in cc)

pub returns-in_err-key : goal.returns-in_err-key
returns-in_err-key c = rw c.from_residual.ensures (bad c.args.line.now (λ g. c.in_err-key.ensures g.key))

pub returns-in_err-block : goal.returns-in_err-block
returns-in_err-block c = rw c.from_residual-in_err-block.ensures (bad c.args.line.now (λ g. c.in_err-block.ensures g.block))

pub returns : goal.returns
returns c =
    record {
      good = all_good c.args.line.now (record { long = omega arith; letter = c.in-Ok.ensures.1; first = c.if-line-ne32.false; second = c.if-line-ne32-2.false; key = c.in_ok-key.ensures.0; block = c.in_ok-block.ensures.0 });
      letter = c.in-Ok.ensures.0;
      key = c.in_ok-key.ensures.1;
      block = c.in_ok-block.ensures.1;
    }
