-- `bench_turns::turns` makes the turns asked for, while a lane runs.
use mathlib.Core.Path.{◌≡◌, sym, ◌∙◌}
use native.Mathlib.Omega.{arith}
use Rattle.bench_turns.proofs.Rest.{rest_one, rest_none, rest_over}
use Rattle.bench_turns.proofs.turns.Goals as goal

pub returns-in-None : goal.returns-in-None
returns-in-None c = rest_none c.args.asked c.args.b c.loop-made.made c.loop-made.bench c.loop-made.invariant c.in-None.ensures (omega arith)

pub loop-made-preserved : goal.loop-made-preserved
loop-made-preserved c =
    rw c.in-Some.ensures.1 (rest_one c.args.asked c.args.b c.loop-made.made c.loop-made.bench c.loop-made.invariant c.in-Some.ensures.0)

pub returns : goal.returns
returns c =
    let all : c.loop-made.made ≡ c.args.asked = omega arith in
    let d = rest_over c.args.asked c.args.b c.loop-made.made c.loop-made.bench c.loop-made.invariant all in
    (sym all ∙ d.0, d.1)
