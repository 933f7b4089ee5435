-- `bench_lent::turn_once` makes one turn.
use mathlib.Core.Path.{refl, ap, ◌∙◌}
use native.Mathlib.Omega.{arith}
use Rattle.bench_orders.specs.Orders.{lane_count}
use Rattle.bench_turns.specs.Turning.{lane_at}
use Rattle.bench_turns.proofs.Made.{none_found, one_found}
use Rattle.bench_lent.specs.Lent.{bench_of}
use Rattle.bench_lent.specs.Inner.{renewed}
use Rattle.bench_lent.proofs.Effects.{served-renewed}
use Rattle.bench_lent.proofs.turn_once.Goals as goal

pub returns-in_err-n : goal.returns-in_err-n
returns-in_err-n c = rw c.from_residual.ensures (none_found (bench_of c.args.lanes.now c.args.last) c.after.ensures c.in_err-n.ensures, refl)

pub overflow_cast-result : goal.overflow_cast-result
unfolding lane_count
overflow_cast-result c = record { fits = omega (arith, c.in_ok-n.ensures.1, c.requires) }

pub returns : goal.returns
unfolding lane_count
returns c =
    let ys = c.args.lanes.now in
    let n = c.in_ok-n.n in
    let whole = c.renew.ensures ∙ ap (renewed (lane_at ys n)) c.served-l.ensures ∙ served-renewed (lane_at ys n) in
    one_found (bench_of ys c.args.last) c.after.ensures c.in_ok-n.ensures.0 (rw c.requires at c.in_ok-n.ensures.1) whole
