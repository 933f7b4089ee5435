-- `bench_turns::turn_once` makes one turn.
use mathlib.Core.Path.{◌≡◌}
use lib.ListN.{length}
use Rattle.bench_orders.specs.Orders.{lane_count}
use Rattle.bench_turns.proofs.Soundness.{unmapped}
use Rattle.bench_turns.proofs.Made.{none_found, one_found}
use Rattle.bench_turns.proofs.turn_once.Goals as goal

pub returns-in_err-n : goal.returns-in_err-n
returns-in_err-n c = rw c.from_residual.ensures (none_found c.args.b c.after.ensures c.in_err-n.ensures)

pub returns : goal.returns
unfolding lane_count
returns c =
    let b = c.args.b in
    let long : length b.lanes ≡ lane_count = search unmapped in
    one_found b c.after.ensures c.in_ok-n.ensures.0 (rw long at c.in_ok-n.ensures.1) c.served.ensures
