-- `bench_turns::sound` tells whether a bench is sound.
use mathlib.Core.Path.{◌≡◌}
use native.Mathlib.Omega.{arith}
use lib.ListN.{length}
use borrow.Author.Tests.{eq-eqb, lt-ltb, le-ltb}
use Rattle.bench_orders.specs.Orders.{lane_count}
use Rattle.bench_turns.specs.Sound.{sound_bench}
use Rattle.bench_turns.proofs.Soundness.{unmapped}
use Rattle.bench_turns.proofs.sound.Goals as goal

pub returns-then-b-lt-LANES : goal.returns-then-b-lt-LANES
unfolding lane_count sound_bench
returns-then-b-lt-LANES c =
    let b = c.args.b in
    let long : length b.lanes ≡ lane_count = search unmapped in
    rw (eq-eqb (length b.lanes) lane_count long, lt-ltb b.last lane_count (omega arith)) c.all_sound.ensures

pub returns-else-b-lt-LANES : goal.returns-else-b-lt-LANES
unfolding lane_count sound_bench
returns-else-b-lt-LANES c =
    let b = c.args.b in
    let long : length b.lanes ≡ lane_count = search unmapped in
    rw (eq-eqb (length b.lanes) lane_count long, le-ltb b.last lane_count (omega arith))
