-- `bench::open_lane` answers as said: its number first, and if that is 0 the lane opened.
use mathlib.Core.Path.{refl, ap, ◌∙◌}
use native.Mathlib.Omega.{arith}
use Rattle.bench_orders.proofs.Passing.{not_done}
use Rattle.bench.specs.Calls.{put}
use Rattle.bench.proofs.Answered.{sees, open_refused, open_lane, open_way, open_order, open_done}
use Rattle.bench.proofs.open_lane.Goals as goal

pub returns-in-Err : goal.returns-in-Err
returns-in-Err c =
    let a = c.args in
    open_refused a.b a.lane a.owner (sees a.b a.lane a.owner c.sound.ensures c.seen-seen.ensures) a.direction a.order a.key.now a.block.now c.in-Err.ensures (not_done c.in-Err.refusal)

pub overflow_cast-direction : goal.overflow_cast-direction
overflow_cast-direction c =
    let a = c.args in
    record { fits = omega (arith, open_way a.b a.lane a.owner (sees a.b a.lane a.owner c.sound.ensures c.seen-seen.ensures) a.direction a.order a.key.now a.block.now c.in_default.ensures refl) }

pub overflow_cast-order : goal.overflow_cast-order
overflow_cast-order c =
    let a = c.args in
    record { fits = omega (arith, open_order a.b a.lane a.owner (sees a.b a.lane a.owner c.sound.ensures c.seen-seen.ensures) a.direction a.order a.key.now a.block.now c.in_default.ensures refl) }

pub put-bench-requires : goal.put-bench-requires
put-bench-requires c =
    let a = c.args in
    open_lane a.b a.lane a.owner (sees a.b a.lane a.owner c.sound.ensures c.seen-seen.ensures) a.direction a.order a.key.now a.block.now c.in_default.ensures refl

pub returns : goal.returns
returns c =
    let a = c.args in
    open_done a.b a.lane a.owner (sees a.b a.lane a.owner c.sound.ensures c.seen-seen.ensures) a.direction a.order a.key.now a.block.now c.in_default.ensures refl
    (c.put-bench.ensures ∙ ap (put a.b a.lane) c.opened-l.ensures)
