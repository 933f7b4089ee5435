-- `bench::close` answers as said: its number first, and if that is 0 the lane idle.
use mathlib.Core.Path.{refl, ap, ◌∙◌}
use Rattle.bench_orders.proofs.Passing.{not_done}
use Rattle.bench.specs.Calls.{put}
use Rattle.bench.proofs.Answered.{sees, close-refused, close_lane, close-done}
use Rattle.bench.proofs.close.Goals as goal

pub returns-in-Err : goal.returns-in-Err
returns-in-Err c =
    let a = c.args in
    close-refused a.b a.lane a.owner (sees a.b a.lane a.owner c.sound.ensures c.seen-seen.ensures) c.in-Err.ensures (not_done c.in-Err.refusal)

pub put-bench-requires : goal.put-bench-requires
put-bench-requires c =
    let a = c.args in
    close_lane a.b a.lane a.owner (sees a.b a.lane a.owner c.sound.ensures c.seen-seen.ensures) c.in_default.ensures refl

pub returns : goal.returns
returns c =
    let a = c.args in
    close-done a.b a.lane a.owner (sees a.b a.lane a.owner c.sound.ensures c.seen-seen.ensures) c.in_default.ensures refl (c.put-bench.ensures ∙ ap (put a.b a.lane) c.idle_lane.ensures)
