-- `bench_lent::take` gives a lane's block, and empties the lane.
use mathlib.Core.Path.{◌≡◌, refl, ◌∙◌}
use Rattle.std.proofs.Common.{rules}
use Rattle.answers.specs.Refusals.{number, number_of}
use Rattle.bench_orders.proofs.Passing.{not_done}
use Rattle.bench.proofs.Answered.{take-refused, take_inside, take_done}
use Rattle.bench_lent.specs.Lent.{bench_of}
use Rattle.bench_lent.proofs.Answering.{leaves, stored}
use Rattle.bench_lent.proofs.take.Goals as goal

pub returns-in_err-take_code : goal.returns-in_err-take_code
returns-in_err-take_code c =
    let a = c.args in
    let told : number c.from_residual.result ≡ number_of c.in_err-take_code.field-0.0 = search rules in
    let p = take-refused (bench_of a.lanes.now a.last) a.lane a.owner c.look-seen.ensures a.out.now c.in_err-take_code.ensures (not_done _) in
    let no = leaves p.0 in
    ((told ∙ no.0, no.1), p.1)

pub slice_copy_out-yielded : goal.slice_copy_out-yielded
slice_copy_out-yielded c = let a = c.args in take_inside (bench_of a.lanes.now a.last) a.lane a.owner c.look-seen.ensures a.out.now c.in_ok-take_code.ensures refl

pub bounds-lanes-i : goal.bounds-lanes-i
bounds-lanes-i c = let a = c.args in take_inside (bench_of a.lanes.now a.last) a.lane a.owner c.look-seen.ensures a.out.now c.in_ok-take_code.ensures refl

pub returns : goal.returns
returns c =
    let a = c.args in
    let p = take_done (bench_of a.lanes.now a.last) a.lane a.owner c.look-seen.ensures a.out.now c.in_ok-take_code.ensures refl (stored a.lanes.now a.last a.lane c.idle_lane.ensures) c.yielded.ensures in
    (leaves p.0, p.1)
