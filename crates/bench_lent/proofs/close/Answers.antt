-- `bench_lent::close` empties a lane.
use mathlib.Core.Path.{◌≡◌, refl, ◌∙◌}
use Rattle.std.proofs.Common.{rules}
use Rattle.answers.specs.Refusals.{number, number_of}
use Rattle.bench_orders.proofs.Passing.{not_done}
use Rattle.bench.proofs.Answered.{close-refused, close_inside, close-done}
use Rattle.bench_lent.specs.Lent.{bench_of}
use Rattle.bench_lent.proofs.Answering.{leaves, stored}
use Rattle.bench_lent.proofs.close.Goals as goal

pub returns-in_err-close_code : goal.returns-in_err-close_code
returns-in_err-close_code c =
    let a = c.args in
    let told : number c.from_residual.result ≡ number_of c.in_err-close_code.field-0.0 = search rules in
    let no = leaves (close-refused (bench_of a.lanes.now a.last) a.lane a.owner c.look-seen.ensures c.in_err-close_code.ensures (not_done _)) in
    (told ∙ no.0, no.1)

pub bounds-lanes-lane : goal.bounds-lanes-lane
bounds-lanes-lane c = let a = c.args in close_inside (bench_of a.lanes.now a.last) a.lane a.owner c.look-seen.ensures c.in_ok-close_code.ensures refl

pub returns : goal.returns
returns c =
    let a = c.args in
    leaves (close-done (bench_of a.lanes.now a.last) a.lane a.owner c.look-seen.ensures c.in_ok-close_code.ensures refl (stored a.lanes.now a.last a.lane c.idle_lane.ensures))
