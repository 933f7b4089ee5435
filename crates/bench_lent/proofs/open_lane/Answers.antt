-- `bench_lent::open_lane` opens a lane.
use mathlib.Core.Path.{◌≡◌, refl, ◌∙◌}
use native.Mathlib.Omega.{arith}
use Rattle.std.proofs.Common.{rules}
use Rattle.answers.specs.Refusals.{number, number_of}
use Rattle.bench_orders.proofs.Passing.{not_done}
use Rattle.bench.proofs.Answered.{open_refused, open_inside, open_way, open_order, open_done}
use Rattle.bench_lent.specs.Lent.{bench_of}
use Rattle.bench_lent.proofs.Answering.{leaves, stored}
use Rattle.bench_lent.proofs.open_lane.Goals as goal

pub returns-in_err-open_code : goal.returns-in_err-open_code
returns-in_err-open_code c =
    let a = c.args in
    let told : number c.from_residual.result ≡ number_of c.in_err-open_code.field-0.0 = search rules in
    let no = leaves (open_refused (bench_of a.lanes.now a.last) a.lane a.owner c.look-seen.ensures a.direction a.order a.key.now a.block.now c.in_err-open_code.ensures (not_done _)) in
    (told ∙ no.0, no.1)

pub overflow_cast-direction : goal.overflow_cast-direction
overflow_cast-direction c = let a = c.args in record { fits = omega (arith, open_way (bench_of a.lanes.now a.last) a.lane a.owner c.look-seen.ensures a.direction a.order a.key.now a.block.now c.in_ok-open_code.ensures refl) }

pub overflow_cast-order : goal.overflow_cast-order
overflow_cast-order c = let a = c.args in record { fits = omega (arith, open_order (bench_of a.lanes.now a.last) a.lane a.owner c.look-seen.ensures a.direction a.order a.key.now a.block.now c.in_ok-open_code.ensures refl) }

pub bounds-lanes-lane : goal.bounds-lanes-lane
bounds-lanes-lane c = let a = c.args in open_inside (bench_of a.lanes.now a.last) a.lane a.owner c.look-seen.ensures a.direction a.order a.key.now a.block.now c.in_ok-open_code.ensures refl

pub returns : goal.returns
returns c =
    let a = c.args in
    leaves (open_done (bench_of a.lanes.now a.last) a.lane a.owner c.look-seen.ensures a.direction a.order a.key.now a.block.now c.in_ok-open_code.ensures refl (stored a.lanes.now a.last a.lane c.opened.ensures))
