-- `bench_lent::turn` makes the turns that a call asks for.
use mathlib.Core.Path.{◌≡◌, refl, sym, ◌∙◌}
use native.Mathlib.Omega.{arith}
use Rattle.bench_orders.proofs.Passing.{not_done}
use Rattle.bench_turns.proofs.Rest.{rest_all, rest_one, rest_none, rest_over}
use Rattle.bench.proofs.Answered.{turn-refused, turn-done, turn_size}
use Rattle.bench_lent.specs.Lent.{bench_of}
use Rattle.bench_lent.proofs.Answering.{serves, turned-size}
use Rattle.bench_lent.proofs.turn.Goals as goal

pub returns-in-Err : goal.returns-in-Err
returns-in-Err c =
    let a = c.args in
    let b = bench_of a.lanes.now a.last in
    rw c.into.ensures (serves (turn-refused b a.asked c.sound.ensures c.in-Err.ensures (not_done c.in-Err.refusal)))

pub loop-made-init : goal.loop-made-init
loop-made-init c =
    let a = c.args in
    let b = bench_of a.lanes.now a.last in
    (turn_size b a.asked c.sound.ensures c.in_default.ensures refl, rest_all a.asked b)

pub turn_once-requires : goal.turn_once-requires
turn_once-requires c = c.loop-made.invariant.0

pub returns-in-None : goal.returns-in-None
returns-in-None c =
    let a = c.args in
    let b = bench_of a.lanes.now a.last in
    let q = c.loop-made in
    let d = rest_none a.asked b q.made (bench_of q.lanes q.latest) q.invariant.1 c.in-None.ensures.0 (omega arith) in
    rw (c.done.ensures, c.in-None.ensures.1) (serves (turn-done b a.asked c.sound.ensures c.in_default.ensures refl d.0 d.1))

pub loop-made-preserved : goal.loop-made-preserved
loop-made-preserved c =
    let a = c.args in
    let b = bench_of a.lanes.now a.last in
    let q = c.loop-made in
    let one = c.in-Some.ensures in
    (turned-size (bench_of q.lanes q.latest) one.1 ∙ q.invariant.0, rw one.1 (rest_one a.asked b q.made (bench_of q.lanes q.latest) q.invariant.1 one.0))

pub returns : goal.returns
returns c =
    let a = c.args in
    let b = bench_of a.lanes.now a.last in
    let q = c.loop-made in
    let all : q.made ≡ a.asked = omega arith in
    let d = rest_over a.asked b q.made (bench_of q.lanes q.latest) q.invariant.1 all in
    rw c.done-2.ensures (serves (turn-done b a.asked c.sound.ensures c.in_default.ensures refl (sym all ∙ d.0) d.1))
