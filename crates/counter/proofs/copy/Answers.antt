-- `counter::copy`: the bytes before place i are copied.
use mathlib.Core.Path.{refl}
use native.Mathlib.Omega.{arith}
use Rattle.bits.proofs.Filling.{written_more, written_all}
use Rattle.counter.proofs.copy.Goals as goal

pub loop-i-preserved : goal.loop-i-preserved
loop-i-preserved c =
    let l = c.loop-i in
    written_more c.args.from.now c.args.to.now l.to l.i _ c.requires (omega arith) l.invariant refl

pub returns : goal.returns
returns c =
    let l = c.loop-i in
    written_all c.args.from.now c.args.to.now l.to l.i c.requires (omega arith) l.invariant
