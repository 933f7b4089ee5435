-- `bundle_writer::put::put_bytes`: the bytes before place i are copied.
use mathlib.Core.Path.{refl, sym}
use native.Mathlib.Omega.{arith}
use Rattle.bits.proofs.Filling.{written_more, written_all}
use Rattle.bundle_writer.proofs.put.put_bytes.Goals as goal

pub loop-i-preserved : goal.loop-i-preserved
loop-i-preserved c =
    let l = c.loop-i in
    written_more c.args.bytes.now c.args.out.now l.out l.i _ (sym c.requires) (omega arith) l.invariant refl

pub returns : goal.returns
returns c =
    let l = c.loop-i in
    written_all c.args.bytes.now c.args.out.now l.out l.i (sym c.requires) (omega arith) l.invariant
