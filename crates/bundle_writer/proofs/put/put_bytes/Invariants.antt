-- `bundle_writer::put::put_bytes`: the bytes before place i are copied.
use mathlib.Core.Path.{◌≡◌}
use Rattle.bits.proofs.Filling.{written}
use Rattle.bundle_writer.proofs.put.put_bytes.Given as goal

abbrev pub invariant-loop-i : goal.invariant-loop-i
invariant-loop-i l = l.out ≡ written l.bytes l.initial.out l.i
