-- `plain::read_key`: the words of the first i pairs of bytes are there. (That bytes are bytes is known where one is read.)
use Prim.Native.Nat.{◌-◌, ◌≤◌, ◌<◌}
use Rattle.published.specs.Bytes.{from_bytes, Bytes}
use Rattle.plain.proofs.Bytes.{KeyRead}
use Rattle.plain.proofs.read_key.Given as goal

abbrev pub invariant-loop-i : goal.invariant-loop-i
invariant-loop-i l = (l.i ≤ 8) × (0 < l.i → Bytes l.key) × KeyRead (from_bytes l.key) l.i l.k

abbrev pub decreases-loop-i : goal.decreases-loop-i
decreases-loop-i l = 8 - l.i
