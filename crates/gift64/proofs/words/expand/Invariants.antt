-- `gift64::words::expand`: the words of the first 2 i rounds are stored, and the key state stands after them.
use mathlib.Core.Path.{◌≡◌}
use Prim.Native.Nat.{◌-◌, ◌*◌, ◌≤◌}
use Rattle.published.specs.Bytes.{from_bytes}
use Rattle.key_schedule.proofs.KeyState.{four_of}
use Rattle.gift64.proofs.Keys.{after, Stored}
use Rattle.gift64.proofs.words.expand.Given as goal

abbrev pub invariant-loop-i : goal.invariant-loop-i
invariant-loop-i l = (l.i ≤ 14) × (l.k ≡ four_of (after (2 * l.i) (from_bytes l.key))) × Stored (from_bytes l.key) l.i l.words

abbrev pub decreases-loop-i : goal.decreases-loop-i
decreases-loop-i l = 14 - l.i
