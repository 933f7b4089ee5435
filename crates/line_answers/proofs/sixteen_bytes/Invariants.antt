-- `line_answers::sixteen_bytes` holds, at each turn, the bytes of the pairs passed, which are digits.
use mathlib.Core.Path.{◌≡◌}
use Prim.Native.Nat.{ℕ, ◌*◌, ◌<◌}
use lib.ListN.{length, take, get_or}
use Rattle.text.specs.Hex.{bytes_of, value_of}
use Rattle.line_answers.proofs.sixteen_bytes.Given as goal

abbrev pub invariant-loop-i : goal.invariant-loop-i
invariant-loop-i l = (length l.out ≡ 16) × (take l.i l.out ≡ take l.i (bytes_of l.text)) × ((k : ℕ) → k < 2 * l.i → value_of (get_or l.text k 0) < 16)
