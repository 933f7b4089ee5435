-- `turning::save`: the blocks before place 16 b are written.
use mathlib.Core.Path.{◌≡◌}
use mathlib.Core.List.{List, ◌++◌}
use Prim.Native.Nat.{ℕ, ◌+◌, ◌-◌, ◌*◌, ◌≤◌}
use lib.ListN.{length, take, get_or}
use Rattle.published.specs.Bytes.{to_bytes}
use Rattle.published.specs.Blocks.{joined}
use Rattle.turning.proofs.save.Given as goal

abbrev pub block : List ℕ → ℕ → List ℕ
block x b = to_bytes 8 (get_or x (b + 64) 0) ++ to_bytes 8 (get_or x b 0)

abbrev pub invariant-loop-b : goal.invariant-loop-b
invariant-loop-b l = (l.b ≤ 64) × (length l.output ≡ length l.initial.output) × (take (16 * l.b) l.output ≡ joined l.b (block l.x))

abbrev pub decreases-loop-b : goal.decreases-loop-b
decreases-loop-b l = 64 - l.b
