-- `differ::first_from`: every entry before place i has a lower id.
use Prim.Native.Nat.{ℕ, ◌<◌, ◌≤◌}
use Rattle.bundle_format.specs.Reader.{rows_of, tell_at}
use Rattle.differ.proofs.first_from.Given as goal

abbrev pub invariant-loop-i : goal.invariant-loop-i
invariant-loop-i l = (l.i ≤ l.side.seen.count) × ((j : ℕ) → j < l.i → (tell_at 2 j (rows_of l.side.bundle.now)).id < l.low)
