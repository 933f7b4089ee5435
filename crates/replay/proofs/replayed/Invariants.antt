-- What has come of a line fits its place.
use Rattle.std.proofs.Common.{◌≤◌}
use Rattle.replay.proofs.replayed.Given as goal

abbrev pub invariant-loop-byte : goal.invariant-loop-byte
invariant-loop-byte g l = l.n ≤ 4096
