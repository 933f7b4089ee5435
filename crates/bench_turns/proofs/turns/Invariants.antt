-- `bench_turns::turns` makes the turns asked for, while a lane runs.
use Rattle.bench_turns.proofs.Rest.{Rest}
use Rattle.bench_turns.proofs.turns.Given as goal

abbrev pub invariant-loop-made : goal.invariant-loop-made
invariant-loop-made l = Rest l.asked l.initial.bench l.made l.bench
