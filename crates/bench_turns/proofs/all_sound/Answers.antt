-- `bench_turns::all_sound` tells whether every record is sound: whether those passed were, and what is left to look at, tell it.
use native.Mathlib.Omega.{arith}
use Rattle.bench_turns.proofs.Soundness.{one_more, all_seen}
use Rattle.bench_turns.proofs.all_sound.Goals as goal

pub loop-l-preserved : goal.loop-l-preserved
loop-l-preserved c = one_more _ c.loop-l.l-index c.loop-l.sound c.loop-l.invariant c.sound_lane-sound.ensures (omega arith)

pub returns : goal.returns
returns c = all_seen _ c.loop-l.l-index c.loop-l.sound c.loop-l.invariant (omega arith)
