-- `bench_turns::all_sound` tells whether every record is sound: whether those passed were, and what is left to look at, tell it.
use mathlib.Core.Path.{◌≡◌}
use mathlib.Core.Bool.{◌&&◌}
use lib.ListN.{drop}
use Rattle.bench_turns.specs.Sound.{all_sound}
use Rattle.bench_turns.proofs.all_sound.Given as goal

abbrev pub invariant-loop-l : goal.invariant-loop-l
invariant-loop-l l = (l.sound && all_sound (drop l.l-index l.lanes)) ≡ all_sound l.lanes
