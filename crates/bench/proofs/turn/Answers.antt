-- `bench::turn` answers as said: its number first, and if that is 0 the turns made.
use mathlib.Core.Path.{refl}
use Rattle.bench_orders.proofs.Passing.{not_done}
use Rattle.bench.proofs.Answered.{turn-refused, turn-done}
use Rattle.bench.proofs.turn.Goals as goal

pub returns-in-Err : goal.returns-in-Err
returns-in-Err c = turn-refused c.args.b c.args.asked c.sound.ensures c.in-Err.ensures (not_done c.in-Err.refusal)

pub returns : goal.returns
returns c = turn-done c.args.b c.args.asked c.sound.ensures c.in_default.ensures refl c.turns-many.ensures.0 c.turns-many.ensures.1
