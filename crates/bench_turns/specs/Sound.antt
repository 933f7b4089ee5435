-- A sound bench: each of its records is, and the one last served is one of them.
use Rattle.std.specs.Prelude.{Bool, true, ◌&&◌, List, [], ◌∷◌, ℕ, eqb, ltb, length}
use Rattle.lane.specs.declared.Lane.{Lane}
use Rattle.lane.specs.Record.{sound_lane, admits}
use Rattle.bench_orders.specs.declared.Seen.{Seen}
use Rattle.bench_orders.specs.Orders.{lane_count}
use Rattle.bench_turns.specs.declared.Bench.{Bench}
use Rattle.bench_turns.specs.Turning.{lane_at}

unfoldable pub all_sound : List Lane → Bool
all_sound [] = true
all_sound (l ∷ ls) = sound_lane l && all_sound ls

-- as many records as there are lanes, each of them sound, and one of them last served
unfoldable pub sound_bench : Bench → Bool
sound_bench b = eqb (length b.lanes) lane_count && ltb b.last lane_count && all_sound b.lanes

-- what a call is told of the lane that it names: its phase, and whether it is open to the caller; a number that is no lane's counts as an idle one's
abbrev pub seen : List Lane → Bool → (lane caller : ℕ) → Seen
seen ls sound lane caller = record { sound = sound; phase = (lane_at ls lane).phase; admitted = admits (lane_at ls lane) caller }
