-- What each call promises to answer: its number, the turns told, and the bench that it leaves; of a take, the bytes too. A refusal gives back what came in.
use Rattle.std.specs.Prelude.{List, ℕ, ◌-◌, min, length, set, replicate}
use Rattle.std.specs.declared.result.Result.{Result}
use Rattle.std.specs.declared.result.Result.TheVariants.{Ok, Err}
use Rattle.answers.specs.declared.Refusal.{Refusal}
use Rattle.answers.specs.Refusals.{number}
use Rattle.answers.specs.Order.{if_done}
use Rattle.lane.specs.declared.Lane.{Lane}
use Rattle.lane.specs.Record.{admits, idle_lane}
use Rattle.lane_turns.specs.Turns.{opened, lacks, yielded}
use Rattle.bench_orders.specs.Orders.{lane_count, open_code, turn_code, take_code, close_code}
use Rattle.bench_turns.specs.declared.Bench.{Bench}
use Rattle.bench_turns.specs.Sound.{sound_bench}
use Rattle.bench_turns.specs.Turning.{lane_at, turned_by, total}
use Rattle.bench.specs.declared.Answer as source

-- a fresh bench: all idle, all zero, the last lane the one last served
unfoldable pub fresh_bench : Bench
fresh_bench = record { lanes = replicate lane_count idle_lane; last = lane_count - 1 }

-- a bench with another record in lane i
unfoldable pub put : Bench → ℕ → Lane → Bench
put b i l = record { lanes = set b.lanes i l; last = b.last }

-- what a call answers: its number, the turns told, and the bench that it leaves
pub record Answer : Type 0 where
  pub code : ℕ
  pub made : ℕ
  pub bench : Bench

-- the same of what the code gives back: the number of a refusal, or 0 and the turns made
abbrev pub turns_told : Result ℕ Refusal → ℕ
turns_told (Ok made) = made
turns_told (Err refusal) = 0

abbrev pub told : source.Answer → Answer
told a = record { code = number a.made; made = turns_told a.made; bench = a.bench }

-- the answer with this number: the turns and the bench of a call that is done, or else none and the bench as it was
unfoldable pub answered : (number made : ℕ) (new old : Bench) → Answer
answered number made new old = record { code = number; made = if_done number made 0; bench = if_done number new old }

unfoldable pub open_of : Bench → (lane owner direction order : ℕ) (key block : List ℕ) → Answer
open_of b lane owner direction order key block =
    answered (open_code (sound_bench b) lane (lane_at b.lanes lane).phase owner direction order (length key) (length block)) 0
    (put b lane (opened owner direction order key block)) b

unfoldable pub turn_of : Bench → (asked : ℕ) → Answer
turn_of b asked = answered (turn_code (sound_bench b) asked) (min asked (total lacks b.lanes)) (turned_by asked b) b

unfoldable pub take_of : Bench → (lane caller : ℕ) (out : List ℕ) → Answer
take_of b lane caller out =
    answered (take_code (sound_bench b) lane (admits (lane_at b.lanes lane) caller) (lane_at b.lanes lane).phase (length out)) 0
    (put b lane idle_lane) b

-- what stands afterwards in the buffer that was lent for a take
unfoldable pub taken_bytes : Bench → (lane caller : ℕ) (out : List ℕ) → List ℕ
taken_bytes b lane caller out = if_done (take_of b lane caller out).code (yielded (lane_at b.lanes lane) out) out

unfoldable pub close_of : Bench → (lane caller : ℕ) → Answer
close_of b lane caller = answered (close_code (sound_bench b) lane (admits (lane_at b.lanes lane) caller)) 0 (put b lane idle_lane) b
