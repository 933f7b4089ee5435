-- A call is refused and changes nothing, or is done: then each line of its order was passed, and it leaves what it is said to leave.
use mathlib.Core.Path.{◌≡◌}
use mathlib.Core.Bool.{true}
use mathlib.Core.List.{List, []}
use mathlib.Core.Logic.{◌≢◌}
use Prim.Native.Nat.{ℕ, ◌≤◌, ◌<◌}
use lib.ListN.{length}
use Rattle.answers.proofs.Outcome.{if_done_lem, if_refused}
use Rattle.published.specs.Seen.{is_order}
use Rattle.lane.specs.Record.{idle, finished, admits, idle_lane}
use Rattle.lane_turns.specs.Turns.{opened}
use Rattle.bench_orders.specs.Orders.{lane_count}
use Rattle.bench_orders.proofs.Passing.{open_passed, turn-passed, take-passed, close_passed}
use Rattle.bench_turns.specs.declared.Bench.{Bench}
use Rattle.bench_turns.specs.Turning.{lane_at, turned_by, served_by}
use Rattle.bench_turns.proofs.Soundness.{Sound, is_sound}
use Rattle.bench.specs.Calls.{put, answered, open_of, turn_of, take_of, close_of}
use Rattle.bench_history.specs.History.{Call, opening, turning, taking, closing, answer_to, code_of, leaves, tells, asks, serves}

-- ---- refused

module _ (b : Bench) where
  pub refused-leaves : (c : Call) → code_of b c ≢ 0 → leaves b c ≡ b
  unfolding answer_to open_of turn_of take_of close_of answered
  refused-leaves (opening lane owner direction order key block) ne = if_refused _ _ b ne
  refused-leaves (turning asked) ne = if_refused _ _ b ne
  refused-leaves (taking lane caller out) ne = if_refused _ _ b ne
  refused-leaves (closing lane caller) ne = if_refused _ _ b ne

  pub refused-tells : (c : Call) → code_of b c ≢ 0 → tells b c ≡ 0
  unfolding answer_to open_of turn_of take_of close_of answered
  refused-tells (opening lane owner direction order key block) ne = if_refused _ _ 0 ne
  refused-tells (turning asked) ne = if_refused _ _ 0 ne
  refused-tells (taking lane caller out) ne = if_refused _ _ 0 ne
  refused-tells (closing lane caller) ne = if_refused _ _ 0 ne

  pub refused-serves : (c : Call) → code_of b c ≢ 0 → serves b c ≡ []
  unfolding serves
  refused-serves c ne = if_refused (code_of b c) _ [] ne

-- ---- done

pub record OpenDone (b : Bench) (lane owner direction order : ℕ) (key block : List ℕ) : Type 0 where
  pub sound : Sound b
  pub lane_lt : lane < lane_count
  pub was_idle : (lane_at b.lanes lane).phase ≡ idle
  pub owned : owner ≢ 0
  pub direction_le : direction ≤ 1
  pub ordered : is_order order ≡ true
  pub key_long : length key ≡ 16
  pub block_long : length block ≡ 16
  pub left : leaves b (opening lane owner direction order key block) ≡ put b lane (opened owner direction order key block)
  pub none : serves b (opening lane owner direction order key block) ≡ []

pub opens : (b : Bench) (lane owner direction order : ℕ) (key block : List ℕ) → code_of b (opening lane owner direction order key block) ≡ 0 → OpenDone b lane owner direction order key block
unfolding answer_to open_of answered serves asks served_by
opens b lane owner direction order key block e =
    let p = open_passed _ lane _ owner direction order (length key) (length block) e in
    record {
      sound = is_sound b p.is_sound;
      lane_lt = p.lane_lt;
      was_idle = p.was_idle;
      owned = p.owned;
      direction_le = p.direction_le;
      ordered = p.ordered;
      key_long = p.key_long;
      block_long = p.block_long;
      left = if_done_lem _ _ b e;
      none = if_done_lem _ _ [] e;
    }

pub record TurnDone (b : Bench) (asked : ℕ) : Type 0 where
  pub sound : Sound b
  pub few : asked ≤ 1024
  pub left : leaves b (turning asked) ≡ turned_by asked b
  pub logged : serves b (turning asked) ≡ served_by asked b

pub turns : (b : Bench) (asked : ℕ) → code_of b (turning asked) ≡ 0 → TurnDone b asked
unfolding answer_to turn_of answered serves asks
turns b asked e =
    let p = turn-passed _ asked e in
    record { sound = is_sound b p.is_sound; few = p.few; left = if_done_lem _ _ b e; logged = if_done_lem _ _ [] e }

pub record TakeDone (b : Bench) (lane caller : ℕ) (out : List ℕ) : Type 0 where
  pub sound : Sound b
  pub lane_lt : lane < lane_count
  pub admitted : admits (lane_at b.lanes lane) caller ≡ true
  pub was_finished : (lane_at b.lanes lane).phase ≡ finished
  pub out_long : length out ≡ 16
  pub left : leaves b (taking lane caller out) ≡ put b lane idle_lane
  pub none : serves b (taking lane caller out) ≡ []

pub takes : (b : Bench) (lane caller : ℕ) (out : List ℕ) → code_of b (taking lane caller out) ≡ 0 → TakeDone b lane caller out
unfolding answer_to take_of answered serves asks served_by
takes b lane caller out e =
    let p = take-passed _ lane _ _ (length out) e in
    record {
      sound = is_sound b p.is_sound;
      lane_lt = p.lane_lt;
      admitted = p.admits;
      was_finished = p.was_finished;
      out_long = p.out_long;
      left = if_done_lem _ _ b e;
      none = if_done_lem _ _ [] e;
    }

pub record CloseDone (b : Bench) (lane caller : ℕ) : Type 0 where
  pub sound : Sound b
  pub lane_lt : lane < lane_count
  pub admitted : admits (lane_at b.lanes lane) caller ≡ true
  pub left : leaves b (closing lane caller) ≡ put b lane idle_lane
  pub none : serves b (closing lane caller) ≡ []

pub closings : (b : Bench) (lane caller : ℕ) → code_of b (closing lane caller) ≡ 0 → CloseDone b lane caller
unfolding answer_to close_of answered serves asks served_by
closings b lane caller e =
    let p = close_passed _ lane _ e in
    record { sound = is_sound b p.is_sound; lane_lt = p.lane_lt; admitted = p.admits; left = if_done_lem _ _ b e; none = if_done_lem _ _ [] e }
