-- What a call that is done has passed: each line of its order.
use mathlib.Core.Path.{◌≡◌, refl}
use mathlib.Core.Bool.{Bool, true, not}
use mathlib.Core.Logic.{◌≢◌}
use Prim.Native.Nat.{ℕ, ◌≤◌, ◌<◌}
use lib.Dec.{eqb, leb, ltb}
use borrow.Author.Tests.{eqb-true, eqb-false, leb-true, ltb-true, not-true}
use Rattle.answers.specs.Numbers.{DONE, BAD_KEY_LENGTH, BAD_BLOCK_LENGTH, BAD_LANE, LANE_NOT_IDLE, LANE_NOT_FINISHED, TOO_MANY_TURNS, BAD_DIRECTION, BAD_BENCH, NOT_THE_OWNER, BAD_ORDER}
use Rattle.answers.specs.declared.Refusal.{Refusal}
use Rattle.answers.specs.declared.Refusal.TheVariants.{BadKeyLength, BadBlockLength, BadOutputLength, BadWordCount, BadLane, LaneNotIdle, LaneNotFinished, TooManyTurns, BadDirection, BadBench, BadState, NotTheOwner, TooFewCounters, BadOrder, BadBundleLength, BadTag, Malformed, MustKnow, BadList, ShortOutput}
use Rattle.answers.specs.Refusals.{number_of}
use Rattle.answers.proofs.Passed.{passed}
use Rattle.published.specs.Seen.{is_order}
use Rattle.lane.specs.Record.{idle, finished}
use Rattle.bench_orders.specs.Orders.{lane_count, open_code, turn_code, take_code, close_code}

-- no refusal has the number of a call that is done
pub not_done : (refusal : Refusal) → number_of refusal ≢ 0
not_done BadKeyLength = eqb-false 1 0 refl
not_done BadBlockLength = eqb-false 2 0 refl
not_done BadOutputLength = eqb-false 3 0 refl
not_done BadWordCount = eqb-false 4 0 refl
not_done BadLane = eqb-false 5 0 refl
not_done LaneNotIdle = eqb-false 6 0 refl
not_done LaneNotFinished = eqb-false 7 0 refl
not_done TooManyTurns = eqb-false 8 0 refl
not_done BadDirection = eqb-false 9 0 refl
not_done BadBench = eqb-false 10 0 refl
not_done BadState = eqb-false 10 0 refl
not_done NotTheOwner = eqb-false 11 0 refl
not_done TooFewCounters = eqb-false 12 0 refl
not_done BadOrder = eqb-false 13 0 refl
not_done BadBundleLength = eqb-false 20 0 refl
not_done BadTag = eqb-false 21 0 refl
not_done Malformed = eqb-false 22 0 refl
not_done MustKnow = eqb-false 23 0 refl
not_done BadList = eqb-false 24 0 refl
not_done ShortOutput = eqb-false 25 0 refl

pub record OpenPassed (sound : Bool) (lane phase owner direction order key block : ℕ) : Type 0 where
  pub is_sound : sound ≡ true
  pub lane_lt : lane < lane_count
  pub was_idle : phase ≡ idle
  pub owned : owner ≢ 0
  pub direction_le : direction ≤ 1
  pub ordered : is_order order ≡ true
  pub key_long : key ≡ 16
  pub block_long : block ≡ 16

pub open_passed : (sound : Bool) (lane phase owner direction order key block : ℕ) → open_code sound lane phase owner direction order key block ≡ 0
    → OpenPassed sound lane phase owner direction order key block
unfolding open_code
open_passed sound lane phase owner direction order key block e =
    let p1 = passed sound BAD_BENCH _ refl e in
    let p2 = passed (ltb lane lane_count) BAD_LANE _ refl p1.1 in
    let p3 = passed (eqb phase idle) LANE_NOT_IDLE _ refl p2.1 in
    let p4 = passed (not (eqb owner 0)) NOT_THE_OWNER _ refl p3.1 in
    let p5 = passed (leb direction 1) BAD_DIRECTION _ refl p4.1 in
    let p6 = passed (is_order order) BAD_ORDER _ refl p5.1 in
    let p7 = passed (eqb key 16) BAD_KEY_LENGTH _ refl p6.1 in
    let p8 = passed (eqb block 16) BAD_BLOCK_LENGTH DONE refl p7.1 in
    record {
      is_sound = p1.0;
      lane_lt = ltb-true lane lane_count p2.0;
      was_idle = eqb-true phase idle p3.0;
      owned = eqb-false owner 0 (not-true (eqb owner 0) p4.0);
      direction_le = leb-true direction 1 p5.0;
      ordered = p6.0;
      key_long = eqb-true key 16 p7.0;
      block_long = eqb-true block 16 p8.0;
    }

pub record TurnPassed (sound : Bool) (asked : ℕ) : Type 0 where
  pub is_sound : sound ≡ true
  pub few : asked ≤ 1024

pub turn-passed : (sound : Bool) (asked : ℕ) → turn_code sound asked ≡ 0 → TurnPassed sound asked
unfolding turn_code
turn-passed sound asked e =
    let p1 = passed sound BAD_BENCH _ refl e in
    let p2 = passed (leb asked 1024) TOO_MANY_TURNS DONE refl p1.1 in
    record { is_sound = p1.0; few = leb-true asked 1024 p2.0 }

pub record TakePassed (sound : Bool) (lane : ℕ) (admitted : Bool) (phase out : ℕ) : Type 0 where
  pub is_sound : sound ≡ true
  pub lane_lt : lane < lane_count
  pub admits : admitted ≡ true
  pub was_finished : phase ≡ finished
  pub out_long : out ≡ 16

pub take-passed : (sound : Bool) (lane : ℕ) (admitted : Bool) (phase out : ℕ) → take_code sound lane admitted phase out ≡ 0
    → TakePassed sound lane admitted phase out
unfolding take_code
take-passed sound lane admitted phase out e =
    let p1 = passed sound BAD_BENCH _ refl e in
    let p2 = passed (ltb lane lane_count) BAD_LANE _ refl p1.1 in
    let p3 = passed admitted NOT_THE_OWNER _ refl p2.1 in
    let p4 = passed (eqb phase finished) LANE_NOT_FINISHED _ refl p3.1 in
    let p5 = passed (eqb out 16) BAD_BLOCK_LENGTH DONE refl p4.1 in
    record {
      is_sound = p1.0;
      lane_lt = ltb-true lane lane_count p2.0;
      admits = p3.0;
      was_finished = eqb-true phase finished p4.0;
      out_long = eqb-true out 16 p5.0;
    }

pub record ClosePassed (sound : Bool) (lane : ℕ) (admitted : Bool) : Type 0 where
  pub is_sound : sound ≡ true
  pub lane_lt : lane < lane_count
  pub admits : admitted ≡ true

pub close_passed : (sound : Bool) (lane : ℕ) (admitted : Bool) → close_code sound lane admitted ≡ 0 → ClosePassed sound lane admitted
unfolding close_code
close_passed sound lane admitted e =
    let p1 = passed sound BAD_BENCH _ refl e in
    let p2 = passed (ltb lane lane_count) BAD_LANE _ refl p1.1 in
    let p3 = passed admitted NOT_THE_OWNER DONE refl p2.1 in
    record { is_sound = p1.0; lane_lt = ltb-true lane lane_count p2.0; admits = p3.0 }
