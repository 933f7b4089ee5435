-- The number that each call gives, its refusals tried in document 01's order. A number depends on whether the bench is sound, on the arguments
-- (of slices, on their lengths), on the phase of the lane that is named and on whether it admits the caller.
use Rattle.std.specs.Prelude.{Bool, not, ℕ, eqb, leb, ltb}
use Rattle.answers.specs.Numbers.{DONE, BAD_KEY_LENGTH, BAD_BLOCK_LENGTH, BAD_LANE, LANE_NOT_IDLE, LANE_NOT_FINISHED, TOO_MANY_TURNS, BAD_DIRECTION, BAD_BENCH, NOT_THE_OWNER, BAD_ORDER}
use Rattle.answers.specs.Order.{unless}
use Rattle.published.specs.Seen.{is_order}
use Rattle.lane.specs.Record.{idle, finished}

-- how many lanes a bench has
unfoldable pub lane_count : ℕ
lane_count = 16

-- Opening: 10, 5, 6, 11, 9, 13, 1, 2.
unfoldable pub open_code : Bool → (lane phase owner direction order key block : ℕ) → ℕ
open_code sound lane phase owner direction order key block =
    unless sound BAD_BENCH
    (unless (ltb lane lane_count) BAD_LANE
    (unless (eqb phase idle) LANE_NOT_IDLE
    (unless (not (eqb owner 0)) NOT_THE_OWNER
    (unless (leb direction 1) BAD_DIRECTION
    (unless (is_order order) BAD_ORDER
    (unless (eqb key 16) BAD_KEY_LENGTH
    (unless (eqb block 16) BAD_BLOCK_LENGTH
    DONE)))))))

-- Turns: 10, 8.
unfoldable pub turn_code : Bool → (asked : ℕ) → ℕ
turn_code sound asked =
    unless sound BAD_BENCH
    (unless (leb asked 1024) TOO_MANY_TURNS
    DONE)

-- Taking: 10, 5, 11, 7, 2.
unfoldable pub take_code : Bool → (lane : ℕ) → Bool → (phase out : ℕ) → ℕ
take_code sound lane admitted phase out =
    unless sound BAD_BENCH
    (unless (ltb lane lane_count) BAD_LANE
    (unless admitted NOT_THE_OWNER
    (unless (eqb phase finished) LANE_NOT_FINISHED
    (unless (eqb out 16) BAD_BLOCK_LENGTH
    DONE))))

-- Closing: 10, 5, 11.
unfoldable pub close_code : Bool → (lane : ℕ) → Bool → ℕ
close_code sound lane admits =
    unless sound BAD_BENCH
    (unless (ltb lane lane_count) BAD_LANE
    (unless admits NOT_THE_OWNER
    DONE))
