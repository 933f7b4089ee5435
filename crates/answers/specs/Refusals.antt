-- Whose number is whose: of each refusal, and of an answer, which is a refusal or done.
use Rattle.std.specs.Prelude.{ℕ}
use Rattle.std.specs.declared.result.Result.{Result}
use Rattle.std.specs.declared.result.Result.TheVariants.{Ok, Err}
use Rattle.answers.specs.declared.Refusal.{Refusal}
use Rattle.answers.specs.declared.Refusal.TheVariants.{BadKeyLength, BadBlockLength, BadOutputLength, BadWordCount, BadLane, LaneNotIdle, LaneNotFinished, TooManyTurns, BadDirection, BadBench, BadState, NotTheOwner, TooFewCounters, BadOrder, BadBundleLength, BadTag, Malformed, MustKnow, BadList, ShortOutput}
use Rattle.answers.specs.Numbers.{DONE, BAD_KEY_LENGTH, BAD_BLOCK_LENGTH, BAD_OUTPUT_LENGTH, BAD_WORD_COUNT, BAD_LANE, LANE_NOT_IDLE, LANE_NOT_FINISHED, TOO_MANY_TURNS, BAD_DIRECTION, BAD_BENCH, BAD_STATE, NOT_THE_OWNER, TOO_FEW_COUNTERS, BAD_ORDER, BAD_BUNDLE_LENGTH, BAD_TAG, MALFORMED, MUST_KNOW, BAD_LIST, SHORT_OUTPUT}

abbrev pub number_of : Refusal → ℕ
number_of BadKeyLength = BAD_KEY_LENGTH
number_of BadBlockLength = BAD_BLOCK_LENGTH
number_of BadOutputLength = BAD_OUTPUT_LENGTH
number_of BadWordCount = BAD_WORD_COUNT
number_of BadLane = BAD_LANE
number_of LaneNotIdle = LANE_NOT_IDLE
number_of LaneNotFinished = LANE_NOT_FINISHED
number_of TooManyTurns = TOO_MANY_TURNS
number_of BadDirection = BAD_DIRECTION
number_of BadBench = BAD_BENCH
number_of BadState = BAD_STATE
number_of NotTheOwner = NOT_THE_OWNER
number_of TooFewCounters = TOO_FEW_COUNTERS
number_of BadOrder = BAD_ORDER
number_of BadBundleLength = BAD_BUNDLE_LENGTH
number_of BadTag = BAD_TAG
number_of Malformed = MALFORMED
number_of MustKnow = MUST_KNOW
number_of BadList = BAD_LIST
number_of ShortOutput = SHORT_OUTPUT

-- 0 if the call was done, whatever it gives then
abbrev pub number : {A : Type 0} → Result A Refusal → ℕ
number (Ok _) = DONE
number (Err refusal) = number_of refusal
