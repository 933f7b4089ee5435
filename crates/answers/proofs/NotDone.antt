-- A refusal has a number that is not that of a call that was done.
use mathlib.Core.Path.{◌≡◌, refl}
use mathlib.Core.Bool.{false}
use mathlib.Core.Logic.{◌≢◌}
use lib.Dec.{eqb}
use borrow.Author.Tests.{eqb-false}
use Rattle.answers.specs.declared.Refusal.{Refusal}
use Rattle.answers.specs.declared.Refusal.TheVariants.{BadKeyLength, BadBlockLength, BadOutputLength, BadWordCount, BadLane, LaneNotIdle, LaneNotFinished, TooManyTurns, BadDirection, BadBench, BadState, NotTheOwner, TooFewCounters, BadOrder, BadBundleLength, BadTag, Malformed, MustKnow, BadList, ShortOutput}
use Rattle.answers.specs.Refusals.{number_of}

tested : (refusal : Refusal) → eqb (number_of refusal) 0 ≡ false
tested BadKeyLength = refl
tested BadBlockLength = refl
tested BadOutputLength = refl
tested BadWordCount = refl
tested BadLane = refl
tested LaneNotIdle = refl
tested LaneNotFinished = refl
tested TooManyTurns = refl
tested BadDirection = refl
tested BadBench = refl
tested BadState = refl
tested NotTheOwner = refl
tested TooFewCounters = refl
tested BadOrder = refl
tested BadBundleLength = refl
tested BadTag = refl
tested Malformed = refl
tested MustKnow = refl
tested BadList = refl
tested ShortOutput = refl

pub no_refusal_is_done : (refusal : Refusal) → number_of refusal ≢ 0
no_refusal_is_done refusal = eqb-false (number_of refusal) 0 (tested refusal)
