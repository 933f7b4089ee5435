-- Neither call has a second outcome: each promise as the source cites it, and one law.
use mathlib.Core.List.{List}
use Prim.Native.Nat.{ℕ}
use Rattle.answers.specs.Outcome.{OneOutcome}
use Rattle.answers.proofs.Outcome.{one_outcome}
use Rattle.round_words.specs.Calls.{TellsPairs, TellsWords}

module _ (given out : List ℕ) where
  pub pairs : OneOutcome (TellsPairs given out)
  pairs = one_outcome _ _ _

  pub words : OneOutcome (TellsWords given out)
  words = one_outcome _ _ _
