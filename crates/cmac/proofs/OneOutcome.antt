-- No call has a second outcome: each promise as the source cites it, and one law.
use mathlib.Core.List.{List}
use Prim.Native.Nat.{ℕ}
use Rattle.answers.specs.Outcome.{OneOutcome}
use Rattle.answers.proofs.Outcome.{one_outcome}
use Rattle.cmac.specs.Calls.{TagsWhole, Checks, Starts, Feeds, TagsState}
use Rattle.cmac.specs.declared.Mac.{Mac}

module _ (key message tag piece : List ℕ) (s : Mac) where
  pub whole : OneOutcome (TagsWhole key message tag)
  whole = one_outcome _ _ _

  pub check : OneOutcome (Checks key message tag)
  check = one_outcome _ _ _

  pub start : OneOutcome (Starts key)
  start = one_outcome _ _ _

  pub feed : OneOutcome (Feeds s piece)
  feed = one_outcome _ _ _

  pub state-tag : OneOutcome (TagsState s tag)
  state-tag = one_outcome _ _ _
