-- No call of the cipher has a second outcome: each promise as the source cites it, and one law.
use mathlib.Core.Bool.{Bool}
use mathlib.Core.List.{List}
use Prim.Native.Nat.{ℕ}
use lib.ListN.{replicate}
use Rattle.answers.specs.Outcome.{OneOutcome}
use Rattle.answers.proofs.Outcome.{one_outcome}
use Rattle.key_schedule.specs.Expand.{Expands}
use Rattle.gift128.specs.Calls.{CiphersByKeyIn, CiphersByWordsIn, CiphersBlocksIn, CiphersBlocksByWordsIn, MakesOneRound, CiphersBlockIn}

module _ (back : Bool) (order : ℕ) (key words block input output : List ℕ) where
  pub precompute_rkeys : OneOutcome (Expands key words)
  precompute_rkeys = one_outcome _ _ _

  pub by_key : OneOutcome (CiphersByKeyIn back order key block)
  by_key = one_outcome _ _ _

  pub by_words : OneOutcome (CiphersByWordsIn back order words block)
  by_words = one_outcome _ _ _

  pub blocks : OneOutcome (CiphersBlocksIn back order key input output)
  blocks = one_outcome _ _ _

  pub blocks_by_words : OneOutcome (CiphersBlocksByWordsIn back order words input output)
  blocks_by_words = one_outcome _ _ _

  pub one_round : OneOutcome (MakesOneRound key block)
  one_round = one_outcome _ _ _

  pub new : OneOutcome (Expands key (replicate 80 0))
  new = one_outcome _ _ _

  pub block_by_its_own : OneOutcome (CiphersBlockIn back order words block)
  block_by_its_own = one_outcome _ _ _
