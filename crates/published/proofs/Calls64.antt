-- The calls of GIFT-64: what one that is done has passed, and that none has a second outcome.
use mathlib.Core.Path.{◌≡◌, refl}
use mathlib.Core.Bool.{Bool}
use mathlib.Core.List.{List}
use Prim.Native.Nat.{ℕ}
use lib.Dec.{eqb}
use borrow.Author.Tests.{eqb-true}
use Rattle.answers.specs.Numbers.{DONE, BAD_KEY_LENGTH, BAD_BLOCK_LENGTH}
use Rattle.answers.specs.Outcome.{OneOutcome}
use Rattle.answers.proofs.Passed.{passed}
use Rattle.answers.proofs.Outcome.{one_outcome}
use Rattle.published.specs.Calls64.{key_code64, CiphersByKey64, CiphersBlocks64}

pub key_passed_64 : (key block : ℕ) → key_code64 key block ≡ 0 → (key ≡ 16) × (block ≡ 8)
unfolding key_code64
key_passed_64 key block e =
    let p1 = passed (eqb key 16) BAD_KEY_LENGTH _ refl e in
    let p2 = passed (eqb block 8) BAD_BLOCK_LENGTH DONE refl p1.1 in
    (eqb-true key 16 p1.0, eqb-true block 8 p2.0)

module _ (back : Bool) (key block input output : List ℕ) where
  pub by_key : OneOutcome (CiphersByKey64 back key block)
  by_key = one_outcome _ _ _

  pub blocks_by_key : OneOutcome (CiphersBlocks64 back key input output)
  blocks_by_key = one_outcome _ _ _
