-- `gift64::rounds::round_constant`: the table's rule, by a test over its 28 words, and 0 past its end.
use mathlib.Core.Path.{sym, ◌∙◌}
use mathlib.Core.List.{List, [], ◌∷◌}
use Prim.Native.Nat.{ℕ, zero, suc}
use lib.ListN.{get_or}
use borrow.Author.Tests.{lt-ltb, le-ltb}
use Rattle.bits.specs.Digit.{digit, number, bit, of_bits}
use Rattle.bits.proofs.Computed.{cond-true, cond-false, agree}
use Rattle.published.specs.Rounds.{step, constant}
use Rattle.gift64.specs.Inner.{constant_word}
use Rattle.gift64.proofs.rounds.round_constant.Goals as goal

-- what the rule says of n rounds from round r on: for all 28 this computes to the table of the source, number for number
abbrev ruled : ℕ → ℕ → List ℕ
ruled zero r = []
ruled (suc n) r = constant_word r ∷ ruled n (suc r)

pub returns-then-r-lt28 : goal.returns-then-r-lt28
unfolding digit number bit of_bits step constant constant_word
returns-then-r-lt28 c = agree 28 (λ k. get_or (ruled 28 0) k 0) constant_word tt c.args.r c.if-r-lt28.true ∙ sym (cond-true _ _ _ (lt-ltb _ 28 c.if-r-lt28.true))

pub returns-else-r-lt28 : goal.returns-else-r-lt28
returns-else-r-lt28 c = sym (cond-false _ _ _ (le-ltb _ 28 c.if-r-lt28.false))
