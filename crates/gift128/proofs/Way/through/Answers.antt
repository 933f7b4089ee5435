-- `gift128::Way::through`: eight quintuples are the forty published rounds, done or undone.
use mathlib.Core.Path.{◌∙◌}
use native.Mathlib.Omega.{arith}
use lib.ListN.{length}
use borrow.Author.Rules.{rules}
use Rattle.std.proofs.Common.{◌≡◌}
use Rattle.bits.proofs.Computed.{cond-true}
use Rattle.quintuple.proofs.Several.{reaches, forty-done, forty-undone}
use Rattle.gift128.proofs.Way.through.Goals as goal

pub returns-then-self : goal.returns-then-self
returns-then-self c =
    let ws = c.args.self.words.now in
    let eighty : length ws ≡ 80 = search rules in
    rw c.if-self.true (c.inv_quintuples.ensures ∙ cond-true _ _ _ (reaches ws 0 8 eighty (omega arith)) ∙ forty-undone ws eighty c.args.s)

pub returns : goal.returns
returns c =
    let ws = c.args.self.words.now in
    let eighty : length ws ≡ 80 = search rules in
    rw c.if-self.false (c.quintuples.ensures ∙ cond-true _ _ _ (reaches ws 0 8 eighty (omega arith)) ∙ forty-done ws eighty c.args.s)
