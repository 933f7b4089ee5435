-- `lane_turns::advanced` asks for the lane's next quintuple round.
use mathlib.Core.Path.{◌≡◌, ◌∙◌}
use Prim.Native.Nat.{◌-◌, ◌*◌}
use lib.ListN.{length}
use native.Mathlib.Omega.{arith}
use borrow.Author.Rules.{rules}
use borrow.Author.Tests.{ne_eqb}
use Rattle.bits.proofs.Computed.{cond-true}
use Rattle.quintuple.specs.Quintuple.{several, unseveral}
use Rattle.quintuple.proofs.Several.{reaches}
use Rattle.lane_turns.specs.Turns.{advanced}
use Rattle.lane_turns.proofs.advanced.Goals as goal

pub returns-then-l : goal.returns-then-l
unfolding advanced several
returns-then-l c =
    let l = c.args.l in
    let long : length l.words ≡ 80 = search rules in
    c.quintuples.ensures ∙ cond-true _ _ _ (reaches l.words (5 * l.count) 1 long (omega (arith, c.requires))) ∙ rw c.if-l.true

pub returns : goal.returns
unfolding advanced unseveral
returns c =
    let l = c.args.l in
    let long : length l.words ≡ 80 = search rules in
    c.inv_quintuples.ensures ∙ cond-true _ _ _ (reaches l.words (35 - 5 * l.count) 1 long (omega (arith, c.requires))) ∙ rw (ne_eqb l.direction 0 c.if-l.false)
