-- `key_schedule::moved`: one part more, and in the end all.
use mathlib.Core.Path.{sym, ap, ◌∙◌}
use mathlib.Core.List.{List}
use Prim.Native.Nat.{ℕ, ◌+◌, ◌≤◌, ◌<◌}
use lib.Bits.{bit_or}
use lib.ListN.{length, drop, drop_of_length-le}
use borrow.Author.Rules.{rules}
use Rattle.std.proofs.lemmas.List.{drop_more}
use Rattle.key_schedule.specs.declared.Part.{Part}
use Rattle.key_schedule.specs.InnerMoves.{beside, moved}
use Rattle.key_schedule.proofs.moved.Goals as goal

pub loop-part-preserved : goal.loop-part-preserved
unfolding beside
loop-part-preserved g c =
    let l = c.loop-part in
    let ps : List Part = c.args.parts in
    let one : l.part-index < length ps = search rules in
    ap (λ (b : ℕ). beside (bit_or l.y b) (drop (l.part-index + 1) ps) c.args.x) c.of-y.ensures
    ∙ sym (ap (λ (left : List Part). beside l.y left c.args.x) (drop_more ps l.part-index _ one))
    ∙ l.invariant

pub returns : goal.returns
unfolding beside moved
returns g c =
    let l = c.loop-part in
    let ps : List Part = c.args.parts in
    let all : length ps ≤ l.part-index = search rules in
    sym (ap (λ (left : List Part). beside l.y left c.args.x) (drop_of_length-le ps {i = l.part-index} all)) ∙ l.invariant
