-- `key_schedule::exchanged`: one exchange more, and in the end all.
use mathlib.Core.Path.{sym, ap, ◌∙◌}
use mathlib.Core.List.{List}
use Prim.Native.Nat.{ℕ, ◌+◌, ◌≤◌, ◌<◌}
use lib.ListN.{length, drop, drop_of_length-le}
use borrow.Author.Rules.{rules}
use Rattle.std.proofs.lemmas.List.{drop_more}
use Rattle.key_schedule.specs.InnerMoves.{exchanged}
use Rattle.key_schedule.proofs.exchanged.Goals as goal

pub loop-mask-preserved : goal.loop-mask-preserved
unfolding exchanged
loop-mask-preserved g c =
    let l = c.loop-mask in
    let ss : List (ℕ × ℕ) = c.args.swaps in
    let one : l.mask-index < length ss = search rules in
    ap (exchanged (drop (l.mask-index + 1) ss)) c.swap_both-y.ensures
    ∙ sym (ap (λ (left : List (ℕ × ℕ)). exchanged left l.y) (drop_more ss l.mask-index _ one))
    ∙ l.invariant

pub returns : goal.returns
unfolding exchanged
returns g c =
    let l = c.loop-mask in
    let ss : List (ℕ × ℕ) = c.args.swaps in
    let all : length ss ≤ l.mask-index = search rules in
    sym (ap (λ (left : List (ℕ × ℕ)). exchanged left l.y) (drop_of_length-le ss {i = l.mask-index} all)) ∙ l.invariant
