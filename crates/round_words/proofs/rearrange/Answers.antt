-- `round_words::rearrange`: the numbers before place i are rearranged.
use mathlib.Core.Path.{sym, ap, ◌∙◌}
use mathlib.Core.List.{List}
use Prim.Native.Nat.{ℕ}
use native.Mathlib.Omega.{arith}
use lib.ListN.{get_or, length-set}
use Rattle.bits.proofs.Filling.{written_more, written_all}
use Rattle.round_words.specs.Arranged.{arranged}
use Rattle.round_words.specs.Inner.{rearranged}
use Rattle.round_words.proofs.Rows.{length-rearranged, at_place, place-lt}
use Rattle.round_words.proofs.rearrange.Goals as goal

pub arrange-requires : goal.arrange-requires
arrange-requires c = rw c.place.ensures (place-lt _ _)

pub loop-i-preserved : goal.loop-i-preserved
loop-i-preserved c =
    let l = c.loop-i in
    let back = c.args.back in
    let xs : List ℕ = c.args.given.now in
    let old : List ℕ = c.args.out.now in
    let whole = length-rearranged back xs ∙ c.told-given ∙ sym c.told-out in
    let made = c.arrange.ensures ∙ ap (λ (k : ℕ). arranged k (get_or xs l.i 0)) c.place.ensures ∙ sym (at_place back xs l.i (omega arith)) in
    (omega arith, simp length-set l.invariant.1, written_more (rearranged back xs) old l.out l.i c.arrange.result whole (omega arith) l.invariant.2 made)

pub returns : goal.returns
returns c =
    let l = c.loop-i in
    let xs : List ℕ = c.args.given.now in
    let old : List ℕ = c.args.out.now in
    written_all (rearranged c.args.back xs) old l.out l.i (length-rearranged c.args.back xs ∙ c.told-given ∙ sym c.told-out) (omega arith) l.invariant.2
