-- `quintuple::quintuples`: what is left of the quintuples, done to the state that is reached, is all of them done to the first.
use mathlib.Core.Path.{◌≡◌, sym, ap, ◌∙◌}
use mathlib.Core.List.{List}
use Prim.Native.Nat.{ℕ, suc, ◌+◌, ◌*◌}
use native.Mathlib.Omega.{arith}
use borrow.Author.Rules.{part_to_end}
use Rattle.bits.proofs.Truth.{told-true}
use Rattle.bits.proofs.Computed.{cond-true}
use Rattle.quintuple.specs.Quintuple.{quintupled, several}
use Rattle.quintuple.proofs.quintuples.Goals as goal

pub loop-k-preserved : goal.loop-k-preserved
unfolding several
loop-k-preserved c m e =
    let l = c.loop-k in
    let a = c.args in
    let ws : List ℕ = a.rkey.now in
    let i : ℕ = a.from + 5 * l.k in
    let next : a.from + 5 * (l.k + 1) ≡ i + 5 = omega arith in
    ap (λ (j : ℕ). several ws m j c.quintuple_round-state.result) next
    ∙ ap (several ws m (i + 5)) (c.quintuple_round-state.ensures ∙ ap (λ (part : List ℕ). quintupled l.state part i) (part_to_end ws (2 * i)))
    ∙ l.invariant (suc m) (omega arith)

pub returns : goal.returns
unfolding several
returns c = c.loop-k.invariant 0 (omega arith) ∙ sym (cond-true _ _ _ (told-true c.reaches.ensures c.if-not-reaches.false))
