-- `quintuple::inv_quintuples`: the quintuples from the one that is reached on are undone.
use mathlib.Core.Path.{◌≡◌, ap, ◌∙◌}
use mathlib.Core.List.{List}
use Prim.Native.Nat.{ℕ, ◌+◌, ◌-◌, ◌*◌}
use native.Mathlib.Omega.{arith}
use borrow.Author.Rules.{part_to_end}
use Rattle.quintuple.specs.Quintuple.{unquintupled, unseveral}
use Rattle.quintuple.proofs.Several.{one_undone}
use Rattle.quintuple.proofs.inv_quintuples.Goals as goal

pub loop-k-init : goal.loop-k-init
unfolding unseveral
loop-k-init c m e = let a = c.args in let none : 0 ≡ m = omega arith in ap (λ (n : ℕ). unseveral a.rkey.now n (a.from + 5 * a.n) a.s) none

pub loop-k-preserved : goal.loop-k-preserved
loop-k-preserved c m e =
    let l = c.loop-k in
    let a = c.args in
    let ws : List ℕ = a.rkey.now in
    let i : ℕ = a.from + 5 * (l.k - 1) in
    let next : i + 5 ≡ a.from + 5 * l.k = omega arith in
    c.inv_quintuple_round-state.ensures ∙ ap (λ (part : List ℕ). unquintupled l.state part i) (part_to_end ws (2 * i))
    ∙ one_undone ws i (a.from + 5 * l.k) (a.from + 5 * a.n) next (omega arith) l.state a.s (λ n f. l.invariant n (omega arith)) m (omega arith)
