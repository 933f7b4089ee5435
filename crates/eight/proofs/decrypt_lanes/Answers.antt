-- `eight::decrypt_lanes`: in every lane of every four the quintuples from the one that was reached are undone.
use Rattle.std.proofs.Common.{◌≡◌, ◌∙◌, ℕ, ◌-◌, ◌*◌, List, ap, subst, drop, arith, rules}
use Rattle.quintuple.specs.Inner.{part_in}
use Rattle.eight.proofs.Rounds.{Undone, from_its_own, every_none, every_then, every_is, undone_none, undone_more, undone_all}
use Rattle.eight.proofs.decrypt_lanes.Goals as goal

pub loop-n-init : goal.loop-n-init
loop-n-init c = every_none _ _ (undone_none _)

pub loop-n-preserved : goal.loop-n-preserved
loop-n-preserved c =
    let q = c.loop-n in
    let ws : List ℕ = c.args.rkey.now in
    let n : ℕ = q.n - 1 in
    let read : c.part_at-q.result ≡ part_in (drop (2 * (5 * n)) ws) (5 * n) = c.part_at-q.ensures ∙ ap (λ (l : List ℕ). part_in l (5 * n)) (from_its_own ws c.told-rkey n) in
    every_then _ _ _ _ _ _ q.invariant c.every.ensures (λ x y z before here. undone_more ws c.told-rkey c.fits-rkey (5 * n) (omega arith) (omega arith) c.part_at-q.result read x y z _ (omega arith) before (search rules))

pub returns : goal.returns
returns c =
    let ws : List ℕ = c.args.rkey.now in
    let end : c.loop-n.n ≡ 0 = omega arith in
    every_is _ _ _ _ c.loop-n.invariant (λ x y before. undone_all ws c.told-rkey x y (let P : ℕ → Type 0 = λ n. Undone ws (5 * n) x y in subst P end before))
