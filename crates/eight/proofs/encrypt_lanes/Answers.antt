-- `eight::encrypt_lanes`: what is left of the quintuples, done to the lanes that are reached, is all of them done to the first.
use Rattle.std.proofs.Common.{◌≡◌, ◌∙◌, ℕ, ◌*◌, List, ap, subst, drop, arith, rules}
use Rattle.quintuple.specs.Inner.{part_in}
use Rattle.eight.proofs.Rounds.{Left, from_its_own, every_none, every_then, every_is, left_none, left_more, left_all}
use Rattle.eight.proofs.encrypt_lanes.Goals as goal

pub loop-n-init : goal.loop-n-init
loop-n-init c = every_none _ _ (left_none _)

pub loop-n-preserved : goal.loop-n-preserved
loop-n-preserved c =
    let q = c.loop-n in
    let ws : List ℕ = c.args.rkey.now in
    let read : c.part_at-p.result ≡ part_in (drop (2 * (5 * q.n)) ws) (5 * q.n) = c.part_at-p.ensures ∙ ap (λ (l : List ℕ). part_in l (5 * q.n)) (from_its_own ws c.told-rkey q.n) in
    every_then _ _ _ _ _ _ q.invariant c.every.ensures (λ x y z before here. left_more ws c.told-rkey c.fits-rkey (5 * q.n) (omega arith) (omega arith) c.part_at-p.result read x y z _ (omega arith) before (search rules))

pub returns : goal.returns
returns c =
    let ws : List ℕ = c.args.rkey.now in
    let end : c.loop-n.n ≡ 8 = omega arith in
    every_is _ _ _ _ c.loop-n.invariant (λ x y before. left_all ws c.told-rkey x y (let P : ℕ → Type 0 = λ n. Left ws (5 * n) x y in subst P end before))
