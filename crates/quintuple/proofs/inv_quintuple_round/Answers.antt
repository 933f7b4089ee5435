-- `quintuple::inv_quintuple_round`: five rounds undone by the part that it reads are the quintuple undone.
use mathlib.Core.Path.{ap, ◌∙◌}
use Rattle.bits.proofs.Truth.{told-false, told-true}
use Rattle.primitives.specs.Packed.{block_of, state_of}
use Rattle.quintuple.specs.declared.Part.{Part}
use Rattle.quintuple.specs.Inner.{unfive_of}
use Rattle.quintuple.proofs.Five.{is_good_lem, unstays}
use Rattle.quintuple.proofs.Chain.{unfive_is}
use Rattle.quintuple.proofs.inv_quintuple_round.Goals as goal

pub returns-then-not-starts : goal.returns-then-not-starts
returns-then-not-starts c =
    let a = c.args in
    unstays a.state a.rkey.now a.i (told-false c.starts.ensures c.if-not-starts.true)

pub returns : goal.returns
returns c =
    let a = c.args in
    let ok = is_good_lem a.rkey.now a.i (told-true c.starts.ensures c.if-not-starts.false) in
    c.inv_by_part.ensures ∙ ap (λ (p : Part). unfive_of p (state_of (block_of a.state))) c.read_part.ensures
    ∙ unfive_is a.state a.rkey.now a.i ok.0 ok.1 ok.2 (λ n. (c.type_inv.rkey n).fits)
