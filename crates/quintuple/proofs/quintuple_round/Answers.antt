-- `quintuple::quintuple_round`: five rounds by the part that it reads are the quintuple.
use mathlib.Core.Path.{ap, ◌∙◌}
use Rattle.bits.proofs.Truth.{told-false, told-true}
use Rattle.quintuple.specs.declared.Part.{Part}
use Rattle.quintuple.specs.Inner.{five_of}
use Rattle.quintuple.proofs.Five.{is_good_lem, stays}
use Rattle.quintuple.proofs.Chain.{five_is}
use Rattle.quintuple.proofs.quintuple_round.Goals as goal

pub returns-then-not-starts : goal.returns-then-not-starts
returns-then-not-starts c =
    let a = c.args in
    stays a.state a.rkey.now a.i (told-false c.starts.ensures c.if-not-starts.true)

pub returns : goal.returns
returns c =
    let a = c.args in
    let ok = is_good_lem a.rkey.now a.i (told-true c.starts.ensures c.if-not-starts.false) in
    c.by_part.ensures ∙ ap (λ (p : Part). five_of p a.state) c.read_part.ensures
    ∙ five_is a.state a.rkey.now a.i ok.0 ok.1 ok.2 (λ n. (c.type_inv.rkey n).fits)
