-- `gift64::rounds::Stand::round`: the box, the moves, the key and the constant, one after the other.
use mathlib.Core.Path.{ap, ◌∙◌}
use Rattle.primitives.specs.declared.State.{State}
use Rattle.quintuple.specs.Inner.{exchanged_of}
use Rattle.gift64.specs.Inner.{moved_by, keyed_of, standing, subround}
use Rattle.gift64.proofs.rounds.Stand.round.Goals as goal

pub returns : goal.returns
unfolding subround
returns c =
    let a = c.args in
    c.keyed.ensures
    ∙ ap (λ (x : State). keyed_of x a.w a.c) (c.exchange.ensures ∙ ap (moved_by (standing a.self)) (c.exchanged.ensures ∙ ap exchanged_of c.sbox.ensures))
