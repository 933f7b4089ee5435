-- `gift64::rounds::Stand::unround`: the key and the constant, the moves and the inverse box, one after the other.
use mathlib.Core.Path.{ap, ◌∙◌}
use Rattle.published.specs.Inner.{unentry}
use Rattle.quintuple.specs.Boxes.{boxed}
use Rattle.quintuple.specs.Inner.{exchanged_of}
use Rattle.gift64.specs.Inner.{moved_by, standing, unsubround}
use Rattle.gift64.proofs.rounds.Stand.unround.Goals as goal

pub returns : goal.returns
unfolding unsubround
returns c =
    c.exchanged.ensures
    ∙ ap exchanged_of (c.inv_sbox.ensures ∙ ap (boxed unentry) (c.exchange.ensures ∙ ap (moved_by (standing c.args.self)) c.keyed.ensures))
