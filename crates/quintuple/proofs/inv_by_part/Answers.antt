-- `quintuple::inv_by_part`: its five rounds undone, one after the other.
use mathlib.Core.Path.{sym, ap, ◌∙◌}
use native.Mathlib.Omega.{arith}
use Rattle.primitives.proofs.Blocks.{state_of_block_of}
use Rattle.quintuple.specs.Inner.{unfive_of}
use Rattle.quintuple.proofs.Chain.{unmade}
use Rattle.quintuple.proofs.inv_by_part.Goals as goal

pub returns : goal.returns
returns c =
    let a = c.args in
    unmade a.p a.s _ _ _ _ _ _ _ _ _ _ c.exchanged.ensures c.inv_round-a.ensures c.exchanged-2.ensures c.inv_round-b.ensures c.exchanged-3.ensures c.inv_round-c.ensures c.exchanged-4.ensures c.inv_round-d.ensures c.exchanged-5.ensures c.inv_round.ensures
    ∙ ap (unfive_of a.p) (sym (state_of_block_of a.s (omega (arith, c.well_formed))))
