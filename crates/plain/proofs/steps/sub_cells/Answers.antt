-- `plain::steps::sub_cells`: the nibbles before x have gone through the table.
use native.Mathlib.Omega.{arith}
use Rattle.published.specs.Rounds.{sub_cells}
use Rattle.plain.proofs.Tables.{through_none, through_next, through_all}
use Rattle.plain.proofs.steps.sub_cells.Goals as goal

pub loop-x-init : goal.loop-x-init
loop-x-init c = (omega arith, through_none _ _)

pub loop-x-preserved : goal.loop-x-preserved
loop-x-preserved c =
    let l = c.loop-x in
    (omega arith, through_next _ _ l.x-index l.s l.invariant.1 (omega (arith, l.invariant.1.same)))

pub returns : goal.returns
unfolding sub_cells
returns c =
    let l = c.loop-x in
    through_all _ c.args.s.now l.x-index l.s c.requires.1 c.requires.0.small l.invariant.1 (omega arith)

-- the nibble that is looked up is one
pub bounds-table-x : goal.bounds-table-x
bounds-table-x c = let l = c.loop-x in rw (l.invariant.1.rest l.x-index (omega arith)) (c.requires.0.small l.x-index)
