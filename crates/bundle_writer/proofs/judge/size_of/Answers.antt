-- `bundle_writer::judge::size_of`: the sizes of the rows before the one at hand are summed.
use native.Mathlib.Omega.{arith}
use Rattle.bundle_writer.proofs.Lent.{sizes_left, sizes_end}
use Rattle.bundle_writer.proofs.judge.size_of.Goals as goal

pub loop-row-preserved : goal.loop-row-preserved
loop-row-preserved c =
    let l = c.loop-row in
    let left = sizes_left c.args.rows.now l.row-index (omega arith) in
    (omega arith, omega arith)

pub returns : goal.returns
returns c =
    let l = c.loop-row in
    let left = sizes_end c.args.rows.now l.row-index (omega arith) in
    omega arith
