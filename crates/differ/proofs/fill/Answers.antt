-- `differ::fill`: the lines with ids below `low` are laid in k rows.
use native.Mathlib.Omega.{arith}
use Rattle.differ.proofs.Rows.{filled-start, filled_fit, filled_more, filled-end}
use Rattle.differ.proofs.fill.Goals as goal

pub loop-low-init : goal.loop-low-init
loop-low-init c = filled-start _ _ _

pub keep-k-requires : goal.keep-k-requires
keep-k-requires c =
    let a = c.args in
    let l = c.loop-low in
    let r = c.advance-s in
    filled_fit a.one.bundle.now a.two.bundle.now a.rows.now l.rows l.low l.k l.invariant c.requires r.result r.ensures

pub loop-low-preserved : goal.loop-low-preserved
loop-low-preserved c =
    let a = c.args in
    let l = c.loop-low in
    let r = c.advance-s in
    let k = c.keep-k in
    filled_more a.one.bundle.now a.two.bundle.now a.rows.now l.rows l.low l.k l.invariant c.requires r.result r.ensures k.new.rows k.result k.ensures.0 k.ensures.1

pub returns : goal.returns
returns c =
    let a = c.args in
    let l = c.loop-low in
    filled-end a.one.bundle.now a.two.bundle.now a.rows.now l.rows l.low l.k l.invariant c.requires c.loop-low-test.false

pub loop-low-smaller : goal.loop-low-smaller
loop-low-smaller c = omega (arith, c.advance-s.ensures.rises, c.advance-s.ensures.most)

pub shape_of-rows : goal.shape_of-rows
shape_of-rows c = c.loop-low.invariant.size
