-- `differ::count_all`: n lines have ids below `low`.
use mathlib.Core.Path.{sym, ◌∙◌}
use native.Mathlib.Omega.{arith}
use Rattle.differ.specs.Difference.{ids}
use Rattle.differ.proofs.Stretches.{most_lines}
use Rattle.differ.proofs.Rows.{one_line, no_line, counts_start, counts_end, counts_more, counts_fit}
use Rattle.differ.proofs.count_all.Goals as goal

pub loop-low-init : goal.loop-low-init
loop-low-init c = (omega arith, counts_start _ _)

pub overflow_add-n : goal.overflow_add-n
overflow_add-n c =
    let a = c.args in
    let l = c.loop-low in
    let r = c.advance-s in
    omega (arith, counts_fit a.one.bundle.now a.two.bundle.now l.low l.n l.invariant.1 r.result r.ensures, one_line r.result.found (sym c.is_some.ensures ∙ c.if-is_some.true), most_lines a.one.bundle.now a.two.bundle.now a.one.formed a.two.formed ids 0)

pub loop-low-preserved-then-is_some : goal.loop-low-preserved-then-is_some
loop-low-preserved-then-is_some c =
    let a = c.args in
    let l = c.loop-low in
    let r = c.advance-s in
    (r.ensures.most, rw (one_line r.result.found (sym c.is_some.ensures ∙ c.if-is_some.true)) at (counts_more a.one.bundle.now a.two.bundle.now l.low l.n l.invariant.1 r.result r.ensures))

pub loop-low-preserved : goal.loop-low-preserved
loop-low-preserved c =
    let a = c.args in
    let l = c.loop-low in
    let r = c.advance-s in
    (r.ensures.most, λ m e. omega (arith, counts_more a.one.bundle.now a.two.bundle.now l.low l.n l.invariant.1 r.result r.ensures m e, no_line r.result.found (sym c.is_some.ensures ∙ c.if-is_some.false)))

pub returns : goal.returns
returns c =
    let a = c.args in
    let l = c.loop-low in
    let e = counts_end a.one.bundle.now a.two.bundle.now l.low l.n l.invariant.1 (omega arith) in
    (e, omega (arith, e, most_lines a.one.bundle.now a.two.bundle.now a.one.formed a.two.formed ids 0))

pub loop-low-smaller-then-is_some : goal.loop-low-smaller-then-is_some
loop-low-smaller-then-is_some c = omega (arith, c.advance-s.ensures.rises, c.advance-s.ensures.most)

pub loop-low-smaller : goal.loop-low-smaller
loop-low-smaller c = omega (arith, c.advance-s.ensures.rises, c.advance-s.ensures.most)
