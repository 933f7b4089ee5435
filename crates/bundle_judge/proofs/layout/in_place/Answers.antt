-- `bundle_judge::layout::in_place`, test by test.
use Prim.Native.Nat.{◌+◌}
use native.Mathlib.Omega.{arith}
use borrow.Author.Tests.{eq-eqb, ne_eqb, le-leb, lt-leb}
use Rattle.bundle_format.specs.Reader.{in_place}
use Rattle.bundle_judge.proofs.layout.in_place.Goals as goal

pub returns-then-row-low : goal.returns-then-row-low
unfolding in_place
returns-then-row-low c = rw (lt-leb _ _ c.if-row-low.true)

pub returns-then-row-at : goal.returns-then-row-at
unfolding in_place
returns-then-row-at c = rw (le-leb _ _ c.if-row-low.false, ne_eqb _ _ c.if-row-at.true)

pub returns-then-end-at : goal.returns-then-end-at
unfolding in_place
returns-then-end-at c =
    let a = c.args in
    rw (le-leb _ _ c.if-row-low.false, eq-eqb _ _ c.if-row-at.false, lt-leb (a.at + a.row.len) a.end (omega arith))

pub returns : goal.returns
unfolding in_place
returns c =
    let a = c.args in
    rw (le-leb _ _ c.if-row-low.false, eq-eqb _ _ c.if-row-at.false, le-leb (a.at + a.row.len) a.end (omega arith))
