-- `bundle_writer::size`: 1, 24, 25, in this order, and the total.
use mathlib.Core.List.{List}
use Prim.Native.Nat.{ℕ}
use native.Mathlib.Omega.{arith}
use borrow.Author.Tests.{eq-eqb, ne_eqb, le-leb, lt-leb}
use Rattle.bits.proofs.Truth.{told-false, told-true}
use Rattle.bundle_format.specs.Format.{total_of}
use Rattle.bundle_format.specs.Writer.{list_of, write_code}
use Rattle.bundle_writer.proofs.Numbered.{Rows, good-rows}
use Rattle.bundle_writer.proofs.size.Goals as goal

pub returns-then-key-ne16-clause-is : goal.returns-then-key-ne16-clause-is
unfolding write_code
returns-then-key-ne16-clause-is c = rw (ne_eqb _ 16 c.if-key-ne16.true)

pub returns-then-not-good_rows-clause-is : goal.returns-then-not-good_rows-clause-is
unfolding write_code
returns-then-not-good_rows-clause-is c = rw (eq-eqb _ 16 c.if-key-ne16.false, told-false c.good_rows.ensures c.if-not-good_rows.true)

pub returns-then-room-total-clause-is : goal.returns-then-room-total-clause-is
unfolding write_code
returns-then-room-total-clause-is c =
    let a = c.args in
    let rows : List ℕ = a.rows.now in
    let pool : List ℕ = a.pool.now in
    let good = told-true c.good_rows.ensures c.if-not-good_rows.false in
    let r : Rows a.edition rows pool = good-rows a.edition rows pool good in
    rw (eq-eqb _ 16 c.if-key-ne16.false, good, lt-leb (total_of (list_of rows pool)) a.room (omega (arith, r.total)))

pub returns-clause-is : goal.returns-clause-is
unfolding write_code
returns-clause-is c =
    let a = c.args in
    let rows : List ℕ = a.rows.now in
    let pool : List ℕ = a.pool.now in
    let good = told-true c.good_rows.ensures c.if-not-good_rows.false in
    let r : Rows a.edition rows pool = good-rows a.edition rows pool good in
    rw (eq-eqb _ 16 c.if-key-ne16.false, good, le-leb (total_of (list_of rows pool)) a.room (omega (arith, r.total)))

pub returns-clause-total : goal.returns-clause-total
returns-clause-total c =
    let a = c.args in
    let rows : List ℕ = a.rows.now in
    let pool : List ℕ = a.pool.now in
    let r : Rows a.edition rows pool = good-rows a.edition rows pool (told-true c.good_rows.ensures c.if-not-good_rows.false) in
    omega (arith, r.total)
