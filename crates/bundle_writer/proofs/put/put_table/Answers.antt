-- `bundle_writer::put::put_table`: the entries of the rows before row i are written; the body of the next is at `at`.
use mathlib.Core.Path.{◌≡◌, sym, ap, ◌∙◌}
use mathlib.Core.List.{List, []}
use Prim.Native.Nat.{ℕ, ◌+◌, ◌-◌, ◌*◌}
use native.Mathlib.Omega.{arith}
use lib.ListN.{length, get_or, length-take, length-drop}
use Rattle.bundle_format.proofs.Rows.{length-row}
use Rattle.bundle_format.specs.Format.{table_of}
use Rattle.bundle_writer.specs.Inner.{lent_rows}
use Rattle.bundle_writer.proofs.Lent.{row_len, sizes_left}
use Rattle.bundle_writer.proofs.Stored.{table_more, table_end, put-length}
use Rattle.bundle_writer.proofs.put.put_table.Goals as goal

pub overflow_add-at : goal.overflow_add-at
overflow_add-at c =
    let rows : List (List ℕ) = c.args.rows.now in
    let l = c.loop-i in
    let r = c.lent_row-entry in
    let left = sizes_left rows l.i (omega arith) in
    let len = row_len l.at r.result (get_or rows l.i []) r.ensures in
    let room = c.requires.rows_bound in
    omega (arith, l.invariant.1)

pub loop-i-preserved : goal.loop-i-preserved
loop-i-preserved c =
    let a = c.args in
    let rows : List (List ℕ) = a.rows.now in
    let l = c.loop-i in
    let r = c.lent_row-entry in
    let p = c.copy_from_slice in
    let left = sizes_left rows l.i (omega arith) in
    let len = row_len l.at r.result (get_or rows l.i []) r.ensures in
    let new = p.ensures.after ∙ c.row_bytes.ensures in
    let twelve : 12 ≡ 12 * l.i + 12 - 12 * l.i = omega arith in (
      put-length (12 * l.i) (12 * l.i + 12) l.out p.new.self (omega arith) (ap length new ∙ length-row r.result ∙ twelve) ∙ l.invariant.0,
      omega (arith, l.invariant.1),
      table_more rows (table_of (lent_rows a.first rows)) l.out l.invariant.0 l.i l.at l.invariant.2 (omega arith) r.result r.ensures p.new.self new,
    )

pub returns : goal.returns
returns c =
    let a = c.args in
    let l = c.loop-i in
    table_end a.rows.now (table_of (lent_rows a.first a.rows.now)) l.out l.invariant.0 l.i l.at l.invariant.2 (omega arith) (omega arith)
