-- `bundle_writer::put::put_table`: the entries of the rows before row i are written; the body of the next is at `at`.
use mathlib.Core.Path.{◌≡◌}
use mathlib.Core.List.{◌++◌}
use Prim.Native.Nat.{◌+◌, ◌*◌}
use lib.ListN.{length, take, drop}
use Rattle.bundle_format.specs.Format.{table_of}
use Rattle.bundle_writer.specs.Inner.{sizes_in, lent_rows}
use Rattle.bundle_writer.proofs.put.put_table.Given as goal

abbrev pub invariant-loop-i : goal.invariant-loop-i
invariant-loop-i l =
    (length l.out ≡ 12 * length l.rows)
    × (l.at + sizes_in (drop l.i l.rows) ≡ l.first + sizes_in l.rows)
    × (take (12 * l.i) l.out ++ table_of (lent_rows l.at (drop l.i l.rows)) ≡ table_of (lent_rows l.first l.rows))
