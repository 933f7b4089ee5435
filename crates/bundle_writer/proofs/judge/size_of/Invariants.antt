-- `bundle_writer::judge::size_of`: the sizes of the rows before the one at hand are summed.
use mathlib.Core.Path.{◌≡◌}
use Prim.Native.Nat.{◌+◌, ◌*◌, ◌≤◌}
use lib.ListN.{drop}
use Rattle.bundle_writer.specs.Inner.{sizes_in}
use Rattle.bundle_writer.proofs.judge.size_of.Given as goal

abbrev pub invariant-loop-row : goal.invariant-loop-row
invariant-loop-row l = (l.sum ≤ 4294967296 * l.row-index) × (l.sum + sizes_in (drop l.row-index l.rows) ≡ sizes_in l.rows)
