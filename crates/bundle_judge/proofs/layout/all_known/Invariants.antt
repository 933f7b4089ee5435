-- `bundle_judge::layout::all_known`: of the entries before the one at hand none is missed.
use mathlib.Core.Path.{◌≡◌}
use lib.ListN.{drop}
use Rattle.std.specs.Prelude.{map}
use Rattle.bundle_format.specs.Reader.{row_of, all_known}
use Rattle.bundle_judge.proofs.layout.all_known.Given as goal

abbrev pub invariant-loop-entry : goal.invariant-loop-entry
invariant-loop-entry l = all_known l.reader (map row_of l.entries) ≡ all_known l.reader (map row_of (drop l.entry-index l.entries))
