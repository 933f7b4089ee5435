-- `bundle_reader::tell_id`: none of the entries before the one at hand has the id.
use mathlib.Core.Path.{◌≡◌}
use lib.ListN.{drop}
use Rattle.std.specs.Prelude.{map}
use Rattle.bundle_format.specs.Reader.{row_of, tell_in}
use Rattle.bundle_reader.proofs.tell_id.Given as goal

abbrev pub invariant-loop-entry : goal.invariant-loop-entry
invariant-loop-entry l = tell_in l.reader l.id (map row_of l.entries) ≡ tell_in l.reader l.id (map row_of (drop l.entry-index l.entries))
