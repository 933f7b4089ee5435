-- `bundle_judge::layout::sound_rows`: the entries before the one at hand stand right; that has id `low` at least, and its body is at `at`.
use mathlib.Core.Path.{◌≡◌}
use Prim.Native.Nat.{◌≤◌}
use lib.ListN.{length, drop}
use Rattle.std.specs.Prelude.{map}
use Rattle.bundle_format.specs.Format.{first_body}
use Rattle.bundle_format.specs.Reader.{end_of, row_of, sound_rows}
use Rattle.bundle_judge.proofs.layout.sound_rows.Given as goal

abbrev pub invariant-loop-entry : goal.invariant-loop-entry
invariant-loop-entry l =
    (l.at ≤ end_of l.b) × (sound_rows l.reader l.b 0 (first_body (length l.entries)) (map row_of l.entries) ≡ sound_rows l.reader l.b l.low l.at (map row_of (drop l.entry-index l.entries)))
