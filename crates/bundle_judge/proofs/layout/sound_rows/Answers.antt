-- `bundle_judge::layout::sound_rows`: the entries before the one at hand stand right; that has id `low` at least, and its body is at `at`.
use mathlib.Core.Path.{sym, ap, ◌∙◌}
use mathlib.Core.List.{List}
use Prim.Native.Nat.{ℕ, ◌+◌}
use native.Mathlib.Omega.{arith}
use lib.ListN.{drop}
use Rattle.std.specs.Prelude.{map}
use Rattle.bits.proofs.Truth.{both, told-false, told-true}
use Rattle.bundle_format.proofs.Editions.{stands_only}
use Rattle.bundle_format.specs.Reader.{end_of, row_of, in_place, sound_rows}
use Rattle.bundle_judge.proofs.Cutting.{rows_left, rows_end}
use Rattle.bundle_judge.proofs.Judging.{sound-told, sound_more, sound_not}
use Rattle.bundle_judge.proofs.layout.sound_rows.Goals as goal

pub returns-then-not-sound_row : goal.returns-then-not-sound_row
returns-then-not-sound_row c =
    let a = c.args in
    let b : List ℕ = a.b.now in
    let l = c.loop-entry in
    let r = c.row_of-row in
    let no = told-false (sound-told a.reader b l.low l.at r.result a.edition c.sound_row.result c.requires.edition_value c.sound_row.ensures) c.if-not-sound_row.true in
    sym (l.invariant.1 ∙ ap (sound_rows a.reader b l.low l.at) (rows_left a.entries.now l.entry-index r.result (omega arith) r.ensures) ∙ sound_not a.reader b l.low l.at r.result (map row_of (drop (l.entry-index + 1) a.entries.now)) no)

pub loop-entry-preserved : goal.loop-entry-preserved
loop-entry-preserved c =
    let a = c.args in
    let b : List ℕ = a.b.now in
    let l = c.loop-entry in
    let r = c.row_of-row in
    let yes = told-true (sound-told a.reader b l.low l.at r.result a.edition c.sound_row.result c.requires.edition_value c.sound_row.ensures) c.if-not-sound_row.false in
    let s = stands_only (end_of b) l.low l.at r.result (both (in_place (end_of b) l.low l.at r.result) _ yes).0 in (
      s.ends,
      l.invariant.1 ∙ ap (sound_rows a.reader b l.low l.at) (rows_left a.entries.now l.entry-index r.result (omega arith) r.ensures) ∙ sound_more a.reader b l.low l.at r.result (map row_of (drop (l.entry-index + 1) a.entries.now)) yes,
    )

pub returns : goal.returns
unfolding sound_rows
returns c =
    let a = c.args in
    let b : List ℕ = a.b.now in
    let l = c.loop-entry in
    sym (l.invariant.1 ∙ ap (sound_rows a.reader b l.low l.at) (rows_end a.entries.now l.entry-index (omega arith)))
