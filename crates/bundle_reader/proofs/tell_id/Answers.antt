-- `bundle_reader::tell_id`: none of the entries before the one at hand has the id.
use mathlib.Core.Path.{sym, ap, ◌∙◌}
use Prim.Native.Nat.{◌+◌}
use native.Mathlib.Omega.{arith}
use lib.ListN.{drop}
use Rattle.std.specs.Prelude.{map}
use Rattle.bundle_format.specs.Reader.{row_of, tell_in}
use Rattle.bundle_judge.proofs.Cutting.{rows_left, rows_end}
use Rattle.bundle_reader.proofs.Steps.{tell_here, tell_more}
use Rattle.bundle_reader.proofs.tell_id.Goals as goal

pub returns-then-row-id : goal.returns-then-row-id
returns-then-row-id c =
    let a = c.args in
    let l = c.loop-entry in
    let r = c.row_of-row in
    c.tell_row.ensures
    ∙ sym (l.invariant ∙ ap (tell_in a.reader a.id) (rows_left a.entries.now l.entry-index r.result (omega arith) r.ensures) ∙ tell_here a.reader r.result (map row_of (drop (l.entry-index + 1) a.entries.now)) a.id c.if-row-id.true)

pub loop-entry-preserved : goal.loop-entry-preserved
loop-entry-preserved c =
    let a = c.args in
    let l = c.loop-entry in
    let r = c.row_of-row in
    l.invariant ∙ ap (tell_in a.reader a.id) (rows_left a.entries.now l.entry-index r.result (omega arith) r.ensures) ∙ tell_more a.reader r.result (map row_of (drop (l.entry-index + 1) a.entries.now)) a.id c.if-row-id.false

pub returns : goal.returns
unfolding tell_in
returns c =
    let a = c.args in
    let l = c.loop-entry in
    c.only.ensures ∙ sym (l.invariant ∙ ap (tell_in a.reader a.id) (rows_end a.entries.now l.entry-index (omega arith)))
