-- `bundle_judge::layout::all_known`: of the entries before the one at hand none is missed.
use mathlib.Core.Path.{sym, ap, ◌∙◌}
use Prim.Native.Nat.{◌+◌}
use native.Mathlib.Omega.{arith}
use lib.ListN.{drop}
use Rattle.std.specs.Prelude.{map}
use Rattle.bits.proofs.Truth.{told-false, told-true}
use Rattle.bundle_format.specs.Reader.{row_of, all_known}
use Rattle.bundle_judge.proofs.Cutting.{rows_left, rows_end}
use Rattle.bundle_judge.proofs.Judging.{known_more, known_not}
use Rattle.bundle_judge.proofs.layout.all_known.Goals as goal

pub returns-then-not-knows_row : goal.returns-then-not-knows_row
returns-then-not-knows_row c =
    let a = c.args in
    let l = c.loop-entry in
    let r = c.row_of in
    let no = told-false c.knows_row.ensures c.if-not-knows_row.true in
    sym (l.invariant ∙ ap (all_known a.reader) (rows_left a.entries.now l.entry-index r.result (omega arith) r.ensures) ∙ known_not a.reader r.result (map row_of (drop (l.entry-index + 1) a.entries.now)) no)

pub loop-entry-preserved : goal.loop-entry-preserved
loop-entry-preserved c =
    let a = c.args in
    let l = c.loop-entry in
    let r = c.row_of in
    let yes = told-true c.knows_row.ensures c.if-not-knows_row.false in
    l.invariant ∙ ap (all_known a.reader) (rows_left a.entries.now l.entry-index r.result (omega arith) r.ensures) ∙ known_more a.reader r.result (map row_of (drop (l.entry-index + 1) a.entries.now)) yes

pub returns : goal.returns
unfolding all_known
returns c =
    let a = c.args in
    let l = c.loop-entry in
    sym (l.invariant ∙ ap (all_known a.reader) (rows_end a.entries.now l.entry-index (omega arith)))
