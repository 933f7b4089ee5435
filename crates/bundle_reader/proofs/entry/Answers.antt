-- `bundle_reader::entry`: whether there is an answer, and then the entry.
use mathlib.Core.Path.{ap, ◌∙◌}
use Rattle.std.specs.Prelude.{map}
use Rattle.bits.proofs.Truth.{told-false, told-true}
use Rattle.bundle_format.specs.Reader.{row_of, tell_at, entry_of}
use Rattle.bundle_judge.proofs.Cutting.{entries_rows}
use Rattle.bundle_reader.proofs.Steps.{answers_fit}
use Rattle.bundle_reader.proofs.entry.Goals as goal

pub returns-then-not-answers_for : goal.returns-then-not-answers_for
unfolding entry_of
returns-then-not-answers_for c = rw (told-false c.answers_for.ensures c.if-not-answers_for.true) c.only.ensures

pub returns : goal.returns
unfolding entry_of
returns c =
    let a = c.args in
    let yes = told-true c.answers_for.ensures c.if-not-answers_for.false in
    rw yes (c.tell_entry.ensures ∙ ap (tell_at a.seen.reader a.i) (ap (map row_of) c.table.ensures ∙ entries_rows a.seen.count a.bundle.now (answers_fit a.seen a.bundle.now yes)))
