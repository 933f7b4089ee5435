-- `bundle_reader::look`: whether there is an answer, and then the id.
use mathlib.Core.Path.{ap, ◌∙◌}
use Rattle.std.specs.Prelude.{map}
use Rattle.bits.proofs.Truth.{told-false, told-true}
use Rattle.bundle_format.specs.Reader.{row_of, tell_in, looked_up}
use Rattle.bundle_judge.proofs.Cutting.{entries_rows}
use Rattle.bundle_reader.proofs.Steps.{answers_fit}
use Rattle.bundle_reader.proofs.look.Goals as goal

pub returns-then-not-answers_for : goal.returns-then-not-answers_for
unfolding looked_up
returns-then-not-answers_for c = rw (told-false c.answers_for.ensures c.if-not-answers_for.true) c.only.ensures

pub returns : goal.returns
unfolding looked_up
returns c =
    let a = c.args in
    let yes = told-true c.answers_for.ensures c.if-not-answers_for.false in
    rw yes (c.tell_id.ensures ∙ ap (tell_in a.seen.reader a.id) (ap (map row_of) c.table.ensures ∙ entries_rows a.seen.count a.bundle.now (answers_fit a.seen a.bundle.now yes)))
