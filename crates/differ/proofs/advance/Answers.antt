-- `differ::advance`: the ids before the next one of either bundle are absent in both.
use mathlib.Core.Path.{◌∙◌}
use native.Mathlib.Omega.{arith}
use Rattle.differ.proofs.Tables.{look-told, within}
use Rattle.differ.proofs.Stretches.{step-ends, step_same, step_found}
use Rattle.differ.proofs.advance.Goals as goal

pub returns-then-next-ge-IDS : goal.returns-then-next-ge-IDS
returns-then-next-ge-IDS c =
    let a = c.args in
    step-ends a.one.bundle.now a.two.bundle.now a.low c.min-next.result c.first_from-a.result c.first_from-b.result c.first_from-a.ensures c.first_from-b.ensures c.min-next.ensures c.requires (omega (arith, c.if-next-ge-IDS.true))

pub same_answer-requires : goal.same_answer-requires
same_answer-requires c =
    let a = c.args in
    let id = c.min-next.result in
    let x = c.look-x.ensures ∙ look-told a.one.seen a.one.bundle.now a.one.looked a.one.formed id in
    let y = c.look-y.ensures ∙ look-told a.two.seen a.two.bundle.now a.two.looked a.two.formed id in
    record { len_in_bounds = rw x (within a.one.seen a.one.bundle.now a.one.looked a.one.formed id); len_in_bounds_2 = rw y (within a.two.seen a.two.bundle.now a.two.looked a.two.formed id) }

pub returns-then-same_answer : goal.returns-then-same_answer
returns-then-same_answer c =
    let a = c.args in
    let id = c.min-next.result in
    step_same a.one.bundle.now a.two.bundle.now a.low id c.first_from-a.result c.first_from-b.result c.first_from-a.ensures c.first_from-b.ensures c.min-next.ensures
    c.if-next-ge-IDS.false c.look-x.result c.look-y.result (c.look-x.ensures ∙ look-told a.one.seen a.one.bundle.now a.one.looked a.one.formed id)
    (c.look-y.ensures ∙ look-told a.two.seen a.two.bundle.now a.two.looked a.two.formed id) c.same_answer.result c.same_answer.ensures c.if-same_answer.true

pub returns : goal.returns
returns c =
    let a = c.args in
    let id = c.min-next.result in
    step_found a.one.bundle.now a.two.bundle.now a.low id c.first_from-a.result c.first_from-b.result c.first_from-a.ensures c.first_from-b.ensures c.min-next.ensures
    c.if-next-ge-IDS.false c.look-x.result c.look-y.result (c.look-x.ensures ∙ look-told a.one.seen a.one.bundle.now a.one.looked a.one.formed id)
    (c.look-y.ensures ∙ look-told a.two.seen a.two.bundle.now a.two.looked a.two.formed id) c.same_answer.result c.same_answer.ensures c.if-same_answer.false
