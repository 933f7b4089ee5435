-- `differ::compare`: both bundles looked through, the lines counted, and then laid.
use native.Mathlib.Omega.{arith}
use Rattle.differ.proofs.Outcomes.{code-told, looked, right, outcome_first, outcome_second, outcome_short, outcome_listed}
use Rattle.differ.proofs.compare.Goals as goal

pub returns-then-one-ne0 : goal.returns-then-one-ne0
returns-then-one-ne0 c =
    let a = c.args in
    outcome_first a.key.now a.first.now a.second.now a.rows.now c.open-one.result.code c.open-two.result.code (code-told _ _ _ c.open-one.ensures) (code-told _ _ _ c.open-two.ensures) c.if-one-ne0.true

pub returns-then-two-ne0 : goal.returns-then-two-ne0
returns-then-two-ne0 c =
    let a = c.args in
    outcome_second a.key.now a.first.now a.second.now a.rows.now c.open-one.result.code c.open-two.result.code (code-told _ _ _ c.open-one.ensures) (code-told _ _ _ c.open-two.ensures) c.if-one-ne0.false c.if-two-ne0.true

pub invariant_of-a : goal.invariant_of-a
invariant_of-a c = record { looked = looked _ _ _ c.open-one.ensures c.if-one-ne0.false; formed = right _ _ _ c.open-one.ensures c.if-one-ne0.false }

pub invariant_of-b : goal.invariant_of-b
invariant_of-b c = record { looked = looked _ _ _ c.open-two.ensures c.if-two-ne0.false; formed = right _ _ _ c.open-two.ensures c.if-two-ne0.false }

pub returns-then-rows-count : goal.returns-then-rows-count
returns-then-rows-count c =
    let a = c.args in
    rw c.from.ensures
    (outcome_short a.key.now a.first.now a.second.now a.rows.now c.open-one.result.code c.open-two.result.code (code-told _ _ _ c.open-one.ensures) (code-told _ _ _ c.open-two.ensures) c.if-one-ne0.false c.if-two-ne0.false c.count_all-count.result c.count_all-count.ensures.0 c.if-rows-count.true)

pub fill-requires : goal.fill-requires
fill-requires c = omega (arith, c.count_all-count.ensures.0, c.if-rows-count.false)

pub returns : goal.returns
returns c =
    let a = c.args in
    outcome_listed a.key.now a.first.now a.second.now a.rows.now c.open-one.result.code c.open-two.result.code (code-told _ _ _ c.open-one.ensures) (code-told _ _ _ c.open-two.ensures) c.if-one-ne0.false c.if-two-ne0.false c.count_all-count.result c.count_all-count.ensures.0 c.if-rows-count.false c.fill.new.rows c.fill.ensures
