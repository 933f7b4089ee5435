-- `differ::same_answer`, part by part.
use mathlib.Core.Path.{◌≡◌, sym, ap₂, ◌∙◌}
use Prim.Native.Nat.{ℕ, ◌+◌, ◌-◌}
use native.Mathlib.Omega.{arith}
use lib.ListN.{take, drop}
use borrow.Author.Tests.{eq-eqb, ne_eqb}
use Rattle.cmac.specs.Calls.{same}
use Rattle.differ.specs.Difference.{alike}
use Rattle.differ.proofs.Compared_bytes.{same_bytes}
use Rattle.differ.proofs.same_answer.Goals as goal

pub returns-then-one-two : goal.returns-then-one-two
unfolding alike
returns-then-one-two c = rw (ne_eqb _ _ c.if-one-two.true)

pub returns-then-one-value : goal.returns-then-one-value
unfolding alike
returns-then-one-value c = rw (eq-eqb _ _ c.if-one-two.false, ne_eqb _ 3 (λ e. c.if-one-value.true (e ∙ sym c.from-value.ensures)))

pub returns-then-one-two-2 : goal.returns-then-one-two-2
unfolding alike
returns-then-one-two-2 c = rw (eq-eqb _ _ c.if-one-two.false, eq-eqb _ 3 (c.if-one-value.false ∙ c.from-value.ensures), ne_eqb _ _ c.if-one-two-2.true)

pub returns : goal.returns
unfolding alike
returns c =
    let a = c.args in
    let one : a.one.at + a.one.len - a.one.at ≡ a.one.len = omega arith in
    let two : a.two.at + a.two.len - a.two.at ≡ a.two.len = omega arith in
    rw (eq-eqb _ _ c.if-one-two.false, eq-eqb _ 3 (c.if-one-value.false ∙ c.from-value.ensures), eq-eqb _ _ c.if-one-two-2.false)
    (c.eq.ensures ∙ same_bytes _ _ ∙ ap₂ (λ (m n : ℕ). same (take m (drop a.one.at a.first.now)) (take n (drop a.two.at a.second.now))) one two)
