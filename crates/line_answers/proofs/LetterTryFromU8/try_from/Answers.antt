-- The six letters are those of the definition.
use Prim.Native.Nat.{ℕ}
use native.Mathlib.Omega.{arith}
use borrow.Author.Tests.{ne_eqb}
use Rattle.line_answers.specs.Line.{is_letter}
use Rattle.line_answers.proofs.LetterTryFromU8.try_from.Goals as goal

pub returns-in-69 : goal.returns-in-69
unfolding is_letter
returns-in-69 c = (c.in-69.is, rw c.in-69.is)

pub returns-in-68 : goal.returns-in-68
unfolding is_letter
returns-in-68 c = (c.in-68.is, rw c.in-68.is)

pub returns-in-82 : goal.returns-in-82
unfolding is_letter
returns-in-82 c = (c.in-82.is, rw c.in-82.is)

pub returns-in-80 : goal.returns-in-80
unfolding is_letter
returns-in-80 c = (c.in-80.is, rw c.in-80.is)

pub returns-in-70 : goal.returns-in-70
unfolding is_letter
returns-in-70 c = (c.in-70.is, rw c.in-70.is)

pub returns-in-71 : goal.returns-in-71
unfolding is_letter
returns-in-71 c = (c.in-71.is, rw c.in-71.is)

pub returns-in_default : goal.returns-in_default
unfolding is_letter
returns-in_default c =
    let n : ℕ = c.args.c in
    rw (ne_eqb n 69 (λ e. omega arith), ne_eqb n 68 (λ e. omega arith), ne_eqb n 82 (λ e. omega arith), ne_eqb n 80 (λ e. omega arith), ne_eqb n 70 (λ e. omega arith), ne_eqb n 71 (λ e. omega arith))
