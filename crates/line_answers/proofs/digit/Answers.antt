-- `line_answers::digit` finds the run of digits in which a byte lies.
use native.Mathlib.Omega.{arith}
use Rattle.line_answers.proofs.Numerals.{decimal_value, letter-value, no_value}
use Rattle.line_answers.proofs.digit.Goals as goal

pub returns-in-48-to-57 : goal.returns-in-48-to-57
returns-in-48-to-57 c =
    let is = decimal_value c.args.c c.ranges.c.fits (omega arith) (omega arith) in
    (omega arith, omega arith)

pub returns-in-97-to-102 : goal.returns-in-97-to-102
returns-in-97-to-102 c =
    let is = letter-value c.args.c c.ranges.c.fits (omega arith) (omega arith) in
    (omega arith, omega arith)

pub returns-in_default : goal.returns-in_default
returns-in_default c = no_value c.args.c c.ranges.c.fits (λ low high. omega arith) (λ low high. omega arith)

pub returns-in_default-2 : goal.returns-in_default-2
returns-in_default-2 c = no_value c.args.c c.ranges.c.fits (λ low high. omega arith) (λ low high. omega arith)

pub returns-in_default-3 : goal.returns-in_default-3
returns-in_default-3 c = no_value c.args.c c.ranges.c.fits (λ low high. omega arith) (λ low high. omega arith)
