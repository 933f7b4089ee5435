-- `plain_key::rounds_of`: GIFT-64's of sixteen nibbles, else GIFT-128's.
use mathlib.Core.Path.{sym}
use borrow.Author.Tests.{eq-eqb, ne_eqb}
use Rattle.bits.proofs.Computed.{cond-true, cond-false}
use Rattle.plain_key.proofs.rounds_of.Goals as goal

pub returns-then-n-eq-SMALL : goal.returns-then-n-eq-SMALL
returns-then-n-eq-SMALL c = sym (cond-true _ _ _ (eq-eqb _ 16 c.if-n-eq-SMALL.true))

pub returns-else-n-eq-SMALL : goal.returns-else-n-eq-SMALL
returns-else-n-eq-SMALL c = sym (cond-false _ _ _ (ne_eqb _ 16 c.if-n-eq-SMALL.false))
