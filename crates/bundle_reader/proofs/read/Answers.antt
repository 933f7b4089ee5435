-- `bundle_reader::read`: 1, 20, 21, 22, 23, in this order.
use borrow.Author.Tests.{eq-eqb, ne_eqb}
use Rattle.bits.proofs.Truth.{told-false, told-true}
use Rattle.bundle_format.proofs.Accepted.{size_only}
use Rattle.bundle_format.specs.Reader.{read_code}
use Rattle.bundle_reader.proofs.Steps.{read_after}
use Rattle.bundle_reader.proofs.read.Goals as goal

pub returns-then-key-ne16-clause-is : goal.returns-then-key-ne16-clause-is
unfolding read_code
returns-then-key-ne16-clause-is c = rw (ne_eqb _ 16 c.if-key-ne16.true)

pub returns-then-not-right_size-clause-is : goal.returns-then-not-right_size-clause-is
unfolding read_code
returns-then-not-right_size-clause-is c = rw (eq-eqb _ 16 c.if-key-ne16.false, told-false c.right_size.ensures c.if-not-right_size.true)

pub right_tag-requires-clause-in_bounds : goal.right_tag-requires-clause-in_bounds
right_tag-requires-clause-in_bounds c = (size_only _ (told-true c.right_size.ensures c.if-not-right_size.false)).least

pub returns-then-not-right_tag-clause-is : goal.returns-then-not-right_tag-clause-is
unfolding read_code
returns-then-not-right_tag-clause-is c = rw (eq-eqb _ 16 c.if-key-ne16.false, told-true c.right_size.ensures c.if-not-right_size.false, told-false c.right_tag.ensures c.if-not-right_tag.true)

pub returns-clause-is : goal.returns-clause-is
returns-clause-is c = read_after _ _ _ _ c.if-key-ne16.false (told-true c.right_size.ensures c.if-not-right_size.false) (told-true c.right_tag.ensures c.if-not-right_tag.false) c.judge.ensures.is
