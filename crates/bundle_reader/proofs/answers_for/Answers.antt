-- `bundle_reader::answers_for`, test by test.
use borrow.Author.Tests.{eq-eqb, ne_eqb}
use Rattle.bundle_format.specs.Reader.{answers_for}
use Rattle.bundle_reader.proofs.answers_for.Goals as goal

pub returns-then-seen-ne0 : goal.returns-then-seen-ne0
unfolding answers_for
returns-then-seen-ne0 c = rw (ne_eqb _ 0 c.if-seen-ne0.true)

pub returns-then-seen-bundle : goal.returns-then-seen-bundle
unfolding answers_for
returns-then-seen-bundle c = rw (eq-eqb _ 0 c.if-seen-ne0.false, ne_eqb _ _ c.if-seen-bundle.true)

pub returns : goal.returns
unfolding answers_for
returns c = rw (eq-eqb _ 0 c.if-seen-ne0.false, eq-eqb _ _ c.if-seen-bundle.false)
