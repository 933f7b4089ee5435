-- `bundle_writer::judge::good_setting`, test by test.
use Prim.Native.Nat.{◌^◌}
use borrow.Author.Rules.{rules}
use borrow.Author.Tests.{le-leb, lt-leb, lt-ltb}
use Rattle.bits.proofs.Truth.{told-false, told-true}
use Rattle.bundle_format.specs.Format.{good_setting}
use Rattle.bundle_writer.proofs.judge.good_setting.Goals as goal

pub returns-then-row-low : goal.returns-then-row-low
unfolding good_setting
returns-then-row-low c = rw (lt-leb _ _ c.if-row-low.true)

pub returns-then-not-knows_kind : goal.returns-then-not-knows_kind
unfolding good_setting
returns-then-not-knows_kind c = rw (le-leb _ _ c.if-row-low.false, lt-ltb c.args.row.id (2 ^ 32) (search rules), told-false c.knows_kind.ensures c.if-not-knows_kind.true)

pub returns-then-not-good_value : goal.returns-then-not-good_value
unfolding good_setting
returns-then-not-good_value c = rw (le-leb _ _ c.if-row-low.false, lt-ltb c.args.row.id (2 ^ 32) (search rules), told-true c.knows_kind.ensures c.if-not-knows_kind.false, told-false c.good_value.ensures c.if-not-good_value.true)

pub returns : goal.returns
unfolding good_setting
returns c = rw (le-leb _ _ c.if-row-low.false, lt-ltb c.args.row.id (2 ^ 32) (search rules), told-true c.knows_kind.ensures c.if-not-knows_kind.false, told-true c.good_value.ensures c.if-not-good_value.false)
