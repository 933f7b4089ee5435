-- `bundle_reader::tell_row`: a kind that the reader knows, or not.
use Rattle.bits.proofs.Truth.{told-false, told-true}
use Rattle.bundle_format.specs.Reader.{tell}
use Rattle.bundle_reader.proofs.tell_row.Goals as goal

pub returns-then-not-knows_kind : goal.returns-then-not-knows_kind
unfolding tell
returns-then-not-knows_kind c = rw (told-false c.knows_kind.ensures c.if-not-knows_kind.true) c.only.ensures

pub returns : goal.returns
unfolding tell
returns c = rw (told-true c.knows_kind.ensures c.if-not-knows_kind.false, c.from.ensures)
