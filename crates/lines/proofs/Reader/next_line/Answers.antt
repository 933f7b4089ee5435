-- `Reader::next_line` counts on, but for the largest number.
use native.Mathlib.Omega.{arith}
use Rattle.lines.proofs.Lengths.{next-saturated}
use Rattle.lines.proofs.Reader.next_line.Goals as goal

pub returns : goal.returns
returns c = next-saturated c.args.self.now.lines c.saturating_add.result (omega arith) c.saturating_add.ensures
