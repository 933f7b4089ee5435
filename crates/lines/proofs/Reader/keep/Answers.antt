-- `Reader::keep` stores a byte where there is room.
use borrow.Author.Tests.{lt-ltb, le-ltb}
use Rattle.lines.specs.Session.{kept}
use Rattle.lines.proofs.Reader.keep.Goals as goal

pub returns-then-self-lt68 : goal.returns-then-self-lt68
unfolding kept
returns-then-self-lt68 c = rw (lt-ltb c.args.self.now.count 68 c.if-self-lt68.true)

pub returns-else-self-lt68 : goal.returns-else-self-lt68
unfolding kept
returns-else-self-lt68 c = rw (le-ltb c.args.self.now.count 68 c.if-self-lt68.false)
