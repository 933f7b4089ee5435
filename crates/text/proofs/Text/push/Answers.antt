-- `Text::push` stores a byte behind those that are there.
use Rattle.text.proofs.Texts.{pushed, full}
use Rattle.text.proofs.Text.push.Goals as goal

pub returns-then-self-lt64 : goal.returns-then-self-lt64
returns-then-self-lt64 c l e = pushed l c.args.b c.args.self.now e c.if-self-lt64.true

pub returns-else-self-lt64 : goal.returns-else-self-lt64
returns-else-self-lt64 c l e = full l c.args.b c.args.self.now e c.if-self-lt64.false
