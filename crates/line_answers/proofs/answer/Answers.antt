-- `line_answers::answer` asks whether the line is good.
use Rattle.line_answers.specs.Line.{answer_of}
use Rattle.line_answers.proofs.answer.Goals as goal

pub returns-in-Some : goal.returns-in-Some
unfolding answer_of
returns-in-Some c =
    let asks = c.in-Some.ensures in
    rw (asks.good, asks.letter, ← asks.key, ← asks.block) c.response.ensures

pub returns-in-None : goal.returns-in-None
unfolding answer_of
returns-in-None c = rw c.in-None.ensures c.bad_line.ensures
