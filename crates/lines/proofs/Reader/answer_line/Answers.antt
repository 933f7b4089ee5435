-- `Reader::answer_line` answers the bytes that are kept.
use mathlib.Core.Path.{◌≡◌, ap, ◌∙◌}
use mathlib.Core.List.{List, [], ◌∷◌, ◌++◌}
use Prim.Native.Nat.{ℕ}
use lib.ListN.{length}
use borrow.Author.Rules.{rules}
use Rattle.text.specs.Written.{written}
use Rattle.text.proofs.Texts.{take_most}
use Rattle.line_answers.specs.Line.{answer_of}
use Rattle.lines.specs.Input.{answer_line}
use Rattle.lines.specs.Session.{held}
use Rattle.lines.proofs.Reader.answer_line.Goals as goal

pub returns : goal.returns
unfolding answer_line held
returns c =
    let long : length c.args.self.now.line ≡ 68 = search rules in
    c.push.ensures _ c.answer-t.ensures
    ∙ ap (λ (l : List ℕ). written (answer_of c.args.n l ++ (10 ∷ []))) (take_most c.args.self.now.count 68 c.min.result c.args.self.now.line long c.min.ensures)
