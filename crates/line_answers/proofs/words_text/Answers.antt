-- `line_answers::words_text` pushes word after word.
use mathlib.Core.Path.{ap, ◌∙◌}
use mathlib.Core.List.{[], append_assoc}
use Rattle.text.specs.Written.{written}
use Rattle.line_answers.specs.Line.{words_text}
use Rattle.line_answers.proofs.Numerals.{word_bytes}
use Rattle.line_answers.proofs.words_text.Goals as goal

pub returns : goal.returns
unfolding words_text
returns c =
    c.push_hex-4.ensures _
    (c.push-3.ensures _
    (c.push_hex-3.ensures _ (c.push-2.ensures _ (c.push_hex-2.ensures _ (c.push.ensures _ (c.push_hex.ensures [] c.empty-t.ensures))))))
    ∙ ap written (rw (c.to_be_bytes.ensures, c.to_be_bytes-2.ensures, c.to_be_bytes-3.ensures, c.to_be_bytes-4.ensures, word_bytes c.args.s.s0, word_bytes c.args.s.s1, word_bytes c.args.s.s2, word_bytes c.args.s.s3) (simp append_assoc))
