-- What the calls do with a reader: a line is kept up to 68 bytes, one more than a good line has, so that a full one is bad whatever it would go on with.
use Rattle.std.specs.Prelude.{cond, List, [], ◌∷◌, ◌++◌, ℕ, ◌+◌, eqb, ltb, take, set, replicate}
use Rattle.lines.specs.declared.Reader.{Reader}
use Rattle.lines.specs.Input.{answer_line, first_line, done_line}
use Rattle.text.specs.Written.{written, shown}
use Rattle.text.specs.declared.Text.{Text}

-- what a byte of input leads to: the reader after it, and a text
pub record Fed : Type 0 where
  pub reader : Reader
  pub text : Text

unfoldable pub fresh_reader : Reader
fresh_reader = record { line = replicate 68 0; count = 0; lines = 0 }

-- the number of the line after n others; the largest number stays, and no input has so many lines
unfoldable pub next_line : ℕ → ℕ
next_line n = cond (ltb n 18446744073709551615) (n + 1) n

unfoldable pub held : Reader → List ℕ
held r = take r.count r.line

unfoldable pub kept : Reader → ℕ → Reader
kept r b = cond (ltb r.count 68) (record { line = set r.line r.count b; count = r.count + 1; lines = r.lines }) r

unfoldable pub ended : Reader → Reader
ended r = record { line = r.line; count = 0; lines = next_line r.lines }

-- one byte of input: a newline is answered by the answer to the line that it ends, any other byte by nothing
unfoldable pub fed_by : Reader → ℕ → Fed
fed_by r b =
    cond (eqb b 10) (record { reader = ended r; text = written (answer_line (next_line r.lines) (held r)) })
    (record { reader = kept r b; text = written [] })

-- the end of the input: the answer to a last line without newline, and the closing line
unfoldable pub closing_of : Reader → List ℕ
closing_of r =
    cond (eqb r.count 0) (done_line r.lines) (answer_line (next_line r.lines) (held r) ++ done_line (next_line r.lines))

-- all that is written by who writes the first line's text, then the text of each byte fed, and the closing text
unfoldable pub written_from : Reader → List ℕ → List ℕ
written_from r [] = shown (written (closing_of r))
written_from r (b ∷ bs) = shown (fed_by r b).text ++ written_from (fed_by r b).reader bs

unfoldable pub written_of : List ℕ → List ℕ
written_of input = shown (written first_line) ++ written_from fresh_reader input
