-- What is printed, in pieces: one for each row, and a last one. Each is laid in a buffer that is lent.
use Rattle.std.specs.Prelude.{◌≡◌, cond, ◌&&◌, List, [], ◌++◌, ℕ, zero, suc, ◌+◌, ◌*◌, min, eqb, ltb, length, take, drop, get_or}
use Rattle.bundle_format.specs.declared.Told.{Told}
use Rattle.differ.specs.Difference.{Line}
use Rattle.differ.specs.declared.Compared.{Compared}
use Rattle.differ_text.specs.Rendered.{line_text, closing_line, refusal_lines}

-- what four numbers of a row tell; numbers that are not there count as 0
unfoldable pub told_at : (rows : List ℕ) (p : ℕ) → Told
told_at rows p = record { state = get_or rows p 0; id = 0; kind = get_or rows (p + 1) 0; at = get_or rows (p + 2) 0; len = get_or rows (p + 3) 0 }

unfoldable pub line_at : (rows : List ℕ) (p : ℕ) → Line
line_at rows p = record { id = get_or rows p 0; one = told_at rows (p + 1); two = told_at rows (p + 5) }

-- piece k: the line of row k; past the last row the line that counts; of a refusal its lines
unfoldable pub piece_of : Compared → (rows b c : List ℕ) (k : ℕ) → List ℕ
piece_of a rows b c k =
    cond (eqb a.first 0 && eqb a.second 0)
    (cond (ltb k a.count) (line_text b c (line_at rows (9 * k))) (closing_line a.count))
    (refusal_lines a.first a.second)

-- A text l laid in a buffer that was o: n bytes of it are there, all of them or as many as fit, and e is what the buffer holds.
pub record Lays (l o : List ℕ) (n : ℕ) (e : List ℕ) : Type 0 where
  pub is : n ≡ min (length l) (length o)
  pub leaves : e ≡ take (length o) (l ++ drop (length l) o)

-- how long a buffer must be, so that no piece is cut
abbrev pub line_most : ℕ
line_most = 2080

-- all that is written by who writes the pieces from k on, m of them, each from such a buffer
unfoldable pub written_from : (m k : ℕ) → Compared → (rows b c : List ℕ) → List ℕ
written_from zero k a rows b c = []
written_from (suc m) k a rows b c = take line_most (piece_of a rows b c k) ++ written_from m (k + 1) a rows b c
