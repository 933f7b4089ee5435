-- What a whole input is answered.
use Rattle.std.specs.Prelude.{cond, List, [], ◌∷◌, ◌++◌, ℕ, suc, eqb, length}
use Rattle.text.specs.Decimal.{decimal_of}
use Rattle.line_answers.specs.Line.{answer_of}

-- The lines of an input, of which one may have begun: each ends at a newline, byte 10; a last one without newline counts if not empty.
unfoldable pub lines_from : List ℕ → List ℕ → List (List ℕ)
lines_from begun [] = cond (eqb (length begun) 0) [] (begun ∷ [])
lines_from begun (b ∷ bs) = cond (eqb b 10) (begun ∷ lines_from [] bs) (lines_from (begun ++ (b ∷ [])) bs)

unfoldable pub answer_line : ℕ → List ℕ → List ℕ
answer_line n line = answer_of n line ++ (10 ∷ [])

-- an answer for each line, the first being line n
unfoldable pub answers : ℕ → List (List ℕ) → List ℕ
answers n [] = []
answers n (line ∷ lines) = answer_line n line ++ answers (suc n) lines

-- "gift-lines 1" and a newline
abbrev pub first_line : List ℕ
first_line = 103 ∷ 105 ∷ 102 ∷ 116 ∷ 45 ∷ 108 ∷ 105 ∷ 110 ∷ 101 ∷ 115 ∷ 32 ∷ 49 ∷ 10 ∷ []

-- "done ", the number of lines, and a newline
unfoldable pub done_line : ℕ → List ℕ
done_line n = 100 ∷ 111 ∷ 110 ∷ 101 ∷ 32 ∷ decimal_of n ++ (10 ∷ [])

unfoldable pub output_of : List ℕ → List ℕ
output_of input = first_line ++ answers 1 (lines_from [] input) ++ done_line (length (lines_from [] input))
