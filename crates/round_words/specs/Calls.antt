-- What the two calls promise: the pairs that eighty words stand for, and the words that stand for forty pairs.
use Rattle.std.specs.Prelude.{List, ℕ, eqb, length}
use Rattle.answers.specs.Numbers.{DONE, BAD_OUTPUT_LENGTH, BAD_WORD_COUNT}
use Rattle.answers.specs.Order.{unless}
use Rattle.answers.specs.Outcome.{Gives}
use Rattle.round_words.specs.Arranged.{words_from, pairs_from, in_row, of_row}

-- the number, by the lengths of what is given and of what is to be filled: 4, 3
unfoldable pub row_code : (given out : ℕ) → ℕ
row_code given out =
    unless (eqb given 80) BAD_WORD_COUNT
    (unless (eqb out given) BAD_OUTPUT_LENGTH
    DONE)

abbrev pub TellsPairs : (words out : List ℕ) → ℕ → List ℕ → Type 0
TellsPairs words out = Gives (row_code (length words) (length out)) (in_row (pairs_from 0 words)) out

abbrev pub TellsWords : (pairs out : List ℕ) → ℕ → List ℕ → Type 0
TellsWords pairs out = Gives (row_code (length pairs) (length out)) (words_from 0 (of_row pairs)) out
