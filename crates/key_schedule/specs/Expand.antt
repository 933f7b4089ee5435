-- The eighty round words of a key, and what expansion into lent words promises.
use Rattle.std.specs.Prelude.{List, ℕ, eqb, length}
use Rattle.answers.specs.Numbers.{DONE, BAD_KEY_LENGTH, BAD_WORD_COUNT}
use Rattle.answers.specs.Order.{unless}
use Rattle.answers.specs.Outcome.{Gives}
use Rattle.published.specs.Gift128.{pairs_of}
use Rattle.round_words.specs.Arranged.{words_from}

-- the number, by the lengths of key and words: 1, 4
unfoldable pub expand_code : (key words : ℕ) → ℕ
expand_code key words =
    unless (eqb key 16) BAD_KEY_LENGTH
    (unless (eqb words 80) BAD_WORD_COUNT
    DONE)

-- the published V and U of all forty rounds, each kept in its round's arrangement
unfoldable pub expanded : List ℕ → List ℕ
expanded key = words_from 0 (pairs_of key)

-- The promise: the number r, and the lent words at exit, e.
abbrev pub Expands : (key words : List ℕ) → ℕ → List ℕ → Type 0
Expands key words = Gives (expand_code (length key) (length words)) (expanded key) words
