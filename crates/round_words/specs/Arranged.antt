-- The shifted arrangements of the fixsliced form: within five rounds the bits of a word do not move as the published ones do,
-- so that k rounds in, place i of each word holds what belongs to nibble N(..N(i)), N taken k times; after five it is nibble i again.
use Rattle.std.specs.Prelude.{List, [], ◌∷◌, ℕ, zero, suc, ◌+◌, ◌-◌, ◌*◌, ◌/◌, ◌%◌, ◌^◌}
use Rattle.published.specs.Rounds.{P, Pair, constant}
use Rattle.primitives.specs.Words.{permuted}

-- the nibble to which bit 3 of nibble n moves in a round
unfoldable pub N : ℕ → ℕ
N n = P 128 (4 * n + 3) / 4

-- what place i belongs to, k rounds in
unfoldable pub nibble_at : ℕ → ℕ → ℕ
nibble_at zero i = i
nibble_at (suc k) i = N (nibble_at k i)

-- the word w as it is kept k rounds in, and the word that w, kept so, stands for (five rounds in, it is the word itself)
unfoldable pub arranged : ℕ → ℕ → ℕ
arranged k w = permuted (nibble_at k) w

unfoldable pub stands : ℕ → ℕ → ℕ
stands k w = permuted (nibble_at (5 - k)) w

-- A list of round words, two for each round, the one for V first, and the pairs U, V that they stand for. The first word is used in round k + 1 of a quintuple,
-- k below 5.
unfoldable pub words_from : ℕ → List Pair → List ℕ
words_from k [] = []
words_from k (p ∷ ps) = arranged (suc k) p.v ∷ arranged (suc k) p.u ∷ words_from (suc k % 5) ps

unfoldable pub pairs_from : ℕ → List ℕ → List Pair
pairs_from k [] = []
pairs_from k (v ∷ []) = []
pairs_from k (v ∷ u ∷ ws) = record { u = stands (suc k) u; v = stands (suc k) v } ∷ pairs_from (suc k % 5) ws

-- pairs in a row of numbers, V and then U of each; and the pairs of such a row
unfoldable pub in_row : List Pair → List ℕ
in_row [] = []
in_row (p ∷ ps) = p.v ∷ p.u ∷ in_row ps

unfoldable pub of_row : List ℕ → List Pair
of_row [] = []
of_row (v ∷ []) = []
of_row (v ∷ u ∷ ns) = record { u = u; v = v } ∷ of_row ns

-- the round constants as a table of words: a third key word, the flipped bit on top, kept in the arrangement of its round
unfoldable pub constant_word : ℕ → ℕ → ℕ
constant_word k r = arranged (suc k) (2 ^ 31 + constant (suc r))
