-- Inner: the key state that eight words make, and what the members differ in.
use Rattle.std.specs.Prelude.{cond, List, ℕ, eqb, get_or}
use Rattle.bits.specs.Digit.{number}
use Rattle.published.specs.Rounds.{Pair}
use Rattle.published.specs.Gift128.{pair_of}
use Rattle.published.specs.Gift64.{pair_of64}

-- the key state that eight words of 16 bits make, ki at place i
abbrev pub key_of : List ℕ → ℕ
key_of k = number 65536 8 (λ i. get_or k i 0)

-- ---- what the members differ in, by the number of nibbles: GIFT-64 has sixteen, and every other number is taken for GIFT-128

abbrev pub count_of : ℕ → ℕ
count_of n = cond (eqb n 16) 28 40

abbrev pub place_of : ℕ → ℕ
place_of n = cond (eqb n 16) 0 1

abbrev pub uv_of : ℕ → ℕ → Pair
uv_of n key = cond (eqb n 16) (pair_of64 key) (pair_of key)
