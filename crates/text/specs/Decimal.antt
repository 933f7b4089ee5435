-- A number in decimal digits, the most significant first and no zero before it.
use Rattle.std.specs.Prelude.{cond, List, [], ◌∷◌, ◌++◌, ℕ, zero, suc, ◌+◌, ◌/◌, ◌%◌, ltb}

-- the last k digits of n, or all of them if they are fewer; 0 is byte 48
unfoldable pub last_digits : ℕ → ℕ → List ℕ
last_digits zero n = []
last_digits (suc k) n = cond (ltb n 10) [] (last_digits k (n / 10)) ++ ((48 + n % 10) ∷ [])

-- n has at most n + 1 digits
unfoldable pub decimal_of : ℕ → List ℕ
decimal_of n = last_digits (suc n) n
