-- Lower-case hex digits as bytes of text, read and written.
use Rattle.std.specs.Prelude.{Bool, true, cond, ◌&&◌, List, [], ◌∷◌, ℕ, suc, ◌+◌, ◌*◌, ◌/◌, ◌%◌, eqb, ltb, get_or}

-- the sixteen digits, 0 to 9 and a to f
abbrev pub hex_digits : List ℕ
hex_digits = 48 ∷ 49 ∷ 50 ∷ 51 ∷ 52 ∷ 53 ∷ 54 ∷ 55 ∷ 56 ∷ 57 ∷ 97 ∷ 98 ∷ 99 ∷ 100 ∷ 101 ∷ 102 ∷ []

-- where c first stands in a list; the list's length, if nowhere
abbrev pub place_of : ℕ → List ℕ → ℕ
place_of c [] = 0
place_of c (d ∷ ds) = cond (eqb c d) 0 (suc (place_of c ds))

-- what a digit stands for; 16 if c is none
unfoldable pub value_of : ℕ → ℕ
value_of c = place_of c hex_digits

unfoldable pub all_hex : List ℕ → Bool
all_hex [] = true
all_hex (c ∷ cs) = ltb (value_of c) 16 && all_hex cs

-- two digits to a byte, the high one first
unfoldable pub bytes_of : List ℕ → List ℕ
bytes_of [] = []
bytes_of (c ∷ []) = []
bytes_of (c ∷ d ∷ cs) = (value_of c * 16 + value_of d) ∷ bytes_of cs

unfoldable pub hex_of : List ℕ → List ℕ
hex_of [] = []
hex_of (b ∷ bs) = get_or hex_digits (b / 16) 0 ∷ get_or hex_digits (b % 16) 0 ∷ hex_of bs
