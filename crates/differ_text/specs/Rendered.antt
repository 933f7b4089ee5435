-- What a person reads of two bundles: a line for each id that differs, with both answers, and a line that counts; or each refused bundle with its number.
use Rattle.std.specs.Prelude.{Bool, cond, not, ◌&&◌, List, [], ◌∷◌, ◌++◌, ℕ, zero, suc, eqb, leb, length, take}
use Rattle.published.specs.Bytes.{from_bytes}
use Rattle.text.specs.Hex.{hex_of}
use Rattle.text.specs.Decimal.{decimal_of}
use Rattle.bundle_format.specs.Reader.{read_code, Answer, value, absent, unknown, refused, meant}
use Rattle.differ.specs.Difference.{Line, listed}

-- ---- an answer

-- a byte that is shown as it is: printable ASCII, but for `"` and `\`
unfoldable pub plain : ℕ → Bool
plain b = leb 32 b && leb b 126 && not (eqb b 34) && not (eqb b 92)

-- any other is shown as \xNN
unfoldable pub escaped_byte : ℕ → List ℕ
escaped_byte b = cond (plain b) (b ∷ []) (92 ∷ 120 ∷ hex_of (b ∷ []))

unfoldable pub escaped : List ℕ → List ℕ
escaped [] = []
escaped (b ∷ bs) = escaped_byte b ++ escaped bs

-- "flag ", "number ", and "text " with a quotation mark
abbrev pub flag_word : List ℕ
flag_word = 102 ∷ 108 ∷ 97 ∷ 103 ∷ 32 ∷ []

abbrev pub number_word : List ℕ
number_word = 110 ∷ 117 ∷ 109 ∷ 98 ∷ 101 ∷ 114 ∷ 32 ∷ []

abbrev pub text_word : List ℕ
text_word = 116 ∷ 101 ∷ 120 ∷ 116 ∷ 32 ∷ 34 ∷ []

-- "flag 0", "number 1250", "text "Pier 4"", "absent", "unknown": a flag has one byte and a number eight; no other kind is a value to the reader of edition 2, and an accepted bundle's
-- answer is never "refused"
unfoldable pub side_text : Answer → List ℕ
side_text (value zero body) = flag_word ++ decimal_of (from_bytes (take 8 body))
side_text (value (suc zero) body) = number_word ++ decimal_of (from_bytes (take 8 body))
side_text (value (suc (suc kind)) body) = text_word ++ escaped body ++ (34 ∷ [])
side_text absent = 97 ∷ 98 ∷ 115 ∷ 101 ∷ 110 ∷ 116 ∷ []
side_text unknown = 117 ∷ 110 ∷ 107 ∷ 110 ∷ 111 ∷ 119 ∷ 110 ∷ []
side_text refused = 114 ∷ 101 ∷ 102 ∷ 117 ∷ 115 ∷ 101 ∷ 100 ∷ []

-- ---- the lines

-- "17: number 1250 | absent"
unfoldable pub line_text : (b c : List ℕ) → Line → List ℕ
line_text b c l = decimal_of l.id ++ (58 ∷ 32 ∷ []) ++ side_text (meant b l.one) ++ (32 ∷ 124 ∷ 32 ∷ []) ++ side_text (meant c l.two) ++ (10 ∷ [])

unfoldable pub lines_text : (b c : List ℕ) → List Line → List ℕ
lines_text b c [] = []
lines_text b c (l ∷ ls) = line_text b c l ++ lines_text b c ls

-- "differing settings: 3"
abbrev pub count_words : List ℕ
count_words = 100 ∷ 105 ∷ 102 ∷ 102 ∷ 101 ∷ 114 ∷ 105 ∷ 110 ∷ 103 ∷ 32 ∷ 115 ∷ 101 ∷ 116 ∷ 116 ∷ 105 ∷ 110 ∷ 103 ∷ 115 ∷ 58 ∷ 32 ∷ []

unfoldable pub closing_line : ℕ → List ℕ
closing_line n = count_words ++ decimal_of n ++ (10 ∷ [])

-- "first.bundle: refusal 21"
abbrev pub first_words : List ℕ
first_words = 102 ∷ 105 ∷ 114 ∷ 115 ∷ 116 ∷ 46 ∷ 98 ∷ 117 ∷ 110 ∷ 100 ∷ 108 ∷ 101 ∷ 58 ∷ 32 ∷ 114 ∷ 101 ∷ 102 ∷ 117 ∷ 115 ∷ 97 ∷ 108 ∷ 32 ∷ []

abbrev pub second_words : List ℕ
second_words = 115 ∷ 101 ∷ 99 ∷ 111 ∷ 110 ∷ 100 ∷ 46 ∷ 98 ∷ 117 ∷ 110 ∷ 100 ∷ 108 ∷ 101 ∷ 58 ∷ 32 ∷ 114 ∷ 101 ∷ 102 ∷ 117 ∷ 115 ∷ 97 ∷ 108 ∷ 32 ∷ []

-- of a number that is not 0
unfoldable pub refusal_line : (words : List ℕ) (n : ℕ) → List ℕ
refusal_line words n = cond (eqb n 0) [] (words ++ decimal_of n ++ (10 ∷ []))

unfoldable pub refusal_lines : (f s : ℕ) → List ℕ
refusal_lines f s = refusal_line first_words f ++ refusal_line second_words s

-- ---- all that is printed

-- of a key's bytes, and those of a first and a second bundle
unfoldable pub output_of : (key b c : List ℕ) → List ℕ
output_of key b c =
    cond (eqb (read_code 2 key b) 0 && eqb (read_code 2 key c) 0)
    (lines_text b c (listed key b c) ++ closing_line (length (listed key b c)))
    (refusal_lines (read_code 2 key b) (read_code 2 key c))
