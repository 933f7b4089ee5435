-- What a line is answered.
use Rattle.std.specs.Prelude.{Bool, cond, ◌&&◌, ◌||◌, List, ◌∷◌, ◌++◌, ℕ, eqb, length, take, drop, get_or}
use Rattle.published.specs.Bytes.{from_bytes, to_bytes}
use Rattle.published.specs.Gift128.{encrypted, decrypted}
use Rattle.published.specs.Packing.{word}
use Rattle.gift128.specs.Calls.{after_one}
use Rattle.text.specs.Hex.{all_hex, bytes_of, hex_of}
use Rattle.text.specs.Decimal.{decimal_of}

-- E, D, R, P, F or G
unfoldable pub is_letter : ℕ → Bool
is_letter c = eqb c 69 || eqb c 68 || eqb c 82 || eqb c 80 || eqb c 70 || eqb c 71

abbrev pub key_text : List ℕ → List ℕ
key_text line = take 32 (drop 2 line)

abbrev pub block_text : List ℕ → List ℕ
block_text line = take 32 (drop 35 line)

-- a letter, a space, 32 hex digits of key, a space, 32 of block, and nothing more
unfoldable pub is_good : List ℕ → Bool
is_good line =
    eqb (length line) 67 && is_letter (get_or line 0 0) && eqb (get_or line 1 0) 32 && eqb (get_or line 34 0) 32 && all_hex (key_text line) && all_hex (block_text line)

-- such a line, of a key and a block of 16 bytes each
unfoldable pub line_of : ℕ → List ℕ → List ℕ → List ℕ
line_of c key block = c ∷ 32 ∷ hex_of key ++ 32 ∷ hex_of block

-- four words, eight digits each, with a space between two
unfoldable pub words_text : ℕ → ℕ → ℕ → ℕ → List ℕ
words_text a b c d = hex_of (to_bytes 4 a) ++ 32 ∷ hex_of (to_bytes 4 b) ++ 32 ∷ hex_of (to_bytes 4 c) ++ 32 ∷ hex_of (to_bytes 4 d)

unfoldable pub packed_text : ℕ → List ℕ
packed_text x = words_text (word 128 x 0) (word 128 x 1) (word 128 x 2) (word 128 x 3)

-- E and F give the block encrypted, D and G decrypted, R the state after round 1, P the four packed words
unfoldable pub response : ℕ → List ℕ → List ℕ → List ℕ
response c key block =
    cond (eqb c 69) (hex_of (encrypted key block))
    (cond (eqb c 68) (hex_of (decrypted key block))
    (cond (eqb c 82) (hex_of (after_one key block))
    (cond (eqb c 70) (hex_of (encrypted key block))
    (cond (eqb c 71) (hex_of (decrypted key block)) (packed_text (from_bytes block))))))

-- "bad line " and the line's number
unfoldable pub bad_line : ℕ → List ℕ
bad_line n = 98 ∷ 97 ∷ 100 ∷ 32 ∷ 108 ∷ 105 ∷ 110 ∷ 101 ∷ 32 ∷ decimal_of n

-- the answer to line number n, without its newline
unfoldable pub answer_of : ℕ → List ℕ → List ℕ
answer_of n line = cond (is_good line) (response (get_or line 0 0) (bytes_of (key_text line)) (bytes_of (block_text line))) (bad_line n)
