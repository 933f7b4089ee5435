-- An order is a way to see sixteen bytes as a block and a block as sixteen bytes, each the other's inverse: what the two that have numbers do.
-- 0: one number, byte 0 the most significant. 1: four words, word j being bytes 4j to 4j+3, the most significant first.
use Rattle.std.specs.Prelude.{◌≡◌, Bool, List, [], ◌∷◌, ◌++◌, ℕ, zero, suc, ◌+◌, ◌*◌, ◌^◌, ◌<◌, leb, length, get_or}
use Rattle.published.specs.Bytes.{from_bytes, to_bytes, Bytes}
use Rattle.published.specs.Packing.{word, from_words}

pub record Order (read : List ℕ → ℕ) (write : ℕ → List ℕ) : Type 0 where
  pub block : (l : List ℕ) → length l ≡ 16 → Bytes l → read l < 2 ^ 128
  pub sixteen : (x : ℕ) → length (write x) ≡ 16
  pub bytes : (x : ℕ) → Bytes (write x)
  pub written : (x : ℕ) → x < 2 ^ 128 → read (write x) ≡ x
  pub again : (l : List ℕ) → length l ≡ 16 → Bytes l → write (read l) ≡ l

-- word j of the bytes
abbrev pub word_at : List ℕ → ℕ → ℕ
word_at bytes j = let b : ℕ → ℕ = λ k. get_or bytes (4 * j + k) 0 in from_bytes (b 0 ∷ b 1 ∷ b 2 ∷ b 3 ∷ [])

unfoldable pub read_words : List ℕ → ℕ
read_words bytes = from_words 128 (word_at bytes)

unfoldable pub write_words : ℕ → List ℕ
write_words x = to_bytes 4 (word 128 x 0) ++ to_bytes 4 (word 128 x 1) ++ to_bytes 4 (word 128 x 2) ++ to_bytes 4 (word 128 x 3)

-- whether there is an order of a number, and the order that it is
abbrev pub is_order : ℕ → Bool
is_order order = leb order 1

abbrev pub read_in : (order : ℕ) → List ℕ → ℕ
read_in zero = from_bytes
read_in (suc _) = read_words

abbrev pub write_in : (order : ℕ) → ℕ → List ℕ
write_in zero = to_bytes 16
write_in (suc _) = write_words

-- what f does to a block, seen through an order: done to its bytes
abbrev pub seen : (order : ℕ) → (ℕ → ℕ) → List ℕ → List ℕ
seen order f bytes = write_in order (f (read_in order bytes))
