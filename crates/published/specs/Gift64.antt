-- GIFT-64: twenty-eight rounds of a key of 16 bytes on a block of 8 bytes, and their undoing. Rounds, constants and key update are those of GIFT-128, at width 64.
use Rattle.std.specs.Prelude.{List, ℕ}
use Rattle.bits.specs.Digit.{digit}
use Rattle.published.specs.Bytes.{from_bytes, to_bytes}
use Rattle.published.specs.Rounds.{Pair, rounds, unrounds}
use Rattle.published.specs.Key.{pairs}

-- 3. U = k1 and V = k0.
unfoldable pub pair_of64 : ℕ → Pair
pair_of64 key = let k : ℕ → ℕ = digit 65536 key in record { u = k 1; v = k 0 }

unfoldable pub pairs_of64 : List ℕ → List Pair
pairs_of64 key = pairs pair_of64 28 (from_bytes key)

-- rounds on 64 bits, U to b(4i+1) and V to b(4i)
abbrev pub rounds64 : List Pair → ℕ → ℕ → ℕ
rounds64 = rounds 64 0

abbrev pub unrounds64 : List Pair → ℕ → ℕ → ℕ
unrounds64 = unrounds 64 0

unfoldable pub encrypted64 : List ℕ → List ℕ → List ℕ
encrypted64 key block = to_bytes 8 (rounds64 (pairs_of64 key) 0 (from_bytes block))

unfoldable pub decrypted64 : List ℕ → List ℕ → List ℕ
decrypted64 key block = to_bytes 8 (unrounds64 (pairs_of64 key) 0 (from_bytes block))
