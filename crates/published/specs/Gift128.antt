-- GIFT-128: forty rounds of a key of 16 bytes on a block of 16 bytes, and their undoing.
use Rattle.std.specs.Prelude.{Bool, true, false, List, ℕ}
use Rattle.bits.specs.Digit.{digit}
use Rattle.published.specs.Bytes.{from_bytes, to_bytes}
use Rattle.published.specs.Rounds.{Pair, rounds, unrounds}
use Rattle.published.specs.Key.{◌‖◌, pairs}

-- 3. U = k5 ‖ k4 and V = k1 ‖ k0.
unfoldable pub pair_of : ℕ → Pair
pair_of key = let k : ℕ → ℕ = digit 65536 key in record { u = k 5 ‖ k 4; v = k 1 ‖ k 0 }

unfoldable pub pairs_of : List ℕ → List Pair
pairs_of key = pairs pair_of 40 (from_bytes key)

-- rounds on 128 bits, U to b(4i+2) and V to b(4i+1)
abbrev pub rounds128 : List Pair → ℕ → ℕ → ℕ
rounds128 = rounds 128 1

abbrev pub unrounds128 : List Pair → ℕ → ℕ → ℕ
unrounds128 = unrounds 128 1

-- done, or undone
abbrev pub rounds_all : (back : Bool) → List Pair → ℕ → ℕ
rounds_all false ps = rounds128 ps 0
rounds_all true ps = unrounds128 ps 0

unfoldable pub encrypted : List ℕ → List ℕ → List ℕ
encrypted key block = to_bytes 16 (rounds128 (pairs_of key) 0 (from_bytes block))

unfoldable pub decrypted : List ℕ → List ℕ → List ℕ
decrypted key block = to_bytes 16 (unrounds128 (pairs_of key) 0 (from_bytes block))
