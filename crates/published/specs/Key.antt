-- The key state of GIFT, its update after each round, and the list of pairs U, V that a key gives.
-- A key state is a number of 128 bits, k7 ‖ k6 ‖ k5 ‖ k4 ‖ k3 ‖ k2 ‖ k1 ‖ k0: the word ki of 16 bits is its digit i to base 65,536.
use Rattle.std.specs.Prelude.{List, [], ◌∷◌, ℕ, zero, suc, ◌+◌, ◌*◌, ◌%◌}
use Rattle.bits.specs.Digit.{digit, bit, of_bits}
use Rattle.published.specs.Rounds.{Pair}

-- a word of 16 bits put below x
infixl 31 ◌‖◌
abbrev pub ◌‖◌ : ℕ → ℕ → ℕ
x ‖ k = x * 65536 + k

-- a word of 16 bits rotated right by r places: bit i comes from r places up
unfoldable pub ror16 : ℕ → ℕ → ℕ
ror16 r k = of_bits 16 (λ i. bit k ((i + r) % 16))

-- 5. The key state becomes (k1 rotated right 2) ‖ (k0 rotated right 12) ‖ k7 ‖ k6 ‖ k5 ‖ k4 ‖ k3 ‖ k2.
unfoldable pub update : ℕ → ℕ
update key = let k : ℕ → ℕ = digit 65536 key in ror16 2 (k 1) ‖ ror16 12 (k 0) ‖ k 7 ‖ k 6 ‖ k 5 ‖ k 4 ‖ k 3 ‖ k 2

-- the pairs of r rounds, where `uv` takes a round's pair from the key state
unfoldable pub pairs : (ℕ → Pair) → ℕ → ℕ → List Pair
pairs uv zero key = []
pairs uv (suc r) key = uv key ∷ pairs uv r (update key)
