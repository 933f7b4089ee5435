-- Sixty-four blocks in slices: a word of 64 bits for each bit of a block. Place b of word q is bit q of block b.
use Rattle.std.specs.Prelude.{◌≡◌, Bool, true, false, ◌&&◌, List, ℕ, ◌*◌, ◌<◌, eqb, length, take, drop, get_or}
use Rattle.bits.specs.Digit.{bit, of_bits}
use Rattle.published.specs.Seen.{read_in}

-- the block that stands in lane b
unfoldable pub lane : List ℕ → ℕ → ℕ
lane x b = of_bits 128 (λ q. bit (get_or x q 0) b)

-- the bytes of block b
abbrev pub block_at : List ℕ → ℕ → List ℕ
block_at bytes b = take 16 (drop (16 * b) bytes)

-- a group of 64 blocks, and as many words as a block has bits
abbrev pub whole : (bytes words : ℕ) → Bool
whole bytes words = eqb bytes 1024 && eqb words 128

-- what loading leaves: each block, seen through the order, in its lane; of other lengths, the words as they were
pub record Loaded (order : ℕ) (bytes x₀ x : List ℕ) : Type 0 where
  pub lanes : whole (length bytes) (length x₀) ≡ true → (b : ℕ) → b < 64 → lane x b ≡ read_in order (block_at bytes b)
  pub stays : whole (length bytes) (length x₀) ≡ false → x ≡ x₀
