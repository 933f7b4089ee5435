-- The counter mode of NIST SP 800-38A, 6.5, for a block cipher of 128 bits that is given as a function from block to block.
-- A string is a list of bytes. Counter blocks are laid out as document 02 says: twelve bytes that stay, then the counter in four, the first the most significant.
use Rattle.std.specs.Prelude.{List, [], ◌∷◌, ◌++◌, ℕ, zero, suc, ◌+◌, ◌/◌, length}
use Rattle.std.specs.Int.Bits.{bit_xor}
use Rattle.published.specs.Bytes.{to_bytes}

-- X ⊕ Y; where one is longer, of its first bytes (the standard's MSB of the last output block)
infixl 32 ◌⊕◌
unfoldable pub ◌⊕◌ : List ℕ → List ℕ → List ℕ
[] ⊕ ys = []
(x ∷ xs) ⊕ [] = []
(x ∷ xs) ⊕ (y ∷ ys) = bit_xor x y ∷ (xs ⊕ ys)

-- the counter block T of a counter
unfoldable pub counter_block : List ℕ → ℕ → List ℕ
counter_block nonce c = nonce ++ to_bytes 4 c

-- the output blocks O of k counters from c on, one after the other
unfoldable pub key_blocks : (List ℕ → List ℕ) → List ℕ → ℕ → ℕ → List ℕ
key_blocks ciph nonce c zero = []
key_blocks ciph nonce c (suc k) = ciph (counter_block nonce c) ++ key_blocks ciph nonce (suc c) k

-- A whole message from the first counter c on: each block, and of an incomplete last one each byte, xored with its output block.
unfoldable pub counter_mode : (List ℕ → List ℕ) → List ℕ → ℕ → List ℕ → List ℕ
counter_mode ciph nonce c message = message ⊕ key_blocks ciph nonce c ((length message + 15) / 16)
