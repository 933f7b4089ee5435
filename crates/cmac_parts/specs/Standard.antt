-- CMAC as NIST SP 800-38B says it, for a block cipher of 128 bits that is given as a function, from block to block; the tag is of 128 bits.
-- A string of bits is a list of bytes here, the first bit being the highest of byte 0; a block is sixteen bytes.
use Rattle.std.specs.Prelude.{Bool, cond, List, [], ◌∷◌, ◌++◌, ℕ, zero, suc, ◌+◌, ◌-◌, ◌*◌, ◌/◌, ◌%◌, ◌^◌, eqb, length, take, drop, replicate}
use Rattle.std.specs.Int.Bits.{bit_xor}
use Rattle.bits.specs.Digit.{bit}
use Rattle.published.specs.Bytes.{from_bytes, to_bytes}

-- X ⊕ Y, of two strings of the same length
infixl 32 ◌⊕◌
unfoldable pub ◌⊕◌ : List ℕ → List ℕ → List ℕ
[] ⊕ ys = []
(x ∷ xs) ⊕ [] = []
(x ∷ xs) ⊕ (y ∷ ys) = bit_xor x y ∷ (xs ⊕ ys)

-- a block of zeros, and R for blocks of 128 bits: 120 zeros, then 10000111
unfoldable pub zero_block : List ℕ
zero_block = replicate 16 0

unfoldable pub R128 : List ℕ
R128 = replicate 15 0 ++ 0x87 ∷ []

-- X << 1: the first bit is lost, and a zero comes in at the end
unfoldable pub shifted : List ℕ → List ℕ
shifted x = to_bytes 16 (2 * from_bytes x % 2 ^ 128)

-- the first bit of a block
unfoldable pub first_bit : List ℕ → Bool
first_bit x = bit (from_bytes x) 127

-- 6.1, steps 2 and 3: K1 from L, and K2 from K1.
unfoldable pub subkey : List ℕ → List ℕ
subkey x = cond (first_bit x) (shifted x ⊕ R128) (shifted x)

unfoldable pub K1 : (List ℕ → List ℕ) → List ℕ
K1 ciph = subkey (ciph zero_block)

unfoldable pub K2 : (List ℕ → List ℕ) → List ℕ
K2 ciph = subkey (K1 ciph)

-- 6.2, steps 2 and 3: the message in n blocks, M1 .. Mn, of which the last may be incomplete; the empty message has one, the empty string.
unfoldable pub block_count : List ℕ → ℕ
block_count m = cond (eqb (length m) 0) 1 ((length m + 15) / 16)

-- how many are before the last
abbrev pub before : List ℕ → ℕ
before m = block_count m - 1

-- the first n blocks
unfoldable pub blocks : ℕ → List ℕ → List (List ℕ)
blocks zero m = []
blocks (suc n) m = take 16 m ∷ blocks n (drop 16 m)

-- what comes after the first n
abbrev pub past : ℕ → List ℕ → List ℕ
past n m = drop (16 * n) m

-- an incomplete block with 1 and as many zeros as it lacks
unfoldable pub padded : List ℕ → List ℕ
padded m = m ++ 0x80 ∷ replicate (15 - length m) 0

-- step 4: the last block takes K1 if it is complete; if not it is padded, and takes K2
unfoldable pub last_block : (List ℕ → List ℕ) → List ℕ → List ℕ
last_block ciph m = cond (eqb (length m) 16) (K1 ciph ⊕ m) (K2 ciph ⊕ padded m)

-- steps 5 and 6: from a chaining block on, Ci is the cipher of Ci-1 ⊕ Mi
unfoldable pub chained : (List ℕ → List ℕ) → List ℕ → List (List ℕ) → List ℕ
chained ciph c [] = c
chained ciph c (m ∷ ms) = chained ciph (ciph (c ⊕ m)) ms

-- step 7: the tag is all of Cn.
unfoldable pub cmac : (List ℕ → List ℕ) → List ℕ → List ℕ
cmac ciph m = chained ciph zero_block (blocks (before m) m ++ last_block ciph (past (before m) m) ∷ [])
