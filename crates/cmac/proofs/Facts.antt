-- Worked facts of the definition: the standard's own subkeys, one with the first bit 0 and one with it 1, and messages under a cipher that changes nothing.
use mathlib.Core.Path.{◌≡◌, refl}
use mathlib.Core.List.{List, [], ◌∷◌, ◌++◌}
use Prim.Native.Nat.{ℕ}
use lib.ListN.{replicate}
use Rattle.bits.specs.Digit.{digit, bit}
use Rattle.published.specs.Bytes.{from_bytes, to_bytes}
use Rattle.cmac_parts.specs.Standard.{◌⊕◌, zero_block, R128, shifted, first_bit, subkey, K1, K2, block_count, blocks, padded, last_block, chained, cmac}

-- SP 800-38B, D.1: L, K1 and K2 of the example key for AES-128
abbrev L_of_D1 : List ℕ
L_of_D1 = 0x7d ∷ 0xf7 ∷ 0x6b ∷ 0x0c ∷ 0x1a ∷ 0xb8 ∷ 0x99 ∷ 0xb3 ∷ 0x3e ∷ 0x42 ∷ 0xf0 ∷ 0x47 ∷ 0xb9 ∷ 0x1b ∷ 0x54 ∷ 0x6f ∷ []

abbrev K1_of_D1 : List ℕ
K1_of_D1 = 0xfb ∷ 0xee ∷ 0xd6 ∷ 0x18 ∷ 0x35 ∷ 0x71 ∷ 0x33 ∷ 0x66 ∷ 0x7c ∷ 0x85 ∷ 0xe0 ∷ 0x8f ∷ 0x72 ∷ 0x36 ∷ 0xa8 ∷ 0xde ∷ []

abbrev K2_of_D1 : List ℕ
K2_of_D1 = 0xf7 ∷ 0xdd ∷ 0xac ∷ 0x30 ∷ 0x6a ∷ 0xe2 ∷ 0x66 ∷ 0xcc ∷ 0xf9 ∷ 0x0b ∷ 0xc1 ∷ 0x1e ∷ 0xe4 ∷ 0x6d ∷ 0x51 ∷ 0x3b ∷ []

pub K1_from_L : subkey L_of_D1 ≡ K1_of_D1
unfolding subkey first_bit shifted R128 ◌⊕◌ bit digit from_bytes to_bytes
K1_from_L = refl

pub K2_from_K1 : subkey K1_of_D1 ≡ K2_of_D1
unfolding subkey first_bit shifted R128 ◌⊕◌ bit digit from_bytes to_bytes
K2_from_K1 = refl

-- under a cipher that gives each block back, L and both subkeys are zero, and the tag is the sum of the blocks: of none, of a full one, of one and a byte
pub of_nothing : cmac (λ b. b) [] ≡ 0x80 ∷ replicate 15 0
unfolding cmac chained last_block padded blocks block_count K1 K2 subkey first_bit shifted R128 zero_block ◌⊕◌ bit digit from_bytes to_bytes
of_nothing = refl

pub of_a_block : cmac (λ b. b) (replicate 16 3) ≡ replicate 16 3
unfolding cmac chained last_block padded blocks block_count K1 K2 subkey first_bit shifted R128 zero_block ◌⊕◌ bit digit from_bytes to_bytes
of_a_block = refl

pub of_one_byte_more : cmac (λ b. b) (replicate 16 3 ++ (5 ∷ [])) ≡ 6 ∷ 0x83 ∷ replicate 14 3
unfolding cmac chained last_block padded blocks block_count K1 K2 subkey first_bit shifted R128 zero_block ◌⊕◌ bit digit from_bytes to_bytes
of_one_byte_more = refl
