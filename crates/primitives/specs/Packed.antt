-- Four words and the block that they stand for: bit i of word j is b(4i+j).
use Rattle.std.specs.Prelude.{[], ◌∷◌, ℕ, ◌^◌, ◌<◌, get_or}
use Rattle.published.specs.Packing.{word, from_words}
use Rattle.primitives.specs.declared.State.{State}

-- word j of a state
abbrev pub word_of : State → ℕ → ℕ
word_of s j = get_or (s.s0 ∷ s.s1 ∷ s.s2 ∷ s.s3 ∷ []) j 0

-- of n bits, a quarter of them in each word
abbrev pub block_from : ℕ → State → ℕ
block_from n s = from_words n (word_of s)

abbrev pub state_from : ℕ → ℕ → State
state_from n x = record { s0 = word n x 0; s1 = word n x 1; s2 = word n x 2; s3 = word n x 3 }

unfoldable pub block_of : State → ℕ
block_of s = block_from 128 s

unfoldable pub state_of : ℕ → State
state_of x = state_from 128 x

-- the same at 64 bits, in the low halves of the words; what stands in the upper halves does not count
unfoldable pub block_of64 : State → ℕ
block_of64 s = block_from 64 s

unfoldable pub state_of64 : ℕ → State
state_of64 x = state_from 64 x

-- every word of a state has 32 bits
abbrev pub Words : State → Type 0
Words s = (s.s0 < 2 ^ 32) × (s.s1 < 2 ^ 32) × (s.s2 < 2 ^ 32) × (s.s3 < 2 ^ 32)
