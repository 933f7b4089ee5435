-- The S-box on words: place i of the four words is a nibble, and each nibble goes through a table.
use Rattle.std.specs.Prelude.{ℕ}
use Rattle.bits.specs.Digit.{bit, of_bits}
use Rattle.primitives.specs.declared.State.{State}
use Rattle.primitives.specs.Packed.{word_of}

-- the nibble whose bit j is bit i of word j
unfoldable pub column : State → ℕ → ℕ
column s i = of_bits 4 (λ j. bit (word_of s j) i)

-- word j of the state whose every column has gone through the table f
unfoldable pub substituted : (ℕ → ℕ) → State → ℕ → ℕ
substituted f s j = of_bits 32 (λ i. bit (f (column s i)) j)

-- as the crate's boxes leave them, s0 and s3 exchanged
unfoldable pub boxed : (ℕ → ℕ) → State → State
boxed f s = record { s0 = substituted f s 3; s1 = substituted f s 1; s2 = substituted f s 2; s3 = substituted f s 0 }
