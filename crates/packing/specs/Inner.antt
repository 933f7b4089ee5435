-- Inner: a block as two halves of 64 bits, and where the bits of a half go on their way to the words.
use Rattle.std.specs.Prelude.{◌&&◌, ℕ, ◌+◌, ◌-◌, ◌*◌, ◌/◌, ◌%◌, ◌^◌, eqb}
use Rattle.bits.specs.Digit.{digit, bit, number, of_bits}
use Rattle.primitives.specs.declared.State.{State}
use Rattle.primitives.specs.Packed.{word_of}

-- ---- bits that move in a half

-- the half whose bit p is bit f p of x
unfoldable pub reordered : (ℕ → ℕ) → ℕ → ℕ
reordered f x = of_bits 64 (λ p. bit x (f p))

-- figure k of a place, in binary
abbrev pub figure : ℕ → ℕ → ℕ
figure k p = p / 2 ^ k % 2

-- the place p with its figures k and k + 2 exchanged, and the places that are higher then
abbrev pub crossed : ℕ → ℕ → ℕ
crossed k p = p + 3 * 2 ^ k * figure k p - 3 * 2 ^ k * figure (k + 2) p

unfoldable pub rising : ℕ → ℕ
rising k = of_bits 64 (λ p. eqb (figure k p) 1 && eqb (figure (k + 2) p) 0)

-- bit 4i + j goes to place 16j + i, and back: where the bit at place p comes from
abbrev pub gathered_from : ℕ → ℕ
gathered_from p = 4 * (p % 16) + p / 16

abbrev pub scattered_from : ℕ → ℕ
scattered_from p = 16 * (p % 4) + p / 4

-- ---- halves and words share pieces of sixteen bits, their digits to base 65536

abbrev pub word_from : ℕ → ℕ → ℕ → ℕ
word_from high low j = digit 65536 high j * 65536 + digit 65536 low j

abbrev pub half_from : State → ℕ → ℕ
half_from s h = number 65536 4 (λ j. digit 65536 (word_of s j) h)
