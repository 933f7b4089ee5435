-- Words of 32 bits: bits that move within a word, and bits that change places.
use Rattle.std.specs.Prelude.{Bool, cond, ◌&&◌, ◌||◌, ℕ, ◌+◌, ◌-◌, ◌*◌, ◌/◌, ◌%◌, eqb, leb, ltb}
use Rattle.bits.specs.Digit.{bit, of_bits, ◌⊕◌}

-- the word whose bit i is bit π i of x
unfoldable pub permuted : (ℕ → ℕ) → ℕ → ℕ
permuted π x = of_bits 32 (λ i. bit x (π i))

-- each group of g bits rotated right by k: bit i comes from k places up, round the group's end
abbrev pub ror_in : ℕ → ℕ → ℕ → ℕ
ror_in g k i = i / g * g + (i + k) % g

-- whether k is a rotation inside groups of g bits: nibbles, bytes or halves
abbrev pub is_turn : ℕ → ℕ → Bool
is_turn g k = (eqb g 4 || eqb g 8 || eqb g 16) && leb 1 k && ltb k g

-- each bit i of b for which mask has one changes places with bit i + n of a: what b becomes, and what a becomes
unfoldable pub swapped_low : ℕ → ℕ → ℕ → ℕ → ℕ
swapped_low a b mask n = of_bits 32 (λ i. cond (bit mask i) (bit a (i + n)) (bit b i))

unfoldable pub swapped_high : ℕ → ℕ → ℕ → ℕ → ℕ
swapped_high a b mask n = of_bits 32 (λ i. cond (leb n i && bit mask (i - n)) (bit b (i - n)) (bit a i))

-- in one word, each bit i for which mask has one changes places with bit i + n (where the two sets of places overlap, the changes add up)
unfoldable pub swapped_single : ℕ → ℕ → ℕ → ℕ
swapped_single a mask n =
    of_bits 32 (λ i. bit a i ⊕ (bit mask i && (bit a i ⊕ bit a (i + n))) ⊕ (leb n i && bit mask (i - n) && (bit a (i - n) ⊕ bit a i)))
