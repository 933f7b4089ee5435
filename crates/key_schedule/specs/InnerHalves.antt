-- Inner: two words of 32 bits in one number of 64, one in its low half and one in its high half.
use Rattle.std.specs.Prelude.{ℕ, ◌+◌, ◌*◌, ◌/◌, ◌%◌, ◌^◌}
use Rattle.std.specs.Int.Bits.{bit_and, bit_xor}

abbrev pub low_of : ℕ → ℕ
low_of x = x % 2 ^ 32

abbrev pub high_of : ℕ → ℕ
high_of x = x / 2 ^ 32

abbrev pub joined : ℕ → ℕ → ℕ
joined low high = high * 2 ^ 32 + low

-- f of each half
abbrev pub in_both : (ℕ → ℕ) → ℕ → ℕ
in_both f x = joined (f (low_of x)) (f (high_of x))

-- in a number of 64 bits, each bit i for which mask has one changes places with bit i + n, as the operators say it
abbrev pub swapped : ℕ → ℕ → ℕ → ℕ
swapped x mask n = bit_xor (bit_xor x (bit_and (bit_xor x (x / 2 ^ n)) mask)) (bit_and (bit_xor x (x / 2 ^ n)) mask * 2 ^ n % 2 ^ 64)
