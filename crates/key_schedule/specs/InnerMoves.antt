-- Inner: moves of bits in a number of 64 bits as the code has them in tables: parts of the number side by side, and exchanges one after the other.
use Rattle.std.specs.Prelude.{List, [], ◌∷◌, ℕ, ◌*◌, ◌/◌, ◌%◌, ◌^◌}
use Rattle.std.specs.Int.Bits.{bit_and, bit_or}
use Rattle.key_schedule.specs.declared.Part.{Part}
use Rattle.key_schedule.specs.declared.Part.TheVariants.{Down, Up}
use Rattle.key_schedule.specs.InnerHalves.{swapped}

-- some bits of x: those that a mask leaves, after they went so far down, or before they go so far up
abbrev pub part_of : Part → ℕ → ℕ
part_of (Down n mask) x = bit_and (x / 2 ^ (n % 64)) mask
part_of (Up mask n) x = bit_and x mask * 2 ^ (n % 64) % 2 ^ 64

-- the parts side by side, beside y
unfoldable pub beside : ℕ → List Part → ℕ → ℕ
beside y [] x = y
beside y (p ∷ ps) x = beside (bit_or y (part_of p x)) ps x

unfoldable pub moved : List Part → ℕ → ℕ
moved ps x = beside 0 ps x

-- each mask's bits exchanged with those so far above them
unfoldable pub exchanged : List (ℕ × ℕ) → ℕ → ℕ
exchanged [] x = x
exchanged (s ∷ ss) x = exchanged ss (swapped x s.0 (s.1 % 32))
