-- The packed words of a state of n bits, and the state that four words stand for: bit i of word j is b(4i+j).
use Rattle.std.specs.Prelude.{ℕ, ◌+◌, ◌*◌, ◌/◌, ◌%◌}
use Rattle.bits.specs.Digit.{bit, of_bits}

unfoldable pub word : ℕ → ℕ → ℕ → ℕ
word n s j = of_bits (n / 4) (λ i. bit s (4 * i + j))

abbrev pub from_words : ℕ → (ℕ → ℕ) → ℕ
from_words n w = of_bits n (λ q. bit (w (q % 4)) (q / 4))
