-- Inner: the update of a key word, and what it makes of a word that is kept in an arrangement.
use Rattle.std.specs.Prelude.{ℕ, zero, suc}
use Rattle.bits.specs.Digit.{digit}
use Rattle.published.specs.Key.{◌‖◌, ror16}
use Rattle.round_words.specs.Arranged.{arranged, stands}

-- The published update of V = k1 ‖ k0, as the key state turns it into a U: (k1 rotated right 2) ‖ (k0 rotated right 12).
unfoldable pub updated : ℕ → ℕ
updated w = ror16 2 (digit 65536 w 1) ‖ ror16 12 (digit 65536 w 0)

unfoldable pub updates : ℕ → ℕ → ℕ
updates zero w = w
updates (suc m) w = updated (updates m w)

-- m updates of the word that w stands for in arrangement k, kept in that arrangement
unfoldable pub later : ℕ → ℕ → ℕ → ℕ
later k m w = arranged k (updates m (stands k w))
