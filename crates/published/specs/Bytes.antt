-- Bytes read as one number, byte 0 the most significant, and a number written as bytes; lists of bytes.
use Rattle.std.specs.Prelude.{List, [], ◌∷◌, ℕ, zero, suc, ◌+◌, ◌*◌, ◌^◌, ◌<◌, length, get_or}
use Rattle.bits.specs.Digit.{digit}

unfoldable pub from_bytes : List ℕ → ℕ
from_bytes [] = 0
from_bytes (b ∷ bs) = b * 256 ^ length bs + from_bytes bs

-- the k low bytes of x
unfoldable pub to_bytes : ℕ → ℕ → List ℕ
to_bytes zero x = []
to_bytes (suc k) x = digit 256 x k ∷ to_bytes k x

-- every element is a byte: so said, it is what a slice of bytes is known to be
abbrev pub Bytes : List ℕ → Type 0
Bytes bs = (i : ℕ) → get_or bs i 0 < 256
