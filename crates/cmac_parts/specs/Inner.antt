-- Inner: subkey_of of a block, and of what is none.
use Rattle.std.specs.Prelude.{cond, List, ℕ, eqb, length}
use Rattle.cmac_parts.specs.Standard.{subkey}

-- the next subkey, of a block
abbrev pub subkey_of : List ℕ → List ℕ
subkey_of x = cond (eqb (length x) 16) (subkey x) x
