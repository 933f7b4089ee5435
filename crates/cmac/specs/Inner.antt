-- Inner: what the private functions leave of a state; and two strings told apart by one number.
use Rattle.std.specs.Prelude.{◌≡◌, List, ℕ, length, fold, zip}
use Rattle.std.specs.Int.Bits.{bit_or, bit_xor}
use Rattle.gift128.specs.Calls.{encrypted_by}
use Rattle.cmac_parts.specs.Standard.{◌⊕◌, before, blocks, past, chained}
use Rattle.cmac.specs.declared.Mac.{Mac}
use Rattle.cmac.specs.Calls.{kept}

-- one block chained
abbrev pub absorbed : Mac → List ℕ → Mac
absorbed s block = record { words = s.words; chain = encrypted_by s.words (s.chain ⊕ block); held = s.held; count = s.count }

-- none of the held bytes counts
abbrev pub emptied : Mac → Mac
emptied s = record { words = s.words; chain = s.chain; held = s.held; count = 0 }

-- m being all that is not chained yet: how many bytes are then held, the chain, and the held block
pub record Fills (words chain m : List ℕ) (count : ℕ) (c h : List ℕ) : Type 0 where
  pub counts : count ≡ length (past (before m) m)
  pub chains : c ≡ chained (encrypted_by words) chain (blocks (before m) m)
  pub holds : h ≡ kept (past (before m) m)

-- the bits in which two strings differ, as far as both go, all in one byte
abbrev pub differing : List ℕ → List ℕ → ℕ
differing xs ys = fold (λ (bits : ℕ) (pair : ℕ × ℕ). bit_or bits (bit_xor pair.0 pair.1)) 0 (zip xs ys)
