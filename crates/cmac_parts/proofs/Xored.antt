-- Strings of bytes xored.
use mathlib.Core.Path.{◌≡◌, refl, sym, ap}
use mathlib.Core.List.{List, [], ◌∷◌}
use Prim.Native.Nat.{ℕ, zero, suc}
use native.Mathlib.Nat.{suc_inj, not-suc-le-zero, le_of_eq}
use lib.Bits.{bit_xor}
use lib.ListN.{length, get_or}
use Rattle.cmac_parts.specs.Standard.{◌⊕◌}

pub length-⊕ : (xs ys : List ℕ) → length xs ≡ length ys → length (xs ⊕ ys) ≡ length xs
unfolding ◌⊕◌
length-⊕ [] ys e = refl
length-⊕ (x ∷ xs) [] e = sym e
length-⊕ (x ∷ xs) (y ∷ ys) e = ap suc (length-⊕ xs ys (suc_inj e))

pub get_or_⊕ : (xs ys : List ℕ) (i : ℕ) → length xs ≡ length ys → get_or (xs ⊕ ys) i 0 ≡ bit_xor (get_or xs i 0) (get_or ys i 0)
unfolding ◌⊕◌
get_or_⊕ [] [] i e = refl
get_or_⊕ [] (y ∷ ys) i e = absurd (not-suc-le-zero (le_of_eq (sym e)))
get_or_⊕ (x ∷ xs) [] i e = absurd (not-suc-le-zero (le_of_eq e))
get_or_⊕ (x ∷ xs) (y ∷ ys) zero e = refl
get_or_⊕ (x ∷ xs) (y ∷ ys) (suc i) e = get_or_⊕ xs ys i (suc_inj e)
