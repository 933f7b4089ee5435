-- Strings of bytes, xored.
use mathlib.Core.Path.{◌≡◌, refl, sym, ap, ap₂, ◌∙◌}
use mathlib.Core.List.{List, [], ◌∷◌, ◌++◌}
use mathlib.Core.Bool.{Bool}
use Prim.Native.Nat.{ℕ, zero, suc, ◌+◌, ◌<◌, ◌^◌}
use native.Mathlib.Nat.{suc_inj, not-suc-le-zero, le_of_eq, two-pow-succ}
use native.Mathlib.Omega.{arith}
use lib.Bits.{bit_xor, xor_lt}
use lib.Dec.{lit<}
use lib.ListN.{length, take, get_or}
use Rattle.bits.specs.Digit.{bit, ◌⊕◌ as ◌xor◌}
use Rattle.bits.proofs.Bits.{bit_ext, bit-xor, ⊕-twice}
use Rattle.counter.specs.Standard.{◌⊕◌}

pub length-⊕ : (xs ys : List ℕ) → length xs ≡ length ys → length (xs ⊕ ys) ≡ length ys
unfolding ◌⊕◌
length-⊕ [] ys e = e
length-⊕ (x ∷ xs) [] e = refl
length-⊕ (x ∷ xs) (y ∷ ys) e = ap suc (length-⊕ xs ys (suc_inj e))

pub get_or_⊕ : (xs ys : List ℕ) (i : ℕ) → length xs ≡ length ys → get_or (xs ⊕ ys) i 0 ≡ bit_xor (get_or xs i 0) (get_or ys i 0)
unfolding ◌⊕◌
get_or_⊕ [] [] i e = refl
get_or_⊕ [] (y ∷ ys) i e = absurd (not-suc-le-zero (le_of_eq (sym e)))
get_or_⊕ (x ∷ xs) [] i e = absurd (not-suc-le-zero (le_of_eq e))
get_or_⊕ (x ∷ xs) (y ∷ ys) zero e = refl
get_or_⊕ (x ∷ xs) (y ∷ ys) (suc i) e = get_or_⊕ xs ys i (suc_inj e)

-- two strings one after the other
pub split-⊕ : (a b x y : List ℕ) → length a ≡ length x → (a ++ b) ⊕ (x ++ y) ≡ (a ⊕ x) ++ (b ⊕ y)
unfolding ◌⊕◌
split-⊕ [] b [] y e = refl
split-⊕ [] b (z ∷ x) y e = absurd (not-suc-le-zero (le_of_eq (sym e)))
split-⊕ (z ∷ a) b [] y e = absurd (not-suc-le-zero (le_of_eq e))
split-⊕ (z ∷ a) b (v ∷ x) y e = ap (λ (l : List ℕ). bit_xor z v ∷ l) (split-⊕ a b x y (suc_inj e))

-- what is longer on the right does not count
pub ⊕-longer : (xs ys : List ℕ) → xs ⊕ take (length xs) ys ≡ xs ⊕ ys
unfolding ◌⊕◌
⊕-longer [] ys = refl
⊕-longer (x ∷ xs) [] = refl
⊕-longer (x ∷ xs) (y ∷ ys) = ap (λ (l : List ℕ). bit_xor x y ∷ l) (⊕-longer xs ys)

-- xored twice
below_power : (n : ℕ) → n < 2 ^ n
below_power zero = lit< tt
below_power (suc n) = let h = below_power n in rw two-pow-succ (omega arith)

xor-twice : (a b : ℕ) → bit_xor (bit_xor a b) b ≡ a
xor-twice a b =
    let h = below_power (a + b) in
    let ha : a < 2 ^ (a + b) = omega arith in
    let hb : b < 2 ^ (a + b) = omega arith in
    bit_ext (a + b) (bit_xor (bit_xor a b) b) a (xor_lt (a + b) (bit_xor a b) b (xor_lt (a + b) a b ha hb) hb) ha
    (λ i h. bit-xor (bit_xor a b) b i ∙ ap (λ (x : Bool). x xor bit b i) (bit-xor a b i) ∙ ⊕-twice (bit a i) (bit b i))

pub ⊕_again : (xs ys : List ℕ) → length xs ≡ length ys → (xs ⊕ ys) ⊕ ys ≡ xs
unfolding ◌⊕◌
⊕_again [] ys e = refl
⊕_again (x ∷ xs) [] e = sym (absurd (not-suc-le-zero (le_of_eq e)))
⊕_again (x ∷ xs) (y ∷ ys) e = ap₂ ◌∷◌ (xor-twice x y) (⊕_again xs ys (suc_inj e))
