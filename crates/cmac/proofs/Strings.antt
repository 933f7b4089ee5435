-- Strings of bytes compared.
use mathlib.Core.Path.{◌≡◌, refl, sym, ap, ap₂, ◌∙◌}
use mathlib.Core.Bool.{Bool, true, false}
use mathlib.Core.List.{List, [], ◌∷◌}
use Prim.Native.Nat.{ℕ, ◌+◌, ◌*◌, ◌≤◌}
use native.Mathlib.Nat.{suc_inj}
use native.Mathlib.Omega.{arith}
use lib.Bits.{bit_and, bit_or, bit_xor, xor_self, or_add_and, xor_add_and, and_le_l, and_le_r}
use lib.Dec.{eqb}
use lib.ListN.{length}
use borrow.Author.Tests.{eq-eqb, eqb-true, eqb-false}
use Rattle.bits.proofs.Truth.{both, together}
use Rattle.std.specs.List.{fold, zip}
use Rattle.cmac.specs.Calls.{same}
use Rattle.cmac.specs.Inner.{differing}

pub false_not_true : false ≡ true → ⊥
false_not_true e = let z : ◌≡◌ {A = ℕ} 0 1 = cc in omega arith

pub same_refl : (xs : List ℕ) → same xs xs ≡ true
unfolding same
same_refl [] = refl
same_refl (x ∷ xs) = together (eqb x x) (same xs xs) (eq-eqb x x refl) (same_refl xs)

-- a yes is a yes to all bytes
pub same_only : (xs ys : List ℕ) → same xs ys ≡ true → xs ≡ ys
unfolding same
same_only [] [] e = refl
same_only [] (y ∷ ys) e = absurd (false_not_true e)
same_only (x ∷ xs) [] e = absurd (false_not_true e)
same_only (x ∷ xs) (y ∷ ys) e =
    let b : (eqb x y ≡ true) × (same xs ys ≡ true) = both (eqb x y) (same xs ys) e in
    ap₂ ◌∷◌ (eqb-true x y b.0) (same_only xs ys b.1)

or_none : (a b : ℕ) → bit_or a b ≡ 0 → (a ≡ 0) × (b ≡ 0)
or_none a b e =
    let s : bit_or a b + bit_and a b ≡ a + b = or_add_and a b in
    let l : bit_and a b ≤ a = and_le_l a b in
    let r : bit_and a b ≤ b = and_le_r a b in
    (omega arith, omega arith)

xor_none : (a b : ℕ) → bit_xor a b ≡ 0 → a ≡ b
xor_none a b e =
    let s : bit_xor a b + bit_and a b * 2 ≡ a + b = xor_add_and a b in
    let l : bit_and a b ≤ a = and_le_l a b in
    let r : bit_and a b ≤ b = and_le_r a b in
    omega arith

-- what is gathered tells them apart: no bit differs exactly if none did before, and no byte does
gathered : ℕ → List ℕ → List ℕ → ℕ
gathered bits xs ys = fold (λ (d : ℕ) (pair : ℕ × ℕ). bit_or d (bit_xor pair.0 pair.1)) bits (zip xs ys)

alike : (xs ys : List ℕ) (bits : ℕ) → length xs ≡ length ys → gathered bits xs ys ≡ 0 → (bits ≡ 0) × (xs ≡ ys)
unfolding gathered
alike [] [] bits e h = (h, refl)
alike [] (y ∷ ys) bits e h = absurd (omega arith)
alike (x ∷ xs) [] bits e h = absurd (omega arith)
alike (x ∷ xs) (y ∷ ys) bits e h =
    let rest = alike xs ys (bit_or bits (bit_xor x y)) (suc_inj e) h in
    let here = or_none bits (bit_xor x y) rest.0 in
    (here.0, ap₂ ◌∷◌ (xor_none x y here.1) rest.1)

nothing : (xs : List ℕ) → gathered 0 xs xs ≡ 0
unfolding gathered
nothing [] = refl
nothing (x ∷ xs) = ap (λ (d : ℕ). gathered d xs xs) (ap (bit_or 0) (xor_self x)) ∙ nothing xs

pub told : (xs ys : List ℕ) → length xs ≡ length ys → eqb (differing xs ys) 0 ≡ same xs ys
unfolding gathered
told xs ys e = go (eqb (differing xs ys) 0) (same xs ys) refl refl
  where
    go : (t s : Bool) → eqb (differing xs ys) 0 ≡ t → same xs ys ≡ s → t ≡ s
    go true true d f = refl
    go false false d f = refl
    go true false d f = absurd (false_not_true (sym f ∙ ap (λ (l : List ℕ). same l ys) (alike xs ys 0 e (eqb-true _ 0 d)).1 ∙ same_refl ys))
    go false true d f = absurd (eqb-false _ 0 d (ap (λ (l : List ℕ). differing l ys) (same_only xs ys f) ∙ nothing ys))
