-- A text that holds a list holds one byte more after a store; a full one is as it was.
use mathlib.Core.Path.{◌≡◌, refl, sym, ap, ◌∙◌, subst}
use mathlib.Core.Bool.{Bool, true, false}
use mathlib.Core.List.{List, [], ◌∷◌, ◌++◌, append_assoc, append-nil}
use Prim.Native.Nat.{ℕ, ◌+◌, ◌≤◌, ◌<◌, min}
use native.Mathlib.Nat.{min-eq_left, min-le_right}
use native.Mathlib.Numerals.{add-one}
use native.Mathlib.Omega.{arith}
use lib.Dec.{leb}
use lib.ListN.{length, get_or, take, set, replicate, length-append, length-replicate}
use lib.Seq.{set-append_seam, take-set-lt, take-append-le, take-append_seam, take-suc, take_all, take-take}
use borrow.Author.Tests.{leb-true, leb-false}
use Rattle.text.specs.declared.Text.{Text}
use Rattle.text.specs.Written.{written, shown, Adds}

pub same_text : (s t : Text) → s.bytes ≡ t.bytes → s.count ≡ t.count → s ≡ t
same_text s t p q = λ i. record { bytes = p i; count = q i }

module _ (l : List ℕ) (b : ℕ) where
  longer : length (l ++ (b ∷ [])) ≡ length l + 1
  longer = length-append l (b ∷ [])

  pub pushed : (t : Text) → t ≡ written l → t.count < 64 → record { bytes = set t.bytes t.count b; count = t.count + 1 } ≡ written (l ++ (b ∷ []))
  unfolding written
  pushed t e h =
      let count : t.count ≡ min (length l) 64 = ap (λ (s : Text). s.count) e in
      let short : t.count ≡ length l = omega arith in
      same_text _ _
      (ap (λ (xs : List ℕ). set xs t.count b) (ap (λ (s : Text). s.bytes) e)
      ∙ ap (λ (n : ℕ). set (take 64 (l ++ replicate 64 0)) n b) short
      ∙ sym (take-set-lt 64 (l ++ replicate 64 0) (length l) b (omega arith))
      ∙ ap (take 64) (set-append_seam l 0 (replicate 63 0) b)
      ∙ sym (take-append-le 64 (l ++ b ∷ replicate 63 0) (0 ∷ []) (omega (arith, length-append l (b ∷ replicate 63 0), length-replicate {A = ℕ} 63 0)))
      ∙ ap (take 64) (append_assoc l (b ∷ replicate 63 0) (0 ∷ []) ∙ sym (append_assoc l (b ∷ []) (replicate 64 0))))
      (omega (arith, longer))

  pub full : (t : Text) → t ≡ written l → 64 ≤ t.count → t ≡ written (l ++ (b ∷ []))
  unfolding written
  full t e h =
      let count : t.count ≡ min (length l) 64 = ap (λ (s : Text). s.count) e in
      e
      ∙ same_text _ _
      (take-append-le 64 l (replicate 64 0) (omega arith)
      ∙ sym (take-append-le 64 l (b ∷ replicate 64 0) (omega arith))
      ∙ ap (take 64) (sym (append_assoc l (b ∷ []) (replicate 64 0))))
      (omega (arith, longer))

pub adds-nothing : (t : Text) → Adds [] t t
adds-nothing t l e = rw append-nil e

-- bytes behind bytes
pub then_adds : (x y : List ℕ) (s t u : Text) → Adds x s t → Adds y t u → Adds (x ++ y) s u
then_adds x y s t u a b l e = subst (λ (z : List ℕ). u ≡ written z) (append_assoc l x y) (b (l ++ x) (a l e))

-- what f makes of the first elements, and of the next one
pub adds_one : (f : List ℕ → List ℕ) → ((a b : List ℕ) → f (a ++ b) ≡ f a ++ f b) → (bs : List ℕ) (i : ℕ) → i < length bs
    → (s t u : Text) → Adds (f (take i bs)) s t → Adds (f (get_or bs i 0 ∷ [])) t u → Adds (f (take (i + 1) bs)) s u
adds_one f hom bs i h s t u a b =
    subst (λ (z : List ℕ). Adds z s u)
    (sym (hom (take i bs) (get_or bs i 0 ∷ [])) ∙ ap f (sym (take-suc bs i 0 h) ∙ ap (λ (n : ℕ). take n bs) (sym (add-one i))))
    (then_adds (f (take i bs)) (f (get_or bs i 0 ∷ [])) s t u a b)

-- as many elements as there are, if n are too many
pub take_most : (n k m : ℕ) (l : List ℕ) → length l ≡ k → m ≡ min n k → take m l ≡ take n l
take_most n k m l long e = go (leb n k) refl
  where
    go : (t : Bool) → leb n k ≡ t → take m l ≡ take n l
    go true p = let h : n ≤ k = leb-true n k p in let same : m ≡ n = omega arith in ap (λ (i : ℕ). take i l) same
    go false p = let h : k < n = leb-false n k p in take_all m l (omega arith) ∙ sym (take_all n l (omega arith))

-- no text is longer than its 64 bytes
pub written-fits : (l : List ℕ) → (written l).count ≤ 64
unfolding written
written-fits l = min-le_right (length l) 64

pub shown-written : (l : List ℕ) → length l ≤ 64 → shown (written l) ≡ l
unfolding written
shown-written l h =
    let count : min (length l) 64 ≡ length l = min-eq_left h in
    ap (λ (n : ℕ). take n (take 64 (l ++ replicate 64 0))) count
    ∙ take-take (length l) 64 (l ++ replicate 64 0) h
    ∙ take-append_seam l (replicate 64 0)
