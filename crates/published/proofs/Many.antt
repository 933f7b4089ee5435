-- Many blocks, of any size: one more block after those done, and all of them.
use mathlib.Core.Path.{◌≡◌, refl, sym, ap, ap₂, ◌∙◌}
use mathlib.Core.List.{List, [], ◌++◌, append_assoc, append-nil}
use Prim.Native.Nat.{ℕ, zero, suc, ◌+◌, ◌-◌, ◌*◌, ◌≤◌}
use native.Mathlib.Nat.{mul-zero, mul-suc, add_comm}
use native.Mathlib.Omega.{arith}
use lib.ListN.{length, take, drop, length-take, length-drop}
use lib.Seq.{drop-drop, take-append-add, take-append_seam}
use Rattle.published.specs.Blocks.{each_of}

module _ (size : ℕ) where
  pub each_none : (f : List ℕ → List ℕ) (input : List ℕ) → each_of size f 0 input ≡ []
  unfolding each_of
  each_none f input = refl

  next : (n : ℕ) → size + size * n ≡ size * suc n
  next n = add_comm size (size * n) ∙ sym (mul-suc size n)

  -- one more block, at the end
  pub each_more : (f : List ℕ → List ℕ) (n : ℕ) (input : List ℕ) → each_of size f (suc n) input ≡ each_of size f n input ++ f (take size (drop (size * n) input))
  unfolding each_of
  each_more f zero input = append-nil (f (take size input)) ∙ ap (λ (m : ℕ). f (take size (drop m input))) (sym (mul-zero size))
  each_more f (suc n) input =
      ap (λ (l : List ℕ). f (take size input) ++ l) (each_more f n (drop size input))
      ∙ sym (append_assoc (f (take size input)) (each_of size f n (drop size input)) (f (take size (drop (size * n) (drop size input)))))
      ∙ ap (λ (l : List ℕ). (f (take size input) ++ each_of size f n (drop size input)) ++ f (take size l)) (drop-drop (size * n) size input ∙ ap (λ (m : ℕ). drop m input) (next n))

  -- what stands before the end of a part that was written
  pub written : (a : ℕ) (out new rest : List ℕ) → a ≤ length out → length new ≡ size → take (a + size) (take a out ++ (new ++ rest)) ≡ take a out ++ new
  written a out new rest h len =
      let front : length (take a out) ≡ a = rw length-take (omega arith) in
      ap (λ (m : ℕ). take m (take a out ++ (new ++ rest))) (ap₂ ◌+◌ (sym front) (sym len))
      ∙ take-append-add (take a out) (new ++ rest) (length new)
      ∙ ap (λ (l : List ℕ). take a out ++ l) (take-append_seam new rest)

  -- the part that is a block
  pub one_part : (a : ℕ) (l : List ℕ) → a + size ≤ length l → length (take (a + size - a) (drop a l)) ≡ size
  one_part a l h = simp (length-take, length-drop) (omega arith)

  -- block n, at place a, was written: those before a + size are
  pub one_more : (f : List ℕ → List ℕ) (input out new rest : List ℕ) (a n : ℕ) → size * n ≡ a → a ≤ length out → length new ≡ size
      → take a out ≡ each_of size f n input → new ≡ f (take (a + size - a) (drop a input)) → take (a + size) (take a out ++ (new ++ rest)) ≡ each_of size f (suc n) input
  one_more f input out new rest a n at l len before here =
      let whole : a + size - a ≡ size = omega arith in
      written a out new rest l len ∙ ap₂ ◌++◌ before (here ∙ ap₂ (λ (k m : ℕ). f (take k (drop m input))) whole (sym at)) ∙ sym (each_more f n input)
