-- Many blocks, in groups: blocks that are joined, some blocks and then others, groups of blocks, and two parts of the input.
use mathlib.Core.Path.{◌≡◌, refl, sym, ap, ap₂, ◌∙◌}
use mathlib.Core.List.{List, [], ◌∷◌, ◌++◌, append_assoc}
use Prim.Native.Nat.{ℕ, zero, suc, ◌+◌, ◌-◌, ◌*◌, ◌/◌, ◌%◌, ◌≤◌, ◌<◌}
use native.Mathlib.Nat.{mul-zero, mul-suc, add_comm, le-add_right, le_of_eq}
use native.Mathlib.Omega.{arith}
use lib.ListN.{length, take, drop, length-take, length-drop}
use lib.Seq.{drop-drop, take-take, take-nil, take_all}
use Rattle.published.specs.Blocks.{each_of, all_of, joined}
use Rattle.published.proofs.Many.{each_more, written}

-- ---- joined

pub joined_none : (g : ℕ → List ℕ) → joined 0 g ≡ []
unfolding joined
joined_none g = refl

pub joined_cong : (n : ℕ) (g h : ℕ → List ℕ) → ((k : ℕ) → k < n → g k ≡ h k) → joined n g ≡ joined n h
unfolding joined
joined_cong zero g h e = refl
joined_cong (suc n) g h e = ap₂ ◌++◌ (joined_cong n g h (λ k l. e k (omega arith))) (e n (omega arith))

pub each_joined : (size : ℕ) (f : List ℕ → List ℕ) (n : ℕ) (input : List ℕ) → each_of size f n input ≡ joined n (λ k. f (take size (drop (size * k) input)))
unfolding each_of joined
each_joined size f zero input = refl
each_joined size f (suc n) input =
    each_more size f n input ∙ ap (λ (l : List ℕ). l ++ f (take size (drop (size * n) input))) (each_joined size f n input)

-- the part at place a was written, and joins those before it
pub joined-put : (size : ℕ) (g : ℕ → List ℕ) (out new rest : List ℕ) (n : ℕ) → size * n ≤ length out → length new ≡ size
    → take (size * n) out ≡ joined n g → new ≡ g n → take (size * n + size) (take (size * n) out ++ (new ++ rest)) ≡ joined (suc n) g
unfolding joined
joined-put size g out new rest n h len before here = written size (size * n) out new rest h len ∙ ap₂ ◌++◌ before here

drop-take : (a b : ℕ) (l : List ℕ) → drop a (take (a + b) l) ≡ take b (drop a l)
drop-take zero b l = let none : 0 + b ≡ b = omega arith in ap (λ (k : ℕ). take k l) none
drop-take (suc a) b [] = ap (drop (suc a)) (take-nil (suc a + b)) ∙ sym (take-nil b)
drop-take (suc a) b (x ∷ l) =
    let more : suc a + b ≡ suc (a + b) = omega arith in
    ap (λ (k : ℕ). drop (suc a) (take k (x ∷ l))) more ∙ drop-take a b l

-- ---- some blocks, and then others

module _ (size : ℕ) (f : List ℕ → List ℕ) where
  next : (m : ℕ) → size + size * m ≡ size * suc m
  next m = add_comm size (size * m) ∙ sym (mul-suc size m)

  pub each_add : (m n : ℕ) (input : List ℕ) → each_of size f (m + n) input ≡ each_of size f m input ++ each_of size f n (drop (size * m) input)
  unfolding each_of
  each_add zero n input =
      let none : 0 + n ≡ n = omega arith in
      ap (λ (k : ℕ). each_of size f k input) none ∙ ap (λ (k : ℕ). each_of size f n (drop k input)) (sym (mul-zero size))
  each_add (suc m) n input =
      let more : suc m + n ≡ suc (m + n) = omega arith in
      ap (λ (k : ℕ). each_of size f k input) more
      ∙ ap (λ (l : List ℕ). f (take size input) ++ l) (each_add m n (drop size input))
      ∙ sym (append_assoc (f (take size input)) (each_of size f m (drop size input)) (each_of size f n (drop (size * m) (drop size input))))
      ∙ ap (λ (l : List ℕ). (f (take size input) ++ each_of size f m (drop size input)) ++ each_of size f n l) (drop-drop (size * m) size input ∙ ap (λ (k : ℕ). drop k input) (next m))

  -- blocks look at their own bytes alone
  pub each_take : (m : ℕ) (input : List ℕ) → each_of size f m (take (size * m) input) ≡ each_of size f m input
  unfolding each_of
  each_take zero input = refl
  each_take (suc m) input =
      let at : size * suc m ≡ size + size * m = sym (next m) in
      let inside : size ≤ size + size * m = le-add_right size (size * m) in
      ap (λ (k : ℕ). each_of size f (suc m) (take k input)) at
      ∙ ap₂ (λ (a b : List ℕ). f a ++ each_of size f m b) (take-take size (size + size * m) input inside) (drop-take size (size * m) input)
      ∙ ap (λ (l : List ℕ). f (take size input) ++ l) (each_take m (drop size input))

-- all the blocks: those of the first m bytes, and those after them
pub all_in_two : (f : List ℕ → List ℕ) (m : ℕ) (input : List ℕ) → m % 16 ≡ 0 → m ≤ length input → length input % 16 ≡ 0
    → all_of 16 f input ≡ all_of 16 f (take m input) ++ all_of 16 f (drop m input)
unfolding all_of
all_in_two f m input h l whole =
    let at : 16 * (m / 16) ≡ m = omega arith in
    let count : length input / 16 ≡ m / 16 + (length input - m) / 16 = omega arith in
    let first : m / 16 ≡ length (take m input) / 16 = rw length-take (omega arith) in
    let last : (length input - m) / 16 ≡ length (drop m input) / 16 = rw length-drop (omega arith) in
    ap (λ (n : ℕ). each_of 16 f n input) count
    ∙ each_add 16 f (m / 16) ((length input - m) / 16) input
    ∙ ap₂ ◌++◌ (sym (each_take 16 f (m / 16) input) ∙ ap₂ (λ (k n : ℕ). each_of 16 f n (take k input)) at first) (ap₂ (λ (k n : ℕ). each_of 16 f n (drop k input)) at last)

-- all of them, where those before a are written and a is the end
pub all_written : (f : List ℕ → List ℕ) (input out : List ℕ) (a : ℕ) → a ≡ length input → length out ≡ length input → take a out ≡ each_of 16 f (a / 16) input → out ≡ all_of 16 f input
unfolding all_of
all_written f input out a e len done =
    sym (take_all a out (le_of_eq (len ∙ sym e))) ∙ done ∙ ap (λ (m : ℕ). each_of 16 f (m / 16) input) e
