-- Many blocks that are done in parts: one group more, the first m bytes, and then the rest from m on, or from a place before it.
use mathlib.Core.Path.{◌≡◌, refl, sym, ap, ap₂, ◌∙◌}
use mathlib.Core.List.{List, ◌++◌, append-nil}
use Prim.Native.Nat.{ℕ, zero, suc, ◌+◌, ◌-◌, ◌*◌, ◌/◌, ◌%◌, ◌≤◌}
use native.Mathlib.Nat.{le_of_eq}
use native.Mathlib.Omega.{arith}
use lib.ListN.{length, take, drop, length-append, length-take, length-drop, drop_of_length-le}
use lib.Seq.{take_at, take-take, take_all}
use borrow.Rule.Slice.PartMut.{put_mid}
use Rattle.published.specs.Blocks.{each_of, all_of}
use Rattle.published.proofs.Many.{written}
use Rattle.published.proofs.Groups.{each_add, each_take}

-- ---- groups of as many blocks each

-- the group at place a was written: the blocks before its end are
pub group_more : (blocks size : ℕ) → size ≡ 16 * blocks → (f : List ℕ → List ℕ) (input out new rest : List ℕ) (a : ℕ) → a % 16 ≡ 0 → a ≤ length out → length new ≡ size
    → take a out ≡ each_of 16 f (a / 16) input → new ≡ each_of 16 f blocks (take (a + size - a) (drop a input))
    → take (a + size) (take a out ++ (new ++ rest)) ≡ each_of 16 f ((a + size) / 16) input
group_more blocks size e f input out new rest a h l len before here =
    let at : a ≡ 16 * (a / 16) = omega arith in
    let whole : a + size - a ≡ 16 * blocks = omega arith in
    let next : a / 16 + blocks ≡ (a + size) / 16 = omega arith in
    written size a out new rest l len
    ∙ ap₂ ◌++◌ before (here ∙ ap (λ (k : ℕ). each_of 16 f blocks (take k (drop a input))) whole ∙ each_take 16 f blocks (drop a input) ∙ ap (λ (k : ℕ). each_of 16 f blocks (drop k input)) at)
    ∙ sym (each_add 16 f (a / 16) blocks input)
    ∙ ap (λ (n : ℕ). each_of 16 f n input) next

-- ---- blocks that have sixteen bytes each

module _ (f : List ℕ → List ℕ) (sixteen : (l : List ℕ) → length (f l) ≡ 16) where
  each_length : (n : ℕ) (input : List ℕ) → length (each_of 16 f n input) ≡ 16 * n
  unfolding each_of
  each_length zero input = refl
  each_length (suc n) input =
      let next : 16 + 16 * n ≡ 16 * suc n = omega arith in
      length-append (f (take 16 input)) (each_of 16 f n (drop 16 input)) ∙ ap₂ ◌+◌ (sixteen (take 16 input)) (each_length n (drop 16 input)) ∙ next

  -- the first of several
  each_front : (j k : ℕ) (input : List ℕ) → take (16 * j) (each_of 16 f (j + k) input) ≡ each_of 16 f j input
  each_front j k input = ap (take (16 * j)) (each_add 16 f j k input) ∙ take_at (each_of 16 f j input) (each_of 16 f k (drop (16 * j) input)) (16 * j) (each_length j input)

  -- the rest, written from place e on
  pub ended : (input out new : List ℕ) (e m : ℕ) → e % 16 ≡ 0 → m % 16 ≡ 0 → e ≤ m → m ≤ length input → length input % 16 ≡ 0 → length out ≡ length input
      → take m out ≡ each_of 16 f (m / 16) input → new ≡ all_of 16 f (take (length input - e) (drop e input)) → put_mid e (length out - e) out new ≡ all_of 16 f input
  unfolding all_of
  ended input out new e m he hm less inside whole len before here =
      let at : 16 * (e / 16) ≡ e = omega arith in
      let count : m / 16 ≡ e / 16 + (m - e) / 16 = omega arith in
      let total : length input / 16 ≡ e / 16 + (length input - e) / 16 = omega arith in
      let all : length (drop e input) ≤ length input - e = rw length-drop (le_of_eq refl) in
      let short : length (drop e out) ≤ length out - e = rw length-drop (le_of_eq refl) in
      let blocks : length (drop e input) / 16 ≡ (length input - e) / 16 = rw length-drop in
      let front : take e out ≡ each_of 16 f (e / 16) input =
      sym (take-take e m out less) ∙ ap (take e) (before ∙ ap (λ (n : ℕ). each_of 16 f n input) count)
      ∙ ap (λ (n : ℕ). take n (each_of 16 f (e / 16 + (m - e) / 16) input)) (sym at) ∙ each_front (e / 16) ((m - e) / 16) input in
      let back : new ≡ each_of 16 f ((length input - e) / 16) (drop (16 * (e / 16)) input) =
      here ∙ ap (λ (l : List ℕ). each_of 16 f (length l / 16) l) (take_all (length input - e) (drop e input) all)
      ∙ ap₂ (λ (n k : ℕ). each_of 16 f n (drop k input)) blocks (sym at) in
      ap₂ (λ (a b : List ℕ). a ++ (b ++ drop (length out - e) (drop e out))) front back
      ∙ ap (λ (l : List ℕ). each_of 16 f (e / 16) input ++ (each_of 16 f ((length input - e) / 16) (drop (16 * (e / 16)) input) ++ l)) (drop_of_length-le (drop e out) short)
      ∙ ap (λ (l : List ℕ). each_of 16 f (e / 16) input ++ l) (append-nil (each_of 16 f ((length input - e) / 16) (drop (16 * (e / 16)) input)))
      ∙ sym (each_add 16 f (e / 16) ((length input - e) / 16) input)
      ∙ ap (λ (n : ℕ). each_of 16 f n input) (sym total)

pub part_length : (l : List ℕ) (m : ℕ) → m % 16 ≡ 0 → length l % 16 ≡ 0 → length (take (length l - m) (drop m l)) % 16 ≡ 0
part_length l m h whole = simp (length-take, length-drop) (omega arith)

-- the first m bytes, written
pub first_part : (f : List ℕ → List ℕ) (input out new : List ℕ) (m : ℕ) → m % 16 ≡ 0 → m ≤ length input → length out ≡ length input → length new ≡ m
    → new ≡ all_of 16 f (take (m - 0) input) → take m (put_mid 0 (m - 0) out new) ≡ each_of 16 f (m / 16) input
unfolding all_of
first_part f input out new m h inside len long here =
    let none : m - 0 ≡ m = omega arith in
    let at : m ≡ 16 * (m / 16) = omega arith in
    let count : length (take m input) / 16 ≡ m / 16 = rw length-take (omega arith) in
    take_at new (drop (m - 0) out) m long ∙ here ∙ ap (λ (k : ℕ). each_of 16 f (length (take k input) / 16) (take k input)) none
    ∙ ap₂ (λ (n k : ℕ). each_of 16 f n (take k input)) count at ∙ each_take 16 f (m / 16) input
