-- Who writes the pieces one after the other, each from a buffer that is long enough, has written what is printed of the two bundles.
use mathlib.Core.Path.{◌≡◌, refl, sym, ap, ap₂, ◌∙◌}
use mathlib.Core.Bool.{Bool, true, false, cond, ◌&&◌}
use mathlib.Core.List.{List, [], ◌∷◌, ◌++◌, append_assoc, append-nil}
use Prim.Native.Nat.{ℕ, suc, ◌+◌, ◌*◌, ◌^◌, ◌<◌, ◌≤◌}
use native.Mathlib.Omega.{arith}
use lib.Dec.{eqb, ltb}
use lib.ListN.{length, take, drop, get_or, length-append}
use lib.Seq.{take_all, drop-drop, get_or-drop}
use borrow.Author.Tests.{eq-eqb, eqb-true, eqb-false, le-leb, lt-ltb, le-ltb}
use Rattle.answers.specs.Order.{unless}
use Rattle.answers.proofs.Outcome.{if_done_lem}
use Rattle.text.specs.Decimal.{decimal_of}
use Rattle.text.proofs.Lengths.{number-length}
use native.Mathlib.Nat.{zero-add}
use lib.Dec.{lit<}
use Rattle.published.specs.Bytes.{Bytes}
use Rattle.cmac.specs.Calls.{same}
use Rattle.bundle_format.specs.Format.{tag_of}
use Rattle.bundle_format.specs.Reader.{end_of, rows_of, right_size, well_formed, all_known, read_code, meant}
use Rattle.differ.specs.Difference.{Line, listed, numbers, numbers_of, compare_code, Compares}
use Rattle.differ.specs.Promises.{In, here, there}
use Rattle.differ.specs.declared.Compared.{Compared}
use Rattle.differ.proofs.Theorems.{at_most, refused_first, refused-second}
use Rattle.differ_text.specs.Rendered.{line_text, lines_text, closing_line, refusal_line, refusal_lines, first_words, second_words, output_of}
use Rattle.differ_text.specs.Pieces.{told_at, line_at, piece_of, written_from}
use Rattle.differ_text.proofs.Accepted.{line_short}

-- ---- rows that hold the numbers of lines

-- what a row's numbers mean does not depend on where the line came from
line_back : (b c rows rest : List ℕ) (p : ℕ) (l : Line) → drop p rows ≡ numbers l ++ rest → line_text b c (line_at rows p) ≡ line_text b c l
unfolding line_text line_at told_at numbers meant
line_back b c rows rest p l e = λ i. line_text b c (record { id = at 0 zero_added i; one = record { state = at 1 refl i; id = 0; kind = at 2 (two 1) i; at = at 3 (two 2) i; len = at 4 (two 3) i }; two = record { state = at 5 refl i; id = 0; kind = at 6 (six 1) i; at = at 7 (six 2) i; len = at 8 (six 3) i } })
  where
    at : (j : ℕ) {m : ℕ} → m ≡ p + j → get_or rows m 0 ≡ get_or (numbers l ++ rest) j 0
    at j {m} f = ap (λ (n : ℕ). get_or rows n 0) f ∙ sym (get_or-drop p rows j 0) ∙ ap (λ (t : List ℕ). get_or t j 0) e

    zero_added : p ≡ p + 0
    zero_added = omega arith

    two : (j : ℕ) → p + 1 + j ≡ p + suc j
    two j = omega arith

    six : (j : ℕ) → p + 5 + j ≡ p + (5 + j)
    six j = omega arith

row_next : (rows rest : List ℕ) (k : ℕ) (l : Line) (ls : List Line) → drop (9 * k) rows ≡ numbers_of (l ∷ ls) ++ rest → drop (9 * (k + 1)) rows ≡ numbers_of ls ++ rest
unfolding numbers_of numbers
row_next rows rest k l ls e = ap (λ (n : ℕ). drop n rows) nine ∙ sym (drop-drop 9 (9 * k) rows) ∙ ap (drop 9) e
  where
    nine : 9 * (k + 1) ≡ 9 * k + 9
    nine = omega arith

row_first : (rows rest : List ℕ) (k : ℕ) (l : Line) (ls : List Line) → drop (9 * k) rows ≡ numbers_of (l ∷ ls) ++ rest → drop (9 * k) rows ≡ numbers l ++ (numbers_of ls ++ rest)
unfolding numbers_of
row_first rows rest k l ls e = e ∙ append_assoc (numbers l) (numbers_of ls) rest

closing_short : (n : ℕ) → n ≤ 512 → length (closing_line n) ≤ 2080
unfolding closing_line
closing_short n h = omega (arith, length-append (decimal_of n) (10 ∷ []), number-length n (omega arith))

module _ (a : Compared) (rows b c : List ℕ) (few : a.count ≤ 512) where
  piece_line : (k : ℕ) → a.first ≡ 0 → a.second ≡ 0 → k < a.count → piece_of a rows b c k ≡ line_text b c (line_at rows (9 * k))
  unfolding piece_of
  piece_line k e f h = rw (eq-eqb a.first 0 e, eq-eqb a.second 0 f, lt-ltb k a.count h)

  piece-last : (k : ℕ) → a.first ≡ 0 → a.second ≡ 0 → a.count ≤ k → piece_of a rows b c k ≡ closing_line a.count
  unfolding piece_of
  piece-last k e f h = rw (eq-eqb a.first 0 e, eq-eqb a.second 0 f, le-ltb k a.count h)

  -- the lines that are left, and the last
  from : (ls : List Line) (k : ℕ) (rest : List ℕ) → a.first ≡ 0 → a.second ≡ 0 → k + length ls ≡ a.count → drop (9 * k) rows ≡ numbers_of ls ++ rest
      → ((l : Line) → In l ls → length (line_text b c l) ≤ 2080) → written_from (suc (length ls)) k a rows b c ≡ lines_text b c ls ++ closing_line a.count
  unfolding written_from lines_text
  from [] k rest e f g h short =
      append-nil (take 2080 (piece_of a rows b c k)) ∙ ap (take 2080) (piece-last k e f (omega arith)) ∙ take_all 2080 (closing_line a.count) (closing_short a.count few)
  from (l ∷ ls) k rest e f g h short =
      ap₂ ◌++◌
      (ap (take 2080) (piece_line k e f (omega arith) ∙ line_back b c rows (numbers_of ls ++ rest) (9 * k) l (row_first rows rest k l ls h)) ∙ take_all 2080 (line_text b c l) (short l here))
      (from ls (k + 1) rest e f (omega arith) (row_next rows rest k l ls h) (λ m i. short m (there i)))
      ∙ sym (append_assoc (line_text b c l) (lines_text b c ls) (closing_line a.count))

refusal_short : (words : List ℕ) (n : ℕ) → length words ≤ 23 → n < 2 ^ 64 → length (refusal_line words n) ≤ 44
unfolding refusal_line
refusal_short words n h small = go (eqb n 0)
  where
    go : (t : Bool) → length (cond t [] (words ++ decimal_of n ++ (10 ∷ []))) ≤ 44
    go true = let l : 0 ≤ 44 = omega arith in l
    go false = let l : length (words ++ decimal_of n ++ (10 ∷ [])) ≤ 44 = simp length-append (omega (arith, number-length n small)) in l

refusals_short : (f s : ℕ) → f < 2 ^ 64 → s < 2 ^ 64 → length (refusal_lines f s) ≤ 2080
unfolding refusal_lines
refusals_short f s h k =
    omega (arith, length-append (refusal_line first_words f) (refusal_line second_words s), refusal_short first_words f (omega arith) h, refusal_short second_words s (omega arith) k)

-- numbers of a reader are small
code-small : (key b : List ℕ) → read_code 2 key b < 2 ^ 64
unfolding read_code
code-small key b = go (eqb (length key) 16) (right_size b) (same (drop (end_of b) b) (tag_of key (take (end_of b) b))) (well_formed 2 b) (all_known 2 (rows_of b))
  where
    go : (t u v w x : Bool) → unless t 1 (unless u 20 (unless v 21 (unless w 22 (unless x 23 0)))) < 2 ^ 64
    go false u v w x = lit< tt
    go true false v w x = lit< tt
    go true true false w x = lit< tt
    go true true true false x = lit< tt
    go true true true true false = lit< tt
    go true true true true true = lit< tt

one_piece : (a : Compared) (rows b c : List ℕ) → written_from 1 0 a rows b c ≡ take 2080 (piece_of a rows b c 0)
unfolding written_from
one_piece a rows b c = append-nil (take 2080 (piece_of a rows b c 0))

refusal_piece : (a : Compared) (rows b c : List ℕ) → eqb a.first 0 && eqb a.second 0 ≡ false → piece_of a rows b c 0 ≡ refusal_lines a.first a.second
unfolding piece_of
refusal_piece a rows b c e = ap (λ (t : Bool). cond t (cond (ltb 0 a.count) (line_text b c (line_at rows (9 * 0))) (closing_line a.count)) (refusal_lines a.first a.second)) e

code-zero : (key b c rows : List ℕ) → eqb (read_code 2 key b) 0 ≡ true → eqb (read_code 2 key c) 0 ≡ true → 9 * length (listed key b c) ≤ length rows → compare_code key b c (length rows) ≡ 0
unfolding compare_code
code-zero key b c rows x y h = rw (x, y, le-leb (9 * length (listed key b c)) (length rows) h)

-- all that is written is what is printed of the two bundles
pub whole : (key b c rows : List ℕ) (a : Compared) (e : List ℕ) → Bytes b → Bytes c → 4608 ≤ length rows → Compares key b c rows a.code a.first a.second a.count e
    → written_from (suc a.count) 0 a e b c ≡ output_of key b c
unfolding output_of
whole key b c rows a e bytes bytes' room compares = go (eqb (read_code 2 key b) 0) refl (eqb (read_code 2 key c) 0) refl
  where
    refused-piece : eqb (read_code 2 key b) 0 && eqb (read_code 2 key c) 0 ≡ false → a.count ≡ 0 → written_from (suc a.count) 0 a e b c ≡ refusal_lines (read_code 2 key b) (read_code 2 key c)
    refused-piece no_both none =
        ap (λ (n : ℕ). written_from (suc n) 0 a e b c) none
        ∙ one_piece a e b c
        ∙ ap (take 2080) (refusal_piece a e b c (ap₂ (λ (x y : ℕ). eqb x 0 && eqb y 0) compares.first compares.second ∙ no_both) ∙ ap₂ refusal_lines compares.first compares.second)
        ∙ take_all 2080 (refusal_lines (read_code 2 key b) (read_code 2 key c)) (refusals_short (read_code 2 key b) (read_code 2 key c) (code-small key b) (code-small key c))

    accepted : eqb (read_code 2 key b) 0 ≡ true → eqb (read_code 2 key c) 0 ≡ true → compare_code key b c (length rows) ≡ 0
    accepted x y = code-zero key b c rows x y (omega (arith, at_most key b c))

    go : (t : Bool) → eqb (read_code 2 key b) 0 ≡ t → (u : Bool) → eqb (read_code 2 key c) 0 ≡ u
        → written_from (suc a.count) 0 a e b c ≡ cond (t && u) (lines_text b c (listed key b c) ++ closing_line (length (listed key b c))) (refusal_lines (read_code 2 key b) (read_code 2 key c))
    go true x true y =
        let f : read_code 2 key b ≡ 0 = eqb-true (read_code 2 key b) 0 x in
        let g : read_code 2 key c ≡ 0 = eqb-true (read_code 2 key c) 0 y in
        ap (λ (n : ℕ). written_from (suc n) 0 a e b c) compares.counts
        ∙ from a e b c (omega (arith, compares.counts, at_most key b c)) (listed key b c) 0 (drop (9 * length (listed key b c)) rows) (compares.first ∙ f) (compares.second ∙ g) (zero-add (length (listed key b c)) ∙ sym compares.counts) (compares.leaves ∙ if_done_lem (compare_code key b c (length rows)) _ rows (accepted x y)) (λ l i. line_short key b c l bytes bytes' f g i)
        ∙ ap (λ (n : ℕ). lines_text b c (listed key b c) ++ closing_line n) compares.counts
    go true x false y = refused-piece (ap₂ ◌&&◌ x y) (compares.counts ∙ ap length (refused-second key b c (eqb-false (read_code 2 key c) 0 y)))
    go false x u y = refused-piece (ap (λ (t : Bool). t && eqb (read_code 2 key c) 0) x) (compares.counts ∙ ap length (refused_first key b c (eqb-false (read_code 2 key b) 0 x)))
