-- Who writes the first line, the text of each byte fed, and the closing text, has written what document 01 answers to the whole input.
use mathlib.Core.Path.{◌≡◌, refl, sym, ap, ap₂, ◌∙◌}
use mathlib.Core.Bool.{Bool, true, false, cond}
use mathlib.Core.List.{List, [], ◌∷◌, ◌++◌, append_assoc, append-nil}
use Prim.Native.Nat.{ℕ, suc, ◌+◌, ◌^◌, ◌≤◌, ◌<◌, min}
use native.Mathlib.Nat.{add-zero, zero-add}
use native.Mathlib.Numerals.{add-one}
use native.Mathlib.Omega.{arith}
use lib.Dec.{leb, ltb, eqb, eqb-suc-zero}
use lib.ListN.{length, take, set, length-take, length-set, length-append}
use lib.Seq.{take_all, take-append-le, take-suc-set}
use borrow.Author.Tests.{leb-true, leb-false, ltb-true, ltb-false, eq-eqb, ne_eqb, lt-ltb}
use Rattle.bits.proofs.Computed.{cond-true, cond-false}
use Rattle.text.specs.Written.{written, shown}
use Rattle.text.proofs.Texts.{written-fits, shown-written}
use Rattle.line_answers.specs.Line.{is_good, bad_line, answer_of}
use Rattle.lines.specs.declared.Reader.{Reader}
use Rattle.lines.specs.Input.{lines_from, answer_line, answers, first_line, done_line, output_of}
use Rattle.lines.specs.Session.{fresh_reader, next_line, held, kept, ended, fed_by, closing_of, written_from, written_of}
use Rattle.lines.proofs.Lengths.{answer_line_length, closing-length}

-- a line of another length than 67 is bad, and so a line cut at 68 bytes is answered as the whole line
other_length : (n : ℕ) (line : List ℕ) → (length line ≡ 67 → ⊥) → answer_of n line ≡ bad_line n
unfolding answer_of is_good
other_length n line h = rw (ne_eqb (length line) 67 h)

pub answer-cut : (n : ℕ) (line : List ℕ) → answer_of n (take 68 line) ≡ answer_of n line
answer-cut n line = go (leb (length line) 68) refl
  where
    go : (t : Bool) → leb (length line) 68 ≡ t → answer_of n (take 68 line) ≡ answer_of n line
    go true p = ap (answer_of n) (take_all 68 line (leb-true (length line) 68 p))
    go false p =
        let long : 68 < length line = leb-false (length line) 68 p in
        other_length n (take 68 line) (λ e. omega (arith, length-take 68 line)) ∙ sym (other_length n line (λ e. omega arith))

-- what a reader knows of the line that has begun, after n lines
record Holds (r : Reader) (begun : List ℕ) (n : ℕ) : Type 0 where
  room : length r.line ≡ 68
  count : r.count ≡ min (length begun) 68
  bytes : take r.count r.line ≡ take 68 begun
  lines : r.lines ≡ n

fresh_holds : Holds fresh_reader [] 0
unfolding fresh_reader
fresh_holds = record { room = refl; count = refl; bytes = refl; lines = refl }

next_is : (n : ℕ) → suc n < 2 ^ 64 → next_line n ≡ suc n
unfolding next_line
next_is n h = rw (lt-ltb n 18446744073709551615 (omega arith), add-one n)

module _ (r : Reader) (begun : List ℕ) (n : ℕ) (holds : Holds r begun n) where
  ended-holds : suc n < 2 ^ 64 → Holds (ended r) [] (suc n)
  unfolding ended
  ended-holds h = record { room = holds.room; count = refl; bytes = refl; lines = ap next_line holds.lines ∙ next_is n h }

  kept_holds : (b : ℕ) → Holds (kept r b) (begun ++ (b ∷ [])) n
  unfolding kept
  kept_holds b = go (ltb r.count 68) refl
    where
      go : (t : Bool) → ltb r.count 68 ≡ t → Holds (cond t (record { line = set r.line r.count b; count = r.count + 1; lines = r.lines }) r) (begun ++ (b ∷ [])) n
      go true p =
          let short : r.count < 68 = ltb-true r.count 68 p in
          let count : r.count ≡ length begun = omega (arith, holds.count) in
          let longer : length (begun ++ (b ∷ [])) ≡ length begun + 1 = length-append begun (b ∷ []) in
          record {
            room = length-set r.line r.count b ∙ holds.room;
            count = omega arith;
            bytes =
                rw (add-one r.count)
                (take-suc-set r.line r.count b (omega (arith, holds.room))
                ∙ ap (λ (l : List ℕ). l ++ (b ∷ [])) (holds.bytes ∙ take_all 68 begun (omega arith))
                ∙ sym (take_all 68 (begun ++ (b ∷ [])) (omega arith)));
            lines = holds.lines;
          }
      go false p =
          let full : 68 ≤ r.count = ltb-false r.count 68 p in
          record {
            room = holds.room;
            count = omega (arith, holds.count, length-append begun (b ∷ []));
            bytes = holds.bytes ∙ sym (take-append-le 68 begun (b ∷ []) (omega (arith, holds.count)));
            lines = holds.lines;
          }

  answered : suc n < 2 ^ 64 → answer_line (next_line r.lines) (held r) ≡ answer_line (suc n) begun
  unfolding answer_line held
  answered h =
      ap (λ (l : List ℕ). l ++ (10 ∷ []))
      (ap₂ answer_of (ap next_line holds.lines ∙ next_is n h) holds.bytes ∙ answer-cut (suc n) begun)

-- the lines of an input, and what is fed, by the byte that comes
line_ends : (b : ℕ) (begun : List ℕ) → lines_from (b ∷ begun) [] ≡ (b ∷ begun) ∷ []
unfolding lines_from
line_ends b begun = ap (λ (t : Bool). cond t [] ((b ∷ begun) ∷ [])) (eqb-suc-zero (length begun))

module _ (begun : List ℕ) (b : ℕ) (bs : List ℕ) where
  at_newline : eqb b 10 ≡ true → lines_from begun (b ∷ bs) ≡ begun ∷ lines_from [] bs
  unfolding lines_from
  at_newline = cond-true (eqb b 10) _ _

  at_other : eqb b 10 ≡ false → lines_from begun (b ∷ bs) ≡ lines_from (begun ++ (b ∷ [])) bs
  unfolding lines_from
  at_other = cond-false (eqb b 10) _ _

module _ (r : Reader) (b : ℕ) where
  fed_newline : eqb b 10 ≡ true → fed_by r b ≡ record { reader = ended r; text = written (answer_line (next_line r.lines) (held r)) }
  unfolding fed_by
  fed_newline = cond-true (eqb b 10) _ _

  fed_other : eqb b 10 ≡ false → fed_by r b ≡ record { reader = kept r b; text = written [] }
  unfolding fed_by
  fed_other = cond-false (eqb b 10) _ _

  -- what comes of a byte fits into a text
  pub fed-fits : (fed_by r b).text.count ≤ 64
  fed-fits = go (eqb b 10) refl
    where
      go : (t : Bool) → eqb b 10 ≡ t → (fed_by r b).text.count ≤ 64
      go true p = rw (fed_newline p) (written-fits (answer_line (next_line r.lines) (held r)))
      go false p = rw (fed_other p) (written-fits [])

-- the answers to the lines of what is left, and the closing line
abbrev rest : List ℕ → List ℕ → ℕ → List ℕ
rest begun bs n = answers (suc n) (lines_from begun bs) ++ done_line (n + length (lines_from begun bs))

closed : (begun : List ℕ) (r : Reader) (n : ℕ) → Holds r begun n → n + length begun < 2 ^ 64 → closing_of r ≡ rest begun [] n
unfolding closing_of answers
closed [] r n holds h = unfold lines_from in rw (eq-eqb r.count 0 holds.count, holds.lines, add-zero n)
closed (b ∷ begun) r n holds h =
    let h' : suc n < 2 ^ 64 = omega arith in
    rw (ne_eqb r.count 0 (λ e. omega (arith, holds.count)), answered r (b ∷ begun) n holds h', holds.lines, next_is n h', line_ends b begun, append-nil, add-one n)

from : (bs : List ℕ) (r : Reader) (begun : List ℕ) (n : ℕ) → Holds r begun n → n + length begun + length bs < 2 ^ 64 → written_from r bs ≡ rest begun bs n
unfolding written_from written answers
from [] r begun n holds h =
    shown-written (closing_of r) (omega (arith, closing-length r (rw holds.lines (omega arith)))) ∙ closed begun r n holds (omega arith)
from (b ∷ bs) r begun n holds h = go (from bs) (eqb b 10) refl
  where
    go :
        ((r : Reader) (begun : List ℕ) (n : ℕ) → Holds r begun n → n + length begun + length bs < 2 ^ 64 → written_from r bs ≡ rest begun bs n)
        → (t : Bool) → eqb b 10 ≡ t → shown (fed_by r b).text ++ written_from (fed_by r b).reader bs ≡ rest begun (b ∷ bs) n
    go more true p =
        let line : List ℕ = answer_line (next_line r.lines) (held r) in
        let h' : suc n < 2 ^ 64 = omega arith in
        let is : line ≡ answer_line (suc n) begun = answered r begun n holds h' in
        let count : suc n + length (lines_from [] bs) ≡ n + suc (length (lines_from [] bs)) = omega arith in
        rw (fed_newline r b p, at_newline begun b bs p)
        (ap₂ ◌++◌ (shown-written line (rw is (omega (arith, answer_line_length (suc n) begun h'))) ∙ is) (more (ended r) [] (suc n) (ended-holds r begun n holds h') (omega arith))
        ∙ sym (append_assoc (answer_line (suc n) begun) (answers (suc (suc n)) (lines_from [] bs)) (done_line (suc n + length (lines_from [] bs))))
        ∙ ap (λ (m : ℕ). answers (suc n) (begun ∷ lines_from [] bs) ++ done_line m) count)
    go more false p =
        rw (fed_other r b p, at_other begun b bs p)
        (more (kept r b) (begun ++ (b ∷ [])) n (kept_holds r begun n holds b) (omega (arith, length-append begun (b ∷ []))))

pub whole : (input : List ℕ) → length input < 2 ^ 64 → written_of input ≡ output_of input
unfolding written_of output_of written
whole input h = ap (λ (l : List ℕ). first_line ++ l) (from input fresh_reader [] 0 fresh_holds (omega arith) ∙ ap (λ (m : ℕ). answers 1 (lines_from [] input) ++ done_line m) (zero-add (length (lines_from [] input))))
