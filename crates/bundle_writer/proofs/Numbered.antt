-- The writer's number, test by test.
use mathlib.Core.Path.{◌≡◌, refl, sym, ap, ◌∙◌}
use mathlib.Core.Bool.{Bool, true, false, ◌&&◌, and-true, and-false}
use mathlib.Core.List.{List}
use Prim.Native.Nat.{ℕ, ◌+◌, ◌*◌, ◌/◌, ◌%◌, ◌<◌, ◌≤◌}
use native.Mathlib.Omega.{arith}
use lib.Dec.{eqb, leb}
use lib.ListN.{length}
use borrow.Author.Tests.{eq-eqb, eqb-true, ne_eqb, le-leb, leb-true, lt-leb}
use Rattle.answers.specs.Numbers.{DONE, BAD_KEY_LENGTH, BAD_LIST, SHORT_OUTPUT}
use Rattle.answers.specs.Order.{unless}
use Rattle.answers.proofs.Passed.{passed}
use Rattle.bits.proofs.Truth.{both}
use Rattle.bundle_format.specs.Format.{good_from, total_of, good_list}
use Rattle.bundle_format.specs.Writer.{list_from, list_of, sizes, good_rows, write_code}
use Rattle.bundle_format.proofs.Encoded.{Listed, listed_only}
use Rattle.bundle_writer.proofs.Lent.{length-list, total_all}

module _ (edition : ℕ) (rows pool : List ℕ) (n : ℕ) (is : n ≡ length rows / 4) where
  list : length (list_of rows pool) ≡ n
  list = length-list (length rows / 4) rows pool ∙ sym is

  module _ (whole : length rows % 4 ≡ 0) where
    -- what is left of the tests once the rows are whole
    then : good_rows edition rows pool ≡ (eqb (sizes (length rows / 4) rows) (length pool) && good_list edition (list_of rows pool))
    unfolding good_rows
    then = rw (eq-eqb (length rows % 4) 0 whole)

    pub too_many : 256 < n → good_rows edition rows pool ≡ false
    unfolding good_list
    too_many h = then ∙ rw (list, lt-leb n 256 h) (and-false (eqb (sizes (length rows / 4) rows) (length pool)))

    pub other_size : (s : ℕ) → s ≡ sizes n rows → (s ≡ length pool → ⊥) → good_rows edition rows pool ≡ false
    other_size s e ne = then ∙ rw (ne_eqb (sizes (length rows / 4) rows) (length pool) (λ h. ne (e ∙ ap (λ (k : ℕ). sizes k rows) is ∙ h)))

    module _ (few : n ≤ 256) (all : sizes n rows ≡ length pool) where
      same : sizes (length rows / 4) rows ≡ length pool
      same = ap (λ (k : ℕ). sizes k rows) (sym is) ∙ all

      total : total_of (list_of rows pool) ≡ 8 + 12 * n + length pool + 16
      total = total_all (length rows / 4) rows pool same ∙ ap (λ (k : ℕ). 8 + 12 * k + length pool + 16) (sym is)

      pub too_long : 65536 < 8 + 12 * n + length pool + 16 → good_rows edition rows pool ≡ false
      unfolding good_list
      too_long h =
          then
          ∙ rw (eq-eqb (sizes (length rows / 4) rows) (length pool) same, lt-leb (total_of (list_of rows pool)) 65536 (rw total h))
          (and-false (leb (length (list_of rows pool)) 256 && good_from edition 0 (list_of rows pool)))

      pub settings_left : 8 + 12 * n + length pool + 16 ≤ 65536 → good_rows edition rows pool ≡ good_from edition 0 (list_from n rows pool)
      unfolding good_list
      settings_left h =
          then
          ∙ rw (eq-eqb (sizes (length rows / 4) rows) (length pool) same, le-leb (total_of (list_of rows pool)) 65536 (rw total h), list, le-leb n 256 few)
          (and-true (good_from edition 0 (list_of rows pool)) ∙ ap (λ (k : ℕ). good_from edition 0 (list_from k rows pool)) (sym is))

-- what good rows are
pub record Rows (edition : ℕ) (rows pool : List ℕ) : Type 0 where
  pub whole : length rows % 4 ≡ 0
  pub few : length rows / 4 ≤ 256
  pub all : sizes (length rows / 4) rows ≡ length pool
  pub total : total_of (list_of rows pool) ≡ 8 + 12 * (length rows / 4) + length pool + 16
  pub small : 8 + 12 * (length rows / 4) + length pool + 16 ≤ 65536

pub good-rows : (edition : ℕ) (rows pool : List ℕ) → good_rows edition rows pool ≡ true → Rows edition rows pool
unfolding good_rows
good-rows edition rows pool e =
    let p = both (eqb (length rows % 4) 0 && eqb (sizes (length rows / 4) rows) (length pool)) (good_list edition (list_of rows pool)) e in
    let q = both (eqb (length rows % 4) 0) (eqb (sizes (length rows / 4) rows) (length pool)) p.0 in
    let l : Listed edition (list_of rows pool) = listed_only edition (list_of rows pool) p.1 in
    let all : sizes (length rows / 4) rows ≡ length pool = eqb-true (sizes (length rows / 4) rows) (length pool) q.1 in
    let total : total_of (list_of rows pool) ≡ 8 + 12 * (length rows / 4) + length pool + 16 = total_all (length rows / 4) rows pool all in
    let few : length (list_of rows pool) ≤ 256 = l.few in
    let small : total_of (list_of rows pool) ≤ 65536 = l.small in
    record {
      whole = eqb-true (length rows % 4) 0 q.0;
      few = omega (arith, length-list (length rows / 4) rows pool);
      all = all;
      total = total;
      small = omega arith;
    }

-- a number that is 0
pub record Passed (edition : ℕ) (key rows pool : List ℕ) (space : ℕ) : Type 0 where
  pub keyed : length key ≡ 16
  pub good : good_rows edition rows pool ≡ true
  pub fits : total_of (list_of rows pool) ≤ space

pub write_passed : (edition : ℕ) (key rows pool : List ℕ) (room : ℕ) → write_code edition key rows pool room ≡ 0 → Passed edition key rows pool room
unfolding write_code
write_passed edition key rows pool room e =
    let t1 : Bool = eqb (length key) 16 in
    let t2 : Bool = good_rows edition rows pool in
    let t3 : Bool = leb (total_of (list_of rows pool)) room in
    let p1 = passed t1 BAD_KEY_LENGTH (unless t2 BAD_LIST (unless t3 SHORT_OUTPUT DONE)) refl e in
    let p2 = passed t2 BAD_LIST (unless t3 SHORT_OUTPUT DONE) refl p1.1 in
    let p3 = passed t3 SHORT_OUTPUT DONE refl p2.1 in
    record { keyed = eqb-true (length key) 16 p1.0; good = p2.0; fits = leb-true (total_of (list_of rows pool)) room p3.0 }
