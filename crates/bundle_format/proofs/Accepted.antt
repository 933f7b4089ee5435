-- What a reader's 0 says, part by part, and that these parts are all.
use mathlib.Core.Path.{◌≡◌, refl, ap, ◌∙◌}
use mathlib.Core.Bool.{Bool, true, ◌&&◌}
use mathlib.Core.List.{List}
use Prim.Native.Nat.{ℕ, ◌≤◌}
use lib.Dec.{eqb, leb}
use lib.ListN.{length, take, drop}
use borrow.Author.Tests.{eq-eqb, eqb-true, le-leb, leb-true}
use Rattle.answers.specs.Numbers.{BAD_KEY_LENGTH, BAD_BUNDLE_LENGTH, BAD_TAG, MALFORMED, MUST_KNOW, DONE}
use Rattle.answers.specs.Order.{unless}
use Rattle.answers.proofs.Passed.{passed}
use Rattle.bits.proofs.Truth.{both, together}
use Rattle.cmac.specs.Calls.{same}
use Rattle.cmac.proofs.Strings.{same_refl, same_only}
use Rattle.bundle_format.specs.Format.{first_body, tag_of}
use Rattle.bundle_format.specs.Reader.{edition_of, count_of, stated_of, end_of, rows_of, right_size, sound_rows, well_formed, all_known, read_code}

pub record Sized (b : List ℕ) : Type 0 where
  pub least : 24 ≤ length b
  pub most : length b ≤ 65536
  pub stated : stated_of b ≡ length b

pub record Formed (reader : ℕ) (b : List ℕ) : Type 0 where
  pub edition : 1 ≤ edition_of b
  pub count : count_of b ≤ 256
  pub table : first_body (count_of b) ≤ end_of b
  pub rows : sound_rows reader b 0 (first_body (count_of b)) (rows_of b) ≡ true

-- all refusals passed but the last, 23
pub record Whole (reader : ℕ) (key b : List ℕ) : Type 0 where
  pub keyed : length key ≡ 16
  pub size : Sized b
  pub tag : drop (end_of b) b ≡ tag_of key (take (end_of b) b)
  pub formed : Formed reader b

pub size_only : (b : List ℕ) → right_size b ≡ true → Sized b
unfolding right_size
size_only b e =
    let p = both (leb 24 (length b) && leb (length b) 65536) (eqb (stated_of b) (length b)) e in
    let q = both (leb 24 (length b)) (leb (length b) 65536) p.0 in
    record { least = leb-true 24 (length b) q.0; most = leb-true (length b) 65536 q.1; stated = eqb-true (stated_of b) (length b) p.1 }

pub size_if : (b : List ℕ) → Sized b → right_size b ≡ true
unfolding right_size
size_if b s =
    together (leb 24 (length b) && leb (length b) 65536) (eqb (stated_of b) (length b))
    (together (leb 24 (length b)) (leb (length b) 65536) (le-leb 24 (length b) s.least) (le-leb (length b) 65536 s.most))
    (eq-eqb (stated_of b) (length b) s.stated)

pub formed_only : (reader : ℕ) (b : List ℕ) → well_formed reader b ≡ true → Formed reader b
unfolding well_formed
formed_only reader b e =
    let t1 : Bool = leb 1 (edition_of b) in
    let t2 : Bool = leb (count_of b) 256 in
    let t3 : Bool = leb (first_body (count_of b)) (end_of b) in
    let t4 : Bool = sound_rows reader b 0 (first_body (count_of b)) (rows_of b) in
    let p = both (t1 && t2 && t3) t4 e in
    let q = both (t1 && t2) t3 p.0 in
    let s = both t1 t2 q.0 in
    record { edition = leb-true 1 (edition_of b) s.0; count = leb-true (count_of b) 256 s.1; table = leb-true (first_body (count_of b)) (end_of b) q.1; rows = p.1 }

pub formed_if : (reader : ℕ) (b : List ℕ) → Formed reader b → well_formed reader b ≡ true
unfolding well_formed
formed_if reader b f =
    let t1 : Bool = leb 1 (edition_of b) in
    let t2 : Bool = leb (count_of b) 256 in
    let t3 : Bool = leb (first_body (count_of b)) (end_of b) in
    let t4 : Bool = sound_rows reader b 0 (first_body (count_of b)) (rows_of b) in
    together (t1 && t2 && t3) t4 (together (t1 && t2) t3 (together t1 t2 (le-leb 1 (edition_of b) f.edition) (le-leb (count_of b) 256 f.count)) (le-leb (first_body (count_of b)) (end_of b) f.table)) f.rows

module _ (reader : ℕ) (key b : List ℕ) where
  pub whole_code : Whole reader key b → read_code reader key b ≡ unless (all_known reader (rows_of b)) MUST_KNOW DONE
  unfolding read_code
  whole_code w =
      rw (eq-eqb (length key) 16 w.keyed, size_if b w.size, tag_same, formed_if reader b w.formed)
    where
      tag_same : same (drop (end_of b) b) (tag_of key (take (end_of b) b)) ≡ true
      tag_same = ap (λ (x : List ℕ). same x (tag_of key (take (end_of b) b))) w.tag ∙ same_refl (tag_of key (take (end_of b) b))

  pub accepts : read_code reader key b ≡ 0 → Whole reader key b × (all_known reader (rows_of b) ≡ true)
  unfolding read_code
  accepts e =
      let t1 : Bool = eqb (length key) 16 in
      let t2 : Bool = right_size b in
      let t3 : Bool = same (drop (end_of b) b) (tag_of key (take (end_of b) b)) in
      let t4 : Bool = well_formed reader b in
      let t5 : Bool = all_known reader (rows_of b) in
      let p1 = passed t1 BAD_KEY_LENGTH (unless t2 BAD_BUNDLE_LENGTH (unless t3 BAD_TAG (unless t4 MALFORMED (unless t5 MUST_KNOW DONE)))) refl e in
      let p2 = passed t2 BAD_BUNDLE_LENGTH (unless t3 BAD_TAG (unless t4 MALFORMED (unless t5 MUST_KNOW DONE))) refl p1.1 in
      let p3 = passed t3 BAD_TAG (unless t4 MALFORMED (unless t5 MUST_KNOW DONE)) refl p2.1 in
      let p4 = passed t4 MALFORMED (unless t5 MUST_KNOW DONE) refl p3.1 in
      let p5 = passed t5 MUST_KNOW DONE refl p4.1 in (
        record {
          keyed = eqb-true (length key) 16 p1.0;
          size = size_only b p2.0;
          tag = same_only (drop (end_of b) b) (tag_of key (take (end_of b) b)) p3.0;
          formed = formed_only reader b p4.0;
        },
        p5.0,
      )

  pub accepted : Whole reader key b → all_known reader (rows_of b) ≡ true → read_code reader key b ≡ 0
  accepted w known = whole_code w ∙ ap (λ (t : Bool). unless t MUST_KNOW DONE) known
