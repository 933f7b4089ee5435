-- What one entry does to an answer over the table, the tag, and what looking through a bundle gives.
use mathlib.Core.Path.{◌≡◌, refl, sym, ap, ap₂, ◌∙◌}
use mathlib.Core.Bool.{Bool, true, false, cond, ◌&&◌}
use mathlib.Core.Logic.{◌≢◌}
use mathlib.Core.List.{List, [], ◌∷◌}
use Prim.Native.Nat.{ℕ, zero, suc, ◌+◌, ◌-◌, ◌*◌, ◌<◌, ◌≤◌}
use native.Mathlib.Nat.{not-suc-le-zero, le_of_suc-le-suc}
use native.Mathlib.Omega.{arith}
use lib.Dec.{eqb, leb}
use lib.ListN.{length, take, drop, get_or, length-drop}
use Rattle.std.specs.Prelude.{map}
use lib.Seq.{drop-drop}
use borrow.Author.Tests.{eq-eqb, ne_eqb, leb-true}
use Rattle.answers.specs.Refusals.{number_of}
use Rattle.answers.specs.declared.Refusal.{Refusal}
use Rattle.answers.specs.declared.Refusal.TheVariants.{BadKeyLength, BadBlockLength, BadOutputLength, BadWordCount, BadLane, LaneNotIdle, LaneNotFinished, TooManyTurns, BadDirection, BadBench, BadState, NotTheOwner, TooFewCounters, BadOrder, BadBundleLength, BadTag, Malformed, MustKnow, BadList, ShortOutput}
use Rattle.answers.proofs.Outcome.{if_done_lem}
use Rattle.bits.proofs.Truth.{both}
use Rattle.published.specs.Calls.{block_code, key_code}
use Rattle.published.specs.Gift128.{encrypted}
use Rattle.cmac_parts.specs.Standard.{cmac}
use Rattle.cmac.specs.Calls.{same, Checks}
use Rattle.bundle_format.specs.Format.{first_body, tag_of}
use Rattle.bundle_format.specs.Reader.{count_of, end_of, row_of, rows_from, right_size, read_code, opened, answers_for, ABSENT, bare, tell, tell_in, tell_at}
use Rattle.bundle_format.specs.declared.Row.{Row}
use Rattle.bundle_format.specs.declared.Opened.{Opened}
use Rattle.bundle_format.proofs.Accepted.{Whole, accepts}
use Rattle.bundle_judge.specs.Inner.{judged_code}

module _ (reader : ℕ) (r : Row) (rs : List Row) where
  pub tell_here : (id : ℕ) → r.id ≡ id → tell_in reader id (r ∷ rs) ≡ tell reader r
  unfolding tell_in
  tell_here id e = ap (λ (t : Bool). cond t (tell reader r) (tell_in reader id rs)) (eq-eqb r.id id e)

  pub tell_more : (id : ℕ) → r.id ≢ id → tell_in reader id (r ∷ rs) ≡ tell_in reader id rs
  unfolding tell_in
  tell_more id ne = ap (λ (t : Bool). cond t (tell reader r) (tell_in reader id rs)) (ne_eqb r.id id ne)

-- past the last entry, and the entry at a place, cut out or in the bytes of a table
pub told_none : (reader i : ℕ) (es : List (List ℕ)) → length es ≤ i → tell_at reader i (map row_of es) ≡ bare ABSENT 0
unfolding tell_at
told_none reader i [] h = refl
told_none reader zero (t ∷ es) h = absurd (not-suc-le-zero h)
told_none reader (suc i) (t ∷ es) h = told_none reader i es (le_of_suc-le-suc h)

pub told_there : (reader i : ℕ) (es : List (List ℕ)) (r : Row) → i < length es → r ≡ row_of (get_or es i []) → tell_at reader i (map row_of es) ≡ tell reader r
unfolding tell_at
told_there reader i [] r h e = absurd (not-suc-le-zero h)
told_there reader zero (t ∷ es) r h e = ap (tell reader) (sym e)
told_there reader (suc i) (t ∷ es) r h e = told_there reader i es r (le_of_suc-le-suc h) e

pub entry_there : (reader n i : ℕ) (t : List ℕ) → i < n → tell_at reader i (rows_from n t) ≡ tell reader (row_of (drop (12 * i) t))
unfolding tell_at rows_from
entry_there reader zero i t h = absurd (not-suc-le-zero h)
entry_there reader (suc n) zero t h = refl
entry_there reader (suc n) (suc i) t h =
    entry_there reader n i (drop 12 t) (le_of_suc-le-suc h) ∙ ap (λ (l : List ℕ). tell reader (row_of l)) (drop-drop (12 * i) 12 t ∙ ap (λ (k : ℕ). drop k t) twelve)
  where
    twelve : 12 + 12 * i ≡ 12 * suc i
    twelve = omega arith

-- the tag that a check of it says yes to
pub tag-told : (key b message tag : List ℕ) (code : ℕ) (says : Bool) → length key ≡ 16 → 24 ≤ length b → message ≡ take (end_of b) b → tag ≡ drop (end_of b) b → Checks key message tag code says
    → says ≡ same (drop (end_of b) b) (tag_of key (take (end_of b) b))
unfolding tag_of key_code block_code
tag-told key b message tag code says keyed least em et c =
    c.leaves ∙ if_done_lem (key_code (length key) (length tag)) (same tag (cmac (encrypted key) message)) false done ∙ ap₂ (λ (t m : List ℕ). same t (cmac (encrypted key) m)) et em
  where
    sixteen : length tag ≡ 16
    sixteen = ap length et ∙ length-drop (end_of b) b ∙ last
      where
        last : length b - end_of b ≡ 16
        last = omega arith

    done : key_code (length key) (length tag) ≡ 0
    done = ap₂ key_code keyed sixteen

-- a number that comes after the tag
pub read_after : (reader : ℕ) (key b : List ℕ) (code : ℕ) → length key ≡ 16 → right_size b ≡ true → same (drop (end_of b) b) (tag_of key (take (end_of b) b)) ≡ true → code ≡ judged_code reader b → code ≡ read_code reader key b
unfolding read_code judged_code
read_after reader key b code k s t e = rw (eq-eqb (length key) 16 k, s, t) e

-- a table that is within the bytes
pub answers_fit : (o : Opened) (b : List ℕ) → answers_for o b ≡ true → first_body o.count ≤ length b
unfolding answers_for
answers_fit o b e = leb-true (first_body o.count) (length b) (both (eqb o.code 0 && eqb o.size (length b)) (leb (first_body o.count) (length b)) e).1

-- what an accepted bundle's size allows
pub record Room (b : List ℕ) : Type 0 where
  pub least : 24 ≤ length b
  pub most : length b ≤ 65536
  pub table : first_body (count_of b) ≤ length b

pub room : (reader : ℕ) (key b : List ℕ) → read_code reader key b ≡ 0 → Room b
room reader key b e =
    let w : Whole reader key b = (accepts reader key b e).0 in
    let t : first_body (count_of b) ≤ end_of b = w.formed.table in
    record { least = w.size.least; most = w.size.most; table = omega arith }

-- ---- what looking through a bundle gives

module _ (reader : ℕ) (key b : List ℕ) (code : ℕ) (told : code ≡ read_code reader key b) where
  abbrev none : ℕ → Opened
  none n = record { code = n; reader = reader; count = 0; size = 0 }

  pub opened-refused : code ≢ 0 → ◌≡◌ {A = Opened} (record { code = code; reader = reader; count = 0; size = 0 }) (opened reader key b)
  unfolding opened
  opened-refused ne =
      (λ i. record { code = told i; reader = reader; count = 0; size = 0 })
      ∙ sym (ap (λ (t : Bool). cond t (record { code = 0; reader = reader; count = count_of b; size = length b }) (none (read_code reader key b))) (ne_eqb (read_code reader key b) 0 (λ e. ne (told ∙ e))))

  pub opened-done : code ≡ 0 → (count : ℕ) → count ≡ count_of b → ◌≡◌ {A = Opened} (record { code = 0; reader = reader; count = count; size = length b }) (opened reader key b)
  unfolding opened
  opened-done z count e =
      (λ i. record { code = 0; reader = reader; count = e i; size = length b })
      ∙ sym (ap (λ (t : Bool). cond t (record { code = 0; reader = reader; count = count_of b; size = length b }) (none (read_code reader key b))) (eq-eqb (read_code reader key b) 0 (sym told ∙ z)))

-- a refusal has a number that is not 0
pub no_refusal_is_done : (r : Refusal) → number_of r ≢ 0
no_refusal_is_done BadKeyLength e = omega arith
no_refusal_is_done BadBlockLength e = omega arith
no_refusal_is_done BadOutputLength e = omega arith
no_refusal_is_done BadWordCount e = omega arith
no_refusal_is_done BadLane e = omega arith
no_refusal_is_done LaneNotIdle e = omega arith
no_refusal_is_done LaneNotFinished e = omega arith
no_refusal_is_done TooManyTurns e = omega arith
no_refusal_is_done BadDirection e = omega arith
no_refusal_is_done BadBench e = omega arith
no_refusal_is_done BadState e = omega arith
no_refusal_is_done NotTheOwner e = omega arith
no_refusal_is_done TooFewCounters e = omega arith
no_refusal_is_done BadOrder e = omega arith
no_refusal_is_done BadBundleLength e = omega arith
no_refusal_is_done BadTag e = omega arith
no_refusal_is_done Malformed e = omega arith
no_refusal_is_done MustKnow e = omega arith
no_refusal_is_done BadList e = omega arith
no_refusal_is_done ShortOutput e = omega arith
