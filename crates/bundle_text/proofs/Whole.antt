-- Who writes the first line and then the lines one after the other, each from a buffer that is long enough, has written what a node sees of the bundle.
use mathlib.Core.Path.{◌≡◌, refl, sym, ap, ap₂, ◌∙◌}
use mathlib.Core.Bool.{Bool, true, false, cond, not, ◌||◌}
use mathlib.Core.List.{List, [], ◌++◌}
use Prim.Native.Nat.{ℕ, zero, suc, ◌+◌, ◌*◌, ◌^◌, ◌<◌, ◌≤◌}
use native.Mathlib.Nat.{zero-add, pow-le-pow_right}
use native.Mathlib.Omega.{arith}
use lib.Dec.{eqb, ltb, lit<}
use lib.ListN.{length, take, drop, get_or, length-append, length-drop, length-take}
use lib.Seq.{take_all, drop-drop, get_or-drop}
use borrow.Author.Tests.{le-ltb}
use Rattle.answers.proofs.Outcome.{if_done_lem}
use Rattle.bits.proofs.Truth.{both}
use Rattle.published.specs.Bytes.{from_bytes, Bytes}
use Rattle.published.proofs.Reading.{from_bytes-lt, bytes_take, bytes_drop}
use Rattle.text.proofs.Lengths.{number-length}
use Rattle.bundle_format.specs.Format.{knows, good_value, first_body}
use Rattle.bundle_format.specs.Reader.{number_at, edition_of, count_of, row_of, rows_from, rows_of, body_at, in_kind, sound_rows, read_code, VALUE, UNKNOWN, bare, opened, entry_of, tell, tell_at, Answer, meant}
use Rattle.bundle_format.specs.declared.Row.{Row}
use Rattle.bundle_format.specs.declared.Told.{Told}
use Rattle.bundle_format.proofs.Rows.{Fits, AllFit, more, rows_fit}
use Rattle.bundle_format.proofs.Accepted.{accepts}
use Rattle.bundle_format.proofs.Editions.{or_else}
use Rattle.bundle_format.proofs.Decoded.{Sound, sound_only}
use Rattle.bundle_format.proofs.Entries.{tell-id}
use Rattle.bundle_format.proofs.Theorems.{entry_is}
use Rattle.bundle_judge.proofs.Cutting.{number_one}
use Rattle.bundle_reader.proofs.Steps.{entry_there}
use Rattle.differ_text.specs.Rendered.{side_text}
use Rattle.differ_text.proofs.Sides.{value-meant, unknown-meant}
use Rattle.differ_text.proofs.Accepted.{value_short}
use Rattle.bundle_text.specs.Seen.{must_word, must_text, setting_line, row_line, row_lines, head_line, stated, seen_text, entry_line, written_from}

-- ---- an entry's line is its row's

module _ (reader : ℕ) (key b : List ℕ) (e : read_code reader key b ≡ 0) (i : ℕ) (h : i < count_of b) where
  told : entry_of (opened reader key b) b i ≡ tell reader (row_of (drop (8 + 12 * i) b))
  told =
      entry_is reader key b i
      ∙ if_done_lem (read_code reader key b) (tell_at reader i (rows_of b)) _ e
      ∙ entry_there reader (count_of b) i (drop 8 b) h
      ∙ ap (λ (l : List ℕ). tell reader (row_of l)) (drop-drop (12 * i) 8 b)

  must : get_or b (19 + 12 * i) 0 ≡ (row_of (drop (8 + 12 * i) b)).must
  unfolding row_of
  must =
      let t : first_body (count_of b) ≤ length b = omega (arith, (accepts reader key b e).0.formed.table) in
      ap (λ (n : ℕ). get_or b n 0) place
      ∙ sym (get_or-drop (8 + 12 * i) b 11 0)
      ∙ sym (number_one 11 (drop (8 + 12 * i) b) (omega (arith, length-drop (8 + 12 * i) b)))
    where
      place : 19 + 12 * i ≡ 8 + 12 * i + 11
      place = omega arith

  entry_line_lem : entry_line (opened reader key b) b i ≡ row_line reader b (row_of (drop (8 + 12 * i) b))
  unfolding entry_line row_line
  entry_line_lem =
      ap₂ (λ (t : Told) (m : ℕ). setting_line t.id (meant b t) m) told must
      ∙ ap (λ (n : ℕ). setting_line n (meant b (tell reader (row_of (drop (8 + 12 * i) b)))) (row_of (drop (8 + 12 * i) b)).must) (tell-id reader (row_of (drop (8 + 12 * i) b)))

-- ---- no line is cut

must_short : (m : ℕ) → length (must_text m) ≤ 10
unfolding must_text
must_short m = go (eqb m 0)
  where
    go : (t : Bool) → length (cond t [] must_word) ≤ 10
    go true = let l : 0 ≤ 10 = omega arith in l
    go false = let l : 10 ≤ 10 = omega arith in l

setting_short : (id : ℕ) (a : Answer) (m : ℕ) → id < 2 ^ 64 → length (side_text a) ≤ 1027 → length (setting_line id a m) ≤ 2080
unfolding setting_line
setting_short id a m h k = simp length-append (omega (arith, number-length id h, must_short m))

abbrev told_of : Row → Told
told_of r = record { state = VALUE; id = r.id; kind = r.kind; at = r.at; len = r.len }

module _ (reader : ℕ) (b : List ℕ) (bytes : Bytes b) where
  right_kind : (kind : ℕ) (body : List ℕ) → in_kind reader (edition_of b) kind body ≡ true → not (knows reader kind) || good_value kind body ≡ true
  unfolding in_kind
  right_kind kind body e = (both (ltb reader (edition_of b) || knows (edition_of b) kind) (not (knows reader kind) || good_value kind body) e).1

  side_short : (r : Row) → in_kind reader (edition_of b) r.kind (body_at b r) ≡ true → length (side_text (meant b (tell reader r))) ≤ 1027
  unfolding tell side_text
  side_short r kind = go (knows reader r.kind) refl
    where
      go : (k : Bool) → knows reader r.kind ≡ k → length (side_text (meant b (cond k (told_of r) (bare UNKNOWN r.id)))) ≤ 1027
      go true k =
          let good : good_value r.kind (body_at b r) ≡ true = or_else (not (knows reader r.kind)) (good_value r.kind (body_at b r)) (right_kind r.kind (body_at b r) kind) (ap not k) in
          rw (value-meant b (told_of r) refl) (value_short r.kind (body_at b r) good (bytes_take r.len (drop r.at b) (bytes_drop r.at b bytes)))
      go false k = rw (unknown-meant b (bare UNKNOWN r.id) refl) (omega arith)

  row_short : (low at : ℕ) (r : Row) (rs : List Row) → Sound reader b low at r rs → Fits r → length (row_line reader b r) ≤ 2080
  unfolding row_line
  row_short low at r rs s fits = setting_short r.id (meant b (tell reader r)) r.must (omega (arith, fits.id)) (side_short r s.kind)

-- ---- all lines

module _ (reader : ℕ) (key b : List ℕ) (bytes : Bytes b) (e : read_code reader key b ≡ 0) where
  from : (n i low at : ℕ) (t : List ℕ) → t ≡ drop (8 + 12 * i) b → i + n ≡ count_of b → sound_rows reader b low at (rows_from n t) ≡ true → AllFit (rows_from n t)
      → written_from n i (opened reader key b) b ≡ row_lines reader b (rows_from n t)
  unfolding written_from row_lines rows_from
  from zero i low at t is count sound fits = refl
  from (suc n) i low at t is count sound (more fit fits) =
      let s : Sound reader b low at (row_of t) (rows_from n (drop 12 t)) = sound_only reader b low at (row_of t) (rows_from n (drop 12 t)) sound in
      ap₂ ◌++◌
      (ap (take 2080) (entry_line_lem reader key b e i (omega arith) ∙ ap (λ (l : List ℕ). row_line reader b (row_of l)) (sym is)) ∙ take_all 2080 (row_line reader b (row_of t)) (row_short reader b bytes low at (row_of t) (rows_from n (drop 12 t)) s fit))
      (from n (i + 1) ((row_of t).id + 1) (at + (row_of t).len) (drop 12 t) (ap (drop 12) is ∙ drop-drop 12 (8 + 12 * i) b ∙ ap (λ (k : ℕ). drop k b) next) (omega arith) s.rest fits)
    where
      next : 8 + 12 * i + 12 ≡ 8 + 12 * (i + 1)
      next = omega arith

  head_short : reader < 2 ^ 64 → length (head_line (edition_of b) reader) ≤ 2080
  unfolding head_line number_at
  head_short h = simp length-append (omega (arith, number-length (edition_of b) small, number-length reader h))
    where
      small : edition_of b < 2 ^ 64
      small =
          let lt : from_bytes (take 2 (drop 0 b)) < 256 ^ length (take 2 (drop 0 b)) = from_bytes-lt (take 2 (drop 0 b)) (bytes_take 2 (drop 0 b) (bytes_drop 0 b bytes)) in
          let most : 256 ^ length (take 2 (drop 0 b)) ≤ 256 ^ 2 = pow-le-pow_right (lit< tt) {i = length (take 2 (drop 0 b))} {j = 2} (omega (arith, length-take 2 (drop 0 b))) in
          omega arith

  stated_is : stated b ≡ edition_of b
  unfolding stated
  stated_is = ap (λ (t : Bool). cond t 0 (edition_of b)) (le-ltb (length b) 2 (omega (arith, (accepts reader key b e).0.size.least)))

  -- all that is written is what a node sees of the bundle
  pub whole : reader < 2 ^ 64 → take 2080 (head_line (stated b) reader) ++ written_from (count_of b) 0 (opened reader key b) b ≡ seen_text reader b
  unfolding seen_text
  whole h =
      ap₂ ◌++◌ (ap (λ (n : ℕ). take 2080 (head_line n reader)) stated_is ∙ take_all 2080 (head_line (edition_of b) reader) (head_short h))
      (from (count_of b) 0 0 (first_body (count_of b)) (drop 8 b) refl (zero-add (count_of b)) (accepts reader key b e).0.formed.rows (rows_fit (count_of b) (drop 8 b) (bytes_drop 8 b bytes) (omega (arith, (accepts reader key b e).0.formed.table, (accepts reader key b e).0.size.least, length-drop 8 b))))
