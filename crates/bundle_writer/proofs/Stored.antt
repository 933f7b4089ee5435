-- Bytes that are stored: those of a header and of an entry; parts put one after the other.
use mathlib.Core.Path.{◌≡◌, refl, sym, ap, ap₂, ◌∙◌}
use mathlib.Core.List.{List, [], ◌∷◌, ◌++◌, append_assoc, append-nil}
use Prim.Native.Nat.{ℕ, zero, suc, ◌+◌, ◌-◌, ◌*◌, ◌/◌, ◌%◌, ◌<◌, ◌≤◌}
use native.Mathlib.Nat.{div-one}
use native.Mathlib.Omega.{arith}
use lib.ListN.{length, take, drop, get_or, length-append}
use lib.Seq.{length-take-le, take_at, take_all, drop-drop}
use borrow.Rule.Slice.PartMut.{put_mid, post_of, same_len_mid, mid_len, Post-is, drop_put}
use Rattle.bits.specs.Digit.{digit}
use Rattle.published.specs.Bytes.{to_bytes}
use Rattle.published.specs.Gift128.{encrypted}
use Rattle.cmac_parts.specs.Standard.{cmac}
use Rattle.cmac.specs.Calls.{TagsWhole}
use Rattle.cmac.proofs.Pieces.{tagged}
use Rattle.bundle_format.specs.Format.{Setting, header, row_bytes, table_of, placed, total_of, untagged, tag_of, encode}
use Rattle.bundle_format.specs.declared.Row.{Row}
use Rattle.bundle_format.proofs.Rows.{length-row, length-table}
use Rattle.bundle_writer.specs.Inner.{settings_in, sizes_in, lent_row, lent_rows}
use Rattle.bundle_writer.proofs.Lent.{rows_left, rows_end, length_settings, settings_placed, bodies_all, total_settings}

pub header-digits : (edition count total : ℕ)
    → edition / 256 % 256 ∷ edition % 256 ∷ count / 256 % 256 ∷ count % 256 ∷ total / 16777216 % 256 ∷ total / 65536 % 256 ∷ total / 256 % 256 ∷ total % 256 ∷ [] ≡ header edition count total
unfolding header to_bytes digit
header-digits edition count total = simp div-one

pub row-digits : (r : Row)
    → r.id / 16777216 % 256 ∷ r.id / 65536 % 256 ∷ r.id / 256 % 256 ∷ r.id % 256 ∷ r.at / 16777216 % 256 ∷ r.at / 65536 % 256 ∷ r.at / 256 % 256 ∷ r.at % 256 ∷ r.len / 256 % 256 ∷ r.len % 256 ∷ r.kind % 256 ∷ r.must % 256 ∷ [] ≡ row_bytes r
unfolding row_bytes to_bytes digit
row-digits r = simp div-one

-- ---- parts put one after the other: what stands before the end of the last one

pub put_front : (a e : ℕ) (xs ys front : List ℕ) → a ≤ e → e ≤ length xs → length ys ≡ e - a → take a xs ≡ front → take e (put_mid a (e - a) xs ys) ≡ front ++ ys
put_front a e xs ys front h g len before =
    ap (take e) (sym (append_assoc (take a xs) ys (post_of a (e - a) xs)))
    ∙ take_at (take a xs ++ ys) (post_of a (e - a) xs) e size
    ∙ ap (λ (l : List ℕ). l ++ ys) before
  where
    size : length (take a xs ++ ys) ≡ e
    size = length-append (take a xs) ys ∙ ap₂ ◌+◌ (length-take-le a xs (omega arith)) len ∙ whole
      where
        whole : a + (e - a) ≡ e
        whole = omega arith

pub put-length : (a e : ℕ) (xs ys : List ℕ) → e ≤ length xs → length ys ≡ e - a → length (put_mid a (e - a) xs ys) ≡ length xs
put-length a e xs ys g len = same_len_mid a (e - a) xs ys (len ∙ sym (mid_len a e xs g))

-- ---- the table, entry by entry

module _ (rows : List (List ℕ)) (whole out : List ℕ) (size : length out ≡ 12 * length rows) (i at : ℕ) (left : take (12 * i) out ++ table_of (lent_rows at (drop i rows)) ≡ whole) where
  pub table_end : i ≤ length rows → length rows ≤ i → out ≡ whole
  unfolding lent_rows table_of
  table_end h g =
      sym (append-nil out) ∙ ap (λ (l : List ℕ). l ++ []) (sym (take_all (12 * i) out (omega arith))) ∙ ap (λ (l : List (List ℕ)). take (12 * i) out ++ table_of (lent_rows at l)) (sym (rows_end rows i g)) ∙ left

  pub table_more : i < length rows → (r : Row) → r ≡ lent_row at (get_or rows i []) → (new : List ℕ) → new ≡ row_bytes r
      → take (12 * (i + 1)) (put_mid (12 * i) (12 * i + 12 - 12 * i) out new) ++ table_of (lent_rows (at + r.len) (drop (i + 1) rows)) ≡ whole
  unfolding table_of lent_rows lent_row
  table_more here r is new made =
      ap (λ (l : List ℕ). l ++ table_of (lent_rows (at + r.len) (drop (i + 1) rows)))
      (ap (λ (m : ℕ). take m (put_mid (12 * i) (12 * i + 12 - 12 * i) out new)) twelve
      ∙ put_front (12 * i) (12 * i + 12) out new (take (12 * i) out) (omega arith) (omega arith) (ap length made ∙ length-row r ∙ size') refl)
      ∙ append_assoc (take (12 * i) out) new (table_of (lent_rows (at + r.len) (drop (i + 1) rows)))
      ∙ ap (λ (l : List ℕ). take (12 * i) out ++ l) (ap (λ (l : List ℕ). l ++ table_of (lent_rows (at + r.len) (drop (i + 1) rows))) made ∙ sym next)
      ∙ left
    where
      twelve : 12 * (i + 1) ≡ 12 * i + 12
      twelve = omega arith

      size' : 12 ≡ 12 * i + 12 - 12 * i
      size' = omega arith

      next : table_of (lent_rows at (drop i rows)) ≡ row_bytes r ++ table_of (lent_rows (at + r.len) (drop (i + 1) rows))
      next = ap (λ (l : List (List ℕ)). table_of (lent_rows at l)) (rows_left rows i here) ∙ ap (λ (x : Row). row_bytes x ++ table_of (lent_rows (at + x.len) (drop (i + 1) rows))) (sym is)

-- ---- all before the tag

pub untagged_is : (edition : ℕ) (rows : List (List ℕ)) (pool h t p : List ℕ) → sizes_in rows ≡ length pool → h ≡ header edition (length rows) (8 + 12 * length rows + length pool + 16) → t ≡ table_of (lent_rows (8 + 12 * length rows) rows) → p ≡ pool
    → h ++ t ++ p ≡ untagged edition (settings_in rows pool)
unfolding untagged
untagged_is edition rows pool h t p all eh et ep =
    ap₂ ◌++◌
    (ap₂ ◌++◌ (eh ∙ ap₂ (header edition) (sym (length_settings rows pool)) (sym (total_settings rows pool all)))
    (et ∙ ap table_of (sym (ap (λ (m : ℕ). placed (8 + 12 * m) (settings_in rows pool)) (length_settings rows pool) ∙ settings_placed (8 + 12 * length rows) rows pool (omega arith)))))
    (ep ∙ sym (bodies_all rows pool all))

length-rows : (at : ℕ) (rows : List (List ℕ)) → length (lent_rows at rows) ≡ length rows
unfolding lent_rows
length-rows at [] = refl
length-rows at (row ∷ rows) = ap suc (length-rows (at + get_or row 3 0) rows)

pub length_lent : (at : ℕ) (rows : List (List ℕ)) → length (table_of (lent_rows at rows)) ≡ 12 * length rows
length_lent at rows = length-table (lent_rows at rows) ∙ ap (λ (m : ℕ). 12 * m) (length-rows at rows)

pub three-parts : (out h t p : List ℕ) (first end : ℕ) → 8 ≤ first → first ≤ end → length out ≡ end → length h ≡ 8 → length t ≡ first - 8 → length p ≡ end - first
    → put_mid first (end - first) (put_mid 8 (first - 8) (put_mid 0 (8 - 0) out h) t) p ≡ h ++ t ++ p
three-parts out h t p first end l m size lh lt lp =
    let out1 : List ℕ = put_mid 0 (8 - 0) out h in
    let out2 : List ℕ = put_mid 8 (first - 8) out1 t in
    let s1 : length out1 ≡ end = put-length 0 8 out h (omega arith) (omega arith) ∙ size in
    let s2 : length out2 ≡ end = put-length 8 first out1 t (omega arith) lt ∙ s1 in
    let s3 : length (put_mid first (end - first) out2 p) ≡ end = put-length first end out2 p (omega arith) lp ∙ s2 in
    let e1 : take 8 out1 ≡ h = put_front 0 8 out h [] (omega arith) (omega arith) (omega arith) refl in
    let e2 : take first out2 ≡ h ++ t = put_front 8 first out1 t h (omega arith) (omega arith) lt e1 in
    sym (take_all end (put_mid first (end - first) out2 p) (omega arith)) ∙ put_front first end out2 p (h ++ t) (omega arith) (omega arith) lp e2

-- ---- the tag

pub tag-put : (out tag message : List ℕ) (end : ℕ) → end + 16 ≤ length out → length tag ≡ 16 → tag ≡ message
    → put_mid end (end + 16 - end) out tag ≡ take end out ++ message ++ drop (end + 16) out
tag-put out tag message end h len e =
    ap (λ (l : List ℕ). take end out ++ l) (ap₂ ◌++◌ e (Post-is end (end + 16) out (omega arith))) ∙ sym (append_assoc (take end out) message (drop (end + 16) out))

pub tag_made : (key out start new : List ℕ) (end r : ℕ) → length key ≡ 16 → length start ≡ 16 → TagsWhole key (take (end - 0) (drop 0 out)) start r new → new ≡ tag_of key (take end out)
unfolding tag_of
tag_made key out start new end r keyed len t = tagged key (take (end - 0) out) start keyed len t ∙ ap (λ (n : ℕ). cmac (encrypted key) (take n out)) size
  where
    size : end - 0 ≡ end
    size = omega arith

pub bundle_put : (key out new last : List ℕ) (edition end : ℕ) (ss : List Setting) → end + 16 ≤ length out → length new ≡ end → new ≡ untagged edition ss → total_of ss ≡ end + 16
    → last ≡ take end (put_mid 0 (end - 0) out new) ++ tag_of key (take end (put_mid 0 (end - 0) out new)) ++ drop (end + 16) (put_mid 0 (end - 0) out new)
    → last ≡ encode key edition ss ++ drop (total_of ss) out
unfolding encode
bundle_put key out new last edition end ss h len made total e =
    let front : take end (put_mid 0 (end - 0) out new) ≡ new = put_front 0 end out new [] (omega arith) (omega arith) (len ∙ size) refl in
    e
    ∙ ap₂ (λ (m d : List ℕ). m ++ tag_of key m ++ d) (front ∙ made)
    (sym (drop-drop 16 end (put_mid 0 (end - 0) out new)) ∙ ap (drop 16) (drop_put 0 end out new (omega arith) (omega arith) (len ∙ size)) ∙ drop-drop 16 end out ∙ ap (λ (n : ℕ). drop n out) (sym total))
  where
    size : end ≡ end - 0
    size = omega arith
