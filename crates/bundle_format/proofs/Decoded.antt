-- Accepted bytes are an encoding: the settings cut out of them, encoded in their edition by the key, are these bytes.
use mathlib.Core.Path.{◌≡◌, refl, sym, ap, ap₂, ◌∙◌}
use mathlib.Core.Bool.{Bool, true, ◌&&◌}
use mathlib.Core.List.{List, [], ◌∷◌, ◌++◌, append_assoc, map}
use Prim.Native.Nat.{ℕ, ◌+◌, ◌*◌, ◌≤◌}
use native.Mathlib.Omega.{arith}
use borrow.Author.Tests.{eqb-true}
use lib.ListN.{length, take, drop, length-append, length-drop, length-map, take-append-drop}
use lib.Seq.{length-take-le, take_at, take-add, drop-drop}
use Rattle.bits.proofs.Truth.{both, together}
use Rattle.published.specs.Bytes.{to_bytes, Bytes}
use Rattle.published.proofs.Reading.{bytes_drop}
use Rattle.bundle_format.specs.Format.{knows, good_value, good_setting, good_from, header, table_of, first_body, row_for, placed, bodies, total_of, untagged, tag_of, encode, good_list}
use Rattle.bundle_format.specs.Reader.{edition_of, count_of, end_of, rows_of, body_at, in_place, in_kind, sound_rows, setting_of, settings_of}
use Rattle.bundle_format.specs.declared.Row.{Row}
use Rattle.bundle_format.proofs.Rows.{number_back, Fits, AllFit, more, length_rows_from, rows_fit, rows_back}
use Rattle.bundle_format.proofs.Accepted.{Whole}
use Rattle.bundle_format.proofs.Editions.{good_if, Stands, stands_only, kind_only}
use Rattle.bundle_format.proofs.Encoded.{listed_if, length-untagged}

-- an entry that stands right, and those after it
pub record Sound (reader : ℕ) (b : List ℕ) (low at : ℕ) (r : Row) (rs : List Row) : Type 0 where
  pub stands : Stands (end_of b) low at r
  pub kind : in_kind reader (edition_of b) r.kind (body_at b r) ≡ true
  pub rest : sound_rows reader b (r.id + 1) (at + r.len) rs ≡ true

pub sound_only : (reader : ℕ) (b : List ℕ) (low at : ℕ) (r : Row) (rs : List Row) → sound_rows reader b low at (r ∷ rs) ≡ true → Sound reader b low at r rs
unfolding sound_rows
sound_only reader b low at r rs e =
    let t1 : Bool = in_place (end_of b) low at r in
    let t2 : Bool = in_kind reader (edition_of b) r.kind (body_at b r) in
    let p = both (t1 && t2) (sound_rows reader b (r.id + 1) (at + r.len) rs) e in
    let q = both t1 t2 p.0 in
    record { stands = stands_only (end_of b) low at r q.0; kind = q.1; rest = p.1 }

length-body : (reader : ℕ) (b : List ℕ) (low at : ℕ) (r : Row) (rs : List Row) → Sound reader b low at r rs → length (body_at b r) ≡ r.len
length-body reader b low at r rs s =
    let t : Stands (end_of b) low at r = s.stands in
    let e : r.at ≡ at = t.begins in
    let h : at + r.len ≤ end_of b = t.ends in
    length-take-le r.len (drop r.at b) (simp length-drop (omega arith))

-- the entries are those of the settings
pub placed_back : (reader : ℕ) (b : List ℕ) (low at : ℕ) (rs : List Row) → sound_rows reader b low at rs ≡ true → placed at (map (setting_of b) rs) ≡ rs
unfolding placed setting_of
placed_back reader b low at [] e = refl
placed_back reader b low at (r ∷ rs) e =
    let s : Sound reader b low at r rs = sound_only reader b low at r rs e in
    let n : length (body_at b r) ≡ r.len = length-body reader b low at r rs s in
    let begins : r.at ≡ at = s.stands.begins in
    let one : row_for at (setting_of b r) ≡ r = λ i. record { id = r.id; at = sym begins i; len = n i; kind = r.kind; must = r.must } in
    ap₂ ◌∷◌ one (ap (λ (k : ℕ). placed (at + k) (map (setting_of b) rs)) n ∙ placed_back reader b (r.id + 1) (at + r.len) rs s.rest)

-- the bytes from the first body to the tag are the settings' bodies
pub bodies_back : (reader : ℕ) (b : List ℕ) (low at : ℕ) (rs : List Row) → sound_rows reader b low at rs ≡ true → drop at b ≡ bodies (map (setting_of b) rs) ++ drop (end_of b) b
unfolding bodies setting_of sound_rows
bodies_back reader b low at [] e = ap (λ (k : ℕ). drop k b) (eqb-true at (end_of b) e)
bodies_back reader b low at (r ∷ rs) e =
    let s : Sound reader b low at r rs = sound_only reader b low at r rs e in
    let begins : r.at ≡ at = s.stands.begins in
    sym (take-append-drop r.len (drop at b))
    ∙ ap₂ ◌++◌ (ap (λ (k : ℕ). take r.len (drop k b)) (sym begins)) (drop-drop r.len at b ∙ bodies_back reader b (r.id + 1) (at + r.len) rs s.rest)
    ∙ sym (append_assoc (body_at b r) (bodies (map (setting_of b) rs)) (drop (end_of b) b))

-- of the reader's edition or an earlier one: they are settings of that edition
pub good_back : (reader : ℕ) (b : List ℕ) (low at : ℕ) (rs : List Row) → edition_of b ≤ reader → AllFit rs → sound_rows reader b low at rs ≡ true
    → good_from (edition_of b) low (map (setting_of b) rs) ≡ true
unfolding good_from setting_of
good_back reader b low at [] h fits e = refl
good_back reader b low at (r ∷ rs) h (more fit fits) e =
    let s : Sound reader b low at r rs = sound_only reader b low at r rs e in
    let k = kind_only reader (edition_of b) r.kind (body_at b r) h s.kind in
    together (good_setting (edition_of b) low (setting_of b r)) (good_from (edition_of b) (r.id + 1) (map (setting_of b) rs)) (one s fit k) (good_back reader b (r.id + 1) (at + r.len) rs h fits s.rest)
  where
    one : Sound reader b low at r rs → Fits r → (knows (edition_of b) r.kind ≡ true) × (good_value r.kind (body_at b r) ≡ true) → good_setting (edition_of b) low (setting_of b r) ≡ true
    one s f k = good_if (edition_of b) low (setting_of b r) (record { rises = s.stands.rises; fits = f.id; known = k.0; valued = k.1; flag = s.stands.flag })

module _ (reader : ℕ) (key b : List ℕ) (bytes : Bytes b) (w : Whole reader key b) where
  rows : sound_rows reader b 0 (first_body (count_of b)) (rows_of b) ≡ true
  rows = w.formed.rows

  pub count_is : length (settings_of b) ≡ count_of b
  count_is = length-map (rows_of b) (setting_of b) ∙ length_rows_from (count_of b) (drop 8 b)

  first_body_lem : drop (first_body (count_of b)) b ≡ bodies (settings_of b) ++ drop (end_of b) b
  first_body_lem = bodies_back reader b 0 (first_body (count_of b)) (rows_of b) rows

  length-bodies : first_body (count_of b) + length (bodies (settings_of b)) ≡ end_of b
  length-bodies =
      let t : first_body (count_of b) ≤ end_of b = w.formed.table in
      let l : 24 ≤ length b = w.size.least in
      let e : length (drop (first_body (count_of b)) b) ≡ length (bodies (settings_of b)) + length (drop (end_of b) b) = ap length first_body_lem ∙ length-append (bodies (settings_of b)) (drop (end_of b) b) in
      omega (arith, length-drop (first_body (count_of b)) b, length-drop (end_of b) b)

  pub total_is : total_of (settings_of b) ≡ length b
  total_is =
      let l : 24 ≤ length b = w.size.least in
      let c : length (settings_of b) ≡ count_of b = count_is in
      let s : first_body (count_of b) + length (bodies (settings_of b)) ≡ end_of b = length-bodies in
      omega arith

  header_back : header (edition_of b) (length (settings_of b)) (total_of (settings_of b)) ≡ take 8 b
  unfolding header
  header_back =
      let l : 24 ≤ length b = w.size.least in
      ap₂ (λ (n t : ℕ). to_bytes 2 (edition_of b) ++ to_bytes 2 n ++ to_bytes 4 t) count_is (total_is ∙ sym w.size.stated)
      ∙ ap₂ ◌++◌ (ap₂ ◌++◌ (number_back 2 0 b bytes (omega arith)) (number_back 2 2 b bytes (omega arith)) ∙ sym (take-add 2 2 b)) (number_back 4 4 b bytes (omega arith))
      ∙ sym (take-add 4 4 b)

  in_table : 12 * count_of b ≤ length (drop 8 b)
  in_table =
      let l : 24 ≤ length b = w.size.least in
      let t : first_body (count_of b) ≤ end_of b = w.formed.table in
      simp length-drop (omega arith)

  table_back : table_of (placed (first_body (length (settings_of b))) (settings_of b)) ≡ take (12 * count_of b) (drop 8 b)
  table_back =
      ap (λ (n : ℕ). table_of (placed (first_body n) (settings_of b))) count_is
      ∙ ap table_of (placed_back reader b 0 (first_body (count_of b)) (rows_of b) rows)
      ∙ rows_back (count_of b) (drop 8 b) (bytes_drop 8 b bytes) in_table

  joined : untagged (edition_of b) (settings_of b) ++ drop (end_of b) b ≡ b
  unfolding untagged
  joined =
      ap (λ (x : List ℕ). x ++ bodies (settings_of b) ++ drop (end_of b) b) (ap₂ ◌++◌ header_back table_back ∙ sym (take-add 8 (12 * count_of b) b))
      ∙ append_assoc (take (first_body (count_of b)) b) (bodies (settings_of b)) (drop (end_of b) b)
      ∙ ap (λ (x : List ℕ). take (first_body (count_of b)) b ++ x) (sym first_body_lem)
      ∙ take-append-drop (first_body (count_of b)) b

  message_is : untagged (edition_of b) (settings_of b) ≡ take (end_of b) b
  message_is =
      sym (take_at (untagged (edition_of b) (settings_of b)) (drop (end_of b) b) (end_of b) size)
      ∙ ap (take (end_of b)) joined
    where
      size : length (untagged (edition_of b) (settings_of b)) ≡ end_of b
      size = length-untagged (edition_of b) (settings_of b) ∙ ap (λ (n : ℕ). first_body n + length (bodies (settings_of b))) count_is ∙ length-bodies

  pub is_encoding : b ≡ encode key (edition_of b) (settings_of b)
  unfolding encode
  is_encoding =
      sym (take-append-drop (end_of b) b)
      ∙ ap₂ ◌++◌ (sym message_is) (w.tag ∙ ap (tag_of key) (sym message_is))

  pub is_list : edition_of b ≤ reader → good_list (edition_of b) (settings_of b) ≡ true
  is_list h =
      let c : length (settings_of b) ≡ count_of b = count_is in
      let n : count_of b ≤ 256 = w.formed.count in
      let m : length b ≤ 65536 = w.size.most in
      let t : total_of (settings_of b) ≡ length b = total_is in
      listed_if (edition_of b) (settings_of b)
      (record {
        few = omega arith;
        good = good_back reader b 0 (first_body (count_of b)) (rows_of b) h (rows_fit (count_of b) (drop 8 b) (bytes_drop 8 b bytes) in_table) rows;
        small = omega arith;
      })
