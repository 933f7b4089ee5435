-- A list encoded and read: its header, its entries, its bodies; every reader finds it well formed, and those of its edition and later ones answer the list.
use mathlib.Core.Path.{◌≡◌, refl, sym, ap, ap₂, ◌∙◌}
use mathlib.Core.Bool.{Bool, true, false, cond, not, ◌&&◌, ◌||◌}
use mathlib.Core.List.{List, [], ◌∷◌, ◌++◌, append_assoc, map}
use Prim.Native.Nat.{ℕ, suc, ◌+◌, ◌*◌, ◌<◌, ◌≤◌}
use native.Mathlib.Omega.{arith}
use lib.Dec.{eqb, leb}
use lib.ListN.{length, take, drop, length-append}
use lib.Seq.{take-append_seam, drop-append_seam, take_at, drop_at, drop-drop}
use borrow.Author.Tests.{eq-eqb, le-leb, leb-true, ltb-true}
use Rattle.answers.specs.Numbers.{MUST_KNOW, DONE}
use Rattle.answers.specs.Order.{unless}
use Rattle.bits.proofs.Truth.{both, together}
use Rattle.published.specs.Bytes.{to_bytes}
use Rattle.published.proofs.Reading.{from_to}
use Rattle.published.specs.Gift128.{encrypted}
use Rattle.cmac.proofs.Chaining.{length-encrypted, length-cmac}
use Rattle.bundle_format.specs.Format.{kinds, knows, Setting, good_setting, good_from, header, table_of, first_body, row_for, placed, bodies, total_of, untagged, tag_of, encode, good_list}
use Rattle.bundle_format.specs.Reader.{number_at, edition_of, count_of, stated_of, end_of, rows_from, rows_of, body_at, in_place, in_kind, sound_rows, all_known, read_code, VALUE, UNKNOWN, bare, tell, tell_in, Answer, value, unknown, meant, answer_in, held, setting_of, settings_of}
use Rattle.bundle_format.specs.declared.Row.{Row}
use Rattle.bundle_format.proofs.Rows.{Fits, AllFit, none, more, length-table, rows-read}
use Rattle.bundle_format.proofs.Accepted.{Whole, whole_code}
use Rattle.bundle_format.proofs.Editions.{kinds_most, known-later, or_right, Good, good_only, stands_if, in_kind_lem}

pub length-tag : (key m : List ℕ) → length (tag_of key m) ≡ 16
unfolding tag_of
length-tag key m = length-cmac (encrypted key) m (λ b. length-encrypted key b)

pub length-placed : (at : ℕ) (ss : List Setting) → length (placed at ss) ≡ length ss
unfolding placed
length-placed at [] = refl
length-placed at (s ∷ ss) = ap suc (length-placed (at + length s.body) ss)

pub length-header : (edition count total : ℕ) → length (header edition count total) ≡ 8
unfolding header to_bytes
length-header edition count total = refl

pub length-untagged : (edition : ℕ) (ss : List Setting) → length (untagged edition ss) ≡ first_body (length ss) + length (bodies ss)
unfolding untagged
length-untagged edition ss =
    simp (length-append, length-header, length-table, length-placed)

pub length-encode : (key : List ℕ) (edition : ℕ) (ss : List Setting) → length (encode key edition ss) ≡ total_of ss
unfolding encode
length-encode key edition ss = simp (length-append, length-untagged, length-tag)

-- ---- entries and settings, of any bytes that have the bodies at a place

-- the first body, and what comes after it
module _ (b : List ℕ) (at : ℕ) (s : Setting) (ss : List Setting) (rest : List ℕ) (here : drop at b ≡ bodies (s ∷ ss) ++ rest) where
  pub body_first : drop at b ≡ s.body ++ (bodies ss ++ rest)
  unfolding bodies
  body_first = here ∙ append_assoc s.body (bodies ss) rest

  pub body_here : take (length s.body) (drop at b) ≡ s.body
  body_here = ap (take (length s.body)) body_first ∙ take-append_seam s.body (bodies ss ++ rest)

  pub body_next : drop (at + length s.body) b ≡ bodies ss ++ rest
  body_next =
      sym (drop-drop (length s.body) at b) ∙ ap (drop (length s.body)) body_first ∙ drop-append_seam s.body (bodies ss ++ rest)

pub settings_back : (b : List ℕ) (at : ℕ) (ss : List Setting) (rest : List ℕ) → drop at b ≡ bodies ss ++ rest → map (setting_of b) (placed at ss) ≡ ss
unfolding placed setting_of
settings_back b at [] rest here = refl
settings_back b at (s ∷ ss) rest here =
    ap₂ ◌∷◌ one (settings_back b (at + length s.body) ss rest (body_next b at s ss rest here))
  where
    one : setting_of b (row_for at s) ≡ s
    one = λ i. record { id = s.id; kind = s.kind; must = s.must; body = body_here b at s ss rest here i }

-- what is told of an id means what the settings say of it
pub answers_are : (reader id : ℕ) (b : List ℕ) (rs : List Row) → meant b (tell_in reader id rs) ≡ answer_in reader id (map (setting_of b) rs)
unfolding meant tell_in tell answer_in setting_of
answers_are reader id b [] = refl
answers_are reader id b (r ∷ rs) = go (eqb r.id id) (knows reader r.kind) (answers_are reader id b rs)
  where
    go : (t k : Bool) → meant b (tell_in reader id rs) ≡ answer_in reader id (map (setting_of b) rs)
        → meant b (cond t (cond k (record { state = VALUE; id = r.id; kind = r.kind; at = r.at; len = r.len }) (bare UNKNOWN r.id)) (tell_in reader id rs))
        ≡ cond t (cond k (value r.kind (body_at b r)) unknown) (answer_in reader id (map (setting_of b) rs))
    go true true e = refl
    go true false e = refl
    go false k e = e

-- a reader of the list's edition or a later one knows every kind in it
pub all_held : (reader edition id low : ℕ) (ss : List Setting) → edition ≤ reader → good_from edition low ss ≡ true → answer_in reader id ss ≡ held id ss
unfolding answer_in held good_from
all_held reader edition id low [] h e = refl
all_held reader edition id low (s ∷ ss) h e =
    let p = both (good_setting edition low s) (good_from edition (s.id + 1) ss) e in
    let g : Good edition low s = good_only edition low s p.0 in
    ap₂ (λ (k : Bool) (x : Answer). cond (eqb s.id id) (cond k (value s.kind s.body) unknown) x)
    (known-later edition reader s.kind h g.known)
    (all_held reader edition id (s.id + 1) ss h p.1)

pub all_known_lem : (reader edition low at : ℕ) (ss : List Setting) → edition ≤ reader → good_from edition low ss ≡ true → all_known reader (placed at ss) ≡ true
unfolding all_known placed good_from
all_known_lem reader edition low at [] h e = refl
all_known_lem reader edition low at (s ∷ ss) h e =
    let p = both (good_setting edition low s) (good_from edition (s.id + 1) ss) e in
    let g : Good edition low s = good_only edition low s p.0 in
    together (not (eqb s.must 1) || knows reader s.kind) (all_known reader (placed (at + length s.body) ss))
    (or_right (not (eqb s.must 1)) (knows reader s.kind) (known-later edition reader s.kind h g.known))
    (all_known_lem reader edition (s.id + 1) (at + length s.body) ss h p.1)

pub all_fit : (edition low at : ℕ) (ss : List Setting) → good_from edition low ss ≡ true → at + length (bodies ss) + 16 ≤ 65536 → AllFit (placed at ss)
unfolding placed good_from bodies
all_fit edition low at [] e h = none
all_fit edition low at (s ∷ ss) e h =
    let p = both (good_setting edition low s) (good_from edition (s.id + 1) ss) e in
    let g : Good edition low s = good_only edition low s p.0 in
    let n : length (s.body ++ bodies ss) ≡ length s.body + length (bodies ss) = length-append s.body (bodies ss) in
    let k : s.kind < kinds edition = ltb-true s.kind (kinds edition) g.known in
    let m : kinds edition ≤ 3 = kinds_most edition in
    let f : Fits (row_for at s) = record { id = g.fits; at = omega arith; len = omega arith; kind = omega arith; must = omega arith } in
    more f (all_fit edition (s.id + 1) (at + length s.body) ss p.1 (omega arith))

pub sound-placed : (reader : ℕ) (b : List ℕ) (low at : ℕ) (ss : List Setting) (rest : List ℕ) → drop at b ≡ bodies ss ++ rest → at + length (bodies ss) ≡ end_of b
    → good_from (edition_of b) low ss ≡ true → sound_rows reader b low at (placed at ss) ≡ true
unfolding sound_rows placed good_from bodies
sound-placed reader b low at [] rest here size e = eq-eqb at (end_of b) (omega arith)
sound-placed reader b low at (s ∷ ss) rest here size e =
    let p = both (good_setting (edition_of b) low s) (good_from (edition_of b) (s.id + 1) ss) e in
    let g : Good (edition_of b) low s = good_only (edition_of b) low s p.0 in
    let n : length (s.body ++ bodies ss) ≡ length s.body + length (bodies ss) = length-append s.body (bodies ss) in
    together
    (in_place (end_of b) low at (row_for at s) && in_kind reader (edition_of b) s.kind (body_at b (row_for at s)))
    (sound_rows reader b (s.id + 1) (at + length s.body) (placed (at + length s.body) ss))
    (together (in_place (end_of b) low at (row_for at s)) (in_kind reader (edition_of b) s.kind (body_at b (row_for at s)))
    (stands_if (end_of b) low at (row_for at s) (record { rises = g.rises; begins = refl; ends = omega arith; flag = g.flag }))
    (ap (in_kind reader (edition_of b) s.kind) (body_here b at s ss rest here) ∙ in_kind_lem reader (edition_of b) s.kind s.body g.known g.valued))
    (sound-placed reader b (s.id + 1) (at + length s.body) ss rest (body_next b at s ss rest here) (omega arith) p.1)

-- ---- the bundle

pub record Listed (edition : ℕ) (ss : List Setting) : Type 0 where
  pub few : length ss ≤ 256
  pub good : good_from edition 0 ss ≡ true
  pub small : total_of ss ≤ 65536

pub listed_only : (edition : ℕ) (ss : List Setting) → good_list edition ss ≡ true → Listed edition ss
unfolding good_list
listed_only edition ss e =
    let t1 : Bool = leb (length ss) 256 in
    let t2 : Bool = good_from edition 0 ss in
    let t3 : Bool = leb (total_of ss) 65536 in
    let p = both (t1 && t2) t3 e in
    let q = both t1 t2 p.0 in
    record { few = leb-true (length ss) 256 q.0; good = q.1; small = leb-true (total_of ss) 65536 p.1 }

pub listed_if : (edition : ℕ) (ss : List Setting) → Listed edition ss → good_list edition ss ≡ true
unfolding good_list
listed_if edition ss l =
    let t1 : Bool = leb (length ss) 256 in
    let t2 : Bool = good_from edition 0 ss in
    let t3 : Bool = leb (total_of ss) 65536 in
    together (t1 && t2) t3 (together t1 t2 (le-leb (length ss) 256 l.few) l.good) (le-leb (total_of ss) 65536 l.small)

module _ (key : List ℕ) (edition : ℕ) (ss : List Setting) (last : edition < 65536) (good : good_list edition ss ≡ true) where
  list : Listed edition ss
  list = listed_only edition ss good

  tag : List ℕ
  tag = tag_of key (untagged edition ss)

  pub edition_back : edition_of (encode key edition ss) ≡ edition
  unfolding encode untagged header number_at to_bytes
  edition_back = from_to 2 edition last

  pub count_back : count_of (encode key edition ss) ≡ length ss
  unfolding encode untagged header number_at to_bytes
  count_back = let h = list.few in from_to 2 (length ss) (omega arith)

  pub stated_back : stated_of (encode key edition ss) ≡ total_of ss
  unfolding encode untagged header number_at to_bytes
  stated_back = let h = list.small in from_to 4 (total_of ss) (omega arith)

  after_header : drop 8 (encode key edition ss) ≡ table_of (placed (first_body (length ss)) ss) ++ (bodies ss ++ tag)
  unfolding encode untagged header to_bytes tag
  after_header = append_assoc (table_of (placed (first_body (length ss)) ss)) (bodies ss) (tag_of key (untagged edition ss))

  pub rows_back : rows_of (encode key edition ss) ≡ placed (first_body (length ss)) ss
  rows_back =
      ap₂ rows_from (count_back ∙ sym (length-placed (first_body (length ss)) ss)) after_header
      ∙ rows-read (placed (first_body (length ss)) ss) (bodies ss ++ tag) (all_fit edition 0 (first_body (length ss)) ss list.good list.small)

  at_bodies : drop (first_body (length ss)) (encode key edition ss) ≡ bodies ss ++ tag
  at_bodies =
      sym (drop-drop (12 * length ss) 8 (encode key edition ss))
      ∙ ap (drop (12 * length ss)) after_header
      ∙ drop_at (table_of (placed (first_body (length ss)) ss)) (bodies ss ++ tag) (12 * length ss)
      (length-table (placed (first_body (length ss)) ss) ∙ ap (λ (n : ℕ). 12 * n) (length-placed (first_body (length ss)) ss))

  -- the settings read are those of the list
  pub list_back : settings_of (encode key edition ss) ≡ ss
  list_back =
      ap (map (setting_of (encode key edition ss))) rows_back
      ∙ settings_back (encode key edition ss) (first_body (length ss)) ss tag at_bodies

  -- every reader finds the bundle whole
  module _ (keyed : length key ≡ 16) (first : 1 ≤ edition) (reader : ℕ) where
    end_is : end_of (encode key edition ss) ≡ length (untagged edition ss)
    end_is = rw (length-encode, length-untagged) (omega arith)

    tagged : drop (end_of (encode key edition ss)) (encode key edition ss) ≡ tag_of key (take (end_of (encode key edition ss)) (encode key edition ss))
    unfolding encode
    tagged =
        drop_at (untagged edition ss) (tag_of key (untagged edition ss)) (end_of (encode key edition ss)) (sym end_is)
        ∙ ap (tag_of key) (sym (take_at (untagged edition ss) (tag_of key (untagged edition ss)) (end_of (encode key edition ss)) (sym end_is)))

    pub whole : Whole reader key (encode key edition ss)
    whole =
        let small : total_of ss ≤ 65536 = list.small in
        let few : length ss ≤ 256 = list.few in
        let n : length (encode key edition ss) ≡ total_of ss = length-encode key edition ss in
        let e : edition_of (encode key edition ss) ≡ edition = edition_back in
        let c : count_of (encode key edition ss) ≡ length ss = count_back in
        record {
          keyed = keyed;
          size = record { least = omega arith; most = omega arith; stated = stated_back ∙ sym n };
          tag = tagged;
          formed =
              record {
                edition = omega arith;
                count = omega arith;
                table = omega arith;
                rows =
                    ap₂ (λ (k : ℕ) (rs : List Row). sound_rows reader (encode key edition ss) 0 (first_body k) rs) c rows_back
                    ∙ sound-placed reader (encode key edition ss) 0 (first_body (length ss)) ss tag at_bodies (omega arith) (ap (λ (x : ℕ). good_from x 0 ss) e ∙ list.good);
              };
        }

    -- so its number is 0 or 23
    pub code_is : read_code reader key (encode key edition ss) ≡ unless (all_known reader (placed (first_body (length ss)) ss)) MUST_KNOW DONE
    code_is = whole_code reader key (encode key edition ss) whole ∙ ap (λ (rs : List Row). unless (all_known reader rs) MUST_KNOW DONE) rows_back
