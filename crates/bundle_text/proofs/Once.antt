-- A list is read back from its text in one way only, and so is a bundle from what a node sees of it.
use mathlib.Core.Path.{◌≡◌, refl, sym, ap, ap₂, ◌∙◌}
use mathlib.Core.Bool.{Bool, true, cond}
use mathlib.Core.List.{List, [], ◌∷◌, ◌++◌, append_assoc, map}
use Prim.Native.Nat.{ℕ, zero, suc, ◌+◌, ◌≤◌}
use native.Mathlib.Omega.{arith}
use lib.ListN.{length, drop, get_or, length-append}
use Rattle.published.specs.Bytes.{Bytes}
use Rattle.published.proofs.Reading.{bytes_take, bytes_drop}
use Rattle.text.specs.Decimal.{decimal_of}
use Rattle.bundle_format.specs.Format.{knows, good_value, Setting, encode, first_body}
use Rattle.bundle_format.specs.Reader.{edition_of, count_of, rows_of, body_at, sound_rows, read_code, tell, VALUE, UNKNOWN, bare, Answer, value, absent, unknown, refused, meant, setting_of, settings_of}
use Rattle.bundle_format.specs.declared.Row.{Row}
use Rattle.bundle_format.proofs.Accepted.{accepts}
use Rattle.bundle_format.proofs.Editions.{known-later, kind_only}
use Rattle.bundle_format.proofs.Decoded.{Sound, sound_only}
use Rattle.bundle_format.proofs.Theorems.{accepted_is}
use Rattle.differ_text.specs.Rendered.{side_text}
use Rattle.differ_text.proofs.Sides.{value-meant}
use Rattle.differ_text.proofs.Apart.{decimal_first, values_first}
use Rattle.bundle_text.specs.Seen.{must_text, setting_line, list_text, row_line, row_lines, head_words, node_words, sees_words, head_line, seen_text}
use Rattle.bundle_text.specs.Promises.{Fair, AllFair, none, more}

-- ---- a line

kind_of : Answer → ℕ
kind_of (value kind body) = kind
kind_of absent = 0
kind_of unknown = 0
kind_of refused = 0

body_of : Answer → List ℕ
body_of (value kind body) = body
body_of absent = []
body_of unknown = []
body_of refused = []

-- its parts one after the other
shaped : (id : ℕ) (a : Answer) (must : ℕ) (s : List ℕ) → setting_line id a must ++ s ≡ decimal_of id ++ 32 ∷ (side_text a ++ (must_text must ++ 10 ∷ s))
unfolding setting_line
shaped id a must s = simp append_assoc

must_only : (m n : ℕ) (s t : List ℕ) → m ≤ 1 → n ≤ 1 → must_text m ++ 10 ∷ s ≡ must_text n ++ 10 ∷ t → (m ≡ n) × (s ≡ t)
unfolding must_text
must_only zero zero s t h k e = (refl, ap (drop 1) e)
must_only zero (suc zero) s t h k e = let z : ◌≡◌ {A = ℕ} 10 32 = ap (λ (l : List ℕ). get_or l 0 0) e in absurd (omega arith)
must_only (suc zero) zero s t h k e = let z : ◌≡◌ {A = ℕ} 32 10 = ap (λ (l : List ℕ). get_or l 0 0) e in absurd (omega arith)
must_only (suc zero) (suc zero) s t h k e = (refl, ap (drop 11) e)
must_only (suc (suc m)) n s t h k e = absurd (omega arith)
must_only zero (suc (suc n)) s t h k e = absurd (omega arith)
must_only (suc zero) (suc (suc n)) s t h k e = absurd (omega arith)

-- what comes after a value is no digit
value_then : (k : ℕ) (x : List ℕ) (n : ℕ) (y : List ℕ) (m p : ℕ) (s t : List ℕ) → good_value k x ≡ true → good_value n y ≡ true → Bytes x → Bytes y → m ≤ 1 → p ≤ 1
    → side_text (value k x) ++ (must_text m ++ 10 ∷ s) ≡ side_text (value n y) ++ (must_text p ++ 10 ∷ t) → (value k x ≡ value n y) × (must_text m ++ 10 ∷ s ≡ must_text p ++ 10 ∷ t)
unfolding must_text
value_then k x n y zero zero s t g g' bx by h h' e = values_first 10 10 (omega arith) (omega arith) _ _ k x n y g g' bx by e
value_then k x n y zero (suc zero) s t g g' bx by h h' e = values_first 10 32 (omega arith) (omega arith) _ _ k x n y g g' bx by e
value_then k x n y (suc zero) zero s t g g' bx by h h' e = values_first 32 10 (omega arith) (omega arith) _ _ k x n y g g' bx by e
value_then k x n y (suc zero) (suc zero) s t g g' bx by h h' e = values_first 32 32 (omega arith) (omega arith) _ _ k x n y g g' bx by e
value_then k x n y (suc (suc m)) p s t g g' bx by h h' e = absurd (omega arith)
value_then k x n y zero (suc (suc p)) s t g g' bx by h h' e = absurd (omega arith)
value_then k x n y (suc zero) (suc (suc p)) s t g g' bx by h h' e = absurd (omega arith)

-- ---- a list

line_first : (x y : Setting) (s t : List ℕ) → Fair x → Fair y
    → setting_line x.id (value x.kind x.body) x.must ++ s ≡ setting_line y.id (value y.kind y.body) y.must ++ t → (x ≡ y) × (s ≡ t)
unfolding kind_of body_of
line_first x y s t f g e =
    let p = decimal_first 32 32 x.id y.id _ _ (λ d h i. omega arith) (λ d h i. omega arith) (sym (shaped x.id _ x.must s) ∙ e ∙ shaped y.id _ y.must t) in
    let q = value_then x.kind x.body y.kind y.body x.must y.must s t f.valued g.valued f.bytes g.bytes f.flag g.flag (ap (drop 1) p.1) in
    let r = must_only x.must y.must s t f.flag g.flag q.1 in
    (λ i. record { id = p.0 i; kind = ap kind_of q.0 i; must = r.0 i; body = ap body_of q.0 i }, r.1)

-- a line is not empty
some_line : (id : ℕ) (a : Answer) (must : ℕ) (s : List ℕ) → setting_line id a must ++ s ≡ [] → ⊥
some_line id a must s e =
    let l : length (decimal_of id ++ 32 ∷ (side_text a ++ (must_text must ++ 10 ∷ s))) ≡ 0 = ap length (sym (shaped id a must s) ∙ e) in
    omega (arith, length-append (decimal_of id) (32 ∷ (side_text a ++ (must_text must ++ 10 ∷ s))))

-- two lists with one text are one list
pub list_only : (ss ts : List Setting) → AllFair ss → AllFair ts → list_text ss ≡ list_text ts → ss ≡ ts
unfolding list_text
list_only [] [] f g e = refl
list_only [] (y ∷ ts) f g e = absurd (some_line y.id _ y.must (list_text ts) (sym e))
list_only (x ∷ ss) [] f g e = absurd (some_line x.id _ x.must (list_text ss) e)
list_only (x ∷ ss) (y ∷ ts) (more f fs) (more g gs) e =
    let p = line_first x y (list_text ss) (list_text ts) f g e in
    ap₂ ◌∷◌ p.0 (list_only ss ts fs gs p.1)

-- ---- a bundle

-- of an edition that the reader has, all is seen: the lines are those of the bundle's own list
module _ (reader : ℕ) (b : List ℕ) (known : edition_of b ≤ reader) (bytes : Bytes b) where
  fair_rows : (low at : ℕ) (rs : List Row) → sound_rows reader b low at rs ≡ true → AllFair (map (setting_of b) rs)
  unfolding setting_of
  fair_rows low at [] e = none
  fair_rows low at (r ∷ rs) e =
      let s : Sound reader b low at r rs = sound_only reader b low at r rs e in
      let k = kind_only reader (edition_of b) r.kind (body_at b r) known s.kind in
      more (record { valued = k.1; flag = s.stands.flag; bytes = bytes_take r.len (drop r.at b) (bytes_drop r.at b bytes) }) (fair_rows (r.id + 1) (at + r.len) rs s.rest)

  seen_value : (r : Row) → knows reader r.kind ≡ true → meant b (tell reader r) ≡ value r.kind (body_at b r)
  unfolding tell
  seen_value r k =
      ap (λ (t : Bool). meant b (cond t (record { state = VALUE; id = r.id; kind = r.kind; at = r.at; len = r.len }) (bare UNKNOWN r.id))) k
      ∙ value-meant b (record { state = VALUE; id = r.id; kind = r.kind; at = r.at; len = r.len }) refl

  row-lines : (low at : ℕ) (rs : List Row) → sound_rows reader b low at rs ≡ true → row_lines reader b rs ≡ list_text (map (setting_of b) rs)
  unfolding row_lines row_line list_text setting_of
  row-lines low at [] e = refl
  row-lines low at (r ∷ rs) e =
      let s : Sound reader b low at r rs = sound_only reader b low at r rs e in
      let k = kind_only reader (edition_of b) r.kind (body_at b r) known s.kind in
      ap₂ ◌++◌ (ap (λ (a : Answer). setting_line r.id a r.must) (seen_value r (known-later (edition_of b) reader r.kind known k.0))) (row-lines (r.id + 1) (at + r.len) rs s.rest)

  -- what a node sees of a bundle that it accepts is the text of the bundle's list
  module _ (key : List ℕ) (e : read_code reader key b ≡ 0) where
    rows : sound_rows reader b 0 (first_body (count_of b)) (rows_of b) ≡ true
    rows = (accepts reader key b e).0.formed.rows

    pub all_seen : seen_text reader b ≡ head_line (edition_of b) reader ++ list_text (settings_of b)
    unfolding seen_text
    all_seen = ap (λ (l : List ℕ). head_line (edition_of b) reader ++ l) (row-lines 0 (first_body (count_of b)) (rows_of b) rows)

    all_fair : AllFair (settings_of b)
    all_fair = fair_rows 0 (first_body (count_of b)) (rows_of b) rows

head_shaped : (e reader : ℕ) (s : List ℕ) → head_line e reader ++ s ≡ head_words ++ (decimal_of e ++ (node_words ++ (decimal_of reader ++ (sees_words ++ s))))
unfolding head_line
head_shaped e reader s = simp append_assoc

head_first : (e f reader : ℕ) (s t : List ℕ) → head_line e reader ++ s ≡ head_line f reader ++ t → (e ≡ f) × (s ≡ t)
head_first e f reader s t same =
    let p = decimal_first 44 44 e f _ _ (λ d h i. omega arith) (λ d h i. omega arith) (ap (drop 22) (sym (head_shaped e reader s) ∙ same ∙ head_shaped f reader t)) in
    let q = decimal_first 32 32 reader reader _ _ (λ d h i. omega arith) (λ d h i. omega arith) (ap (drop 23) p.1) in
    (p.0, ap (drop 9) q.1)

-- two bundles by one key, of editions that the reader has: if they are seen alike, they are the same bytes
pub seen_only : (reader : ℕ) (key b c : List ℕ) → Bytes b → Bytes c → read_code reader key b ≡ 0 → read_code reader key c ≡ 0 → edition_of b ≤ reader → edition_of c ≤ reader
    → seen_text reader b ≡ seen_text reader c → b ≡ c
seen_only reader key b c bytes bytes' e f h k same =
    let p = head_first (edition_of b) (edition_of c) reader (list_text (settings_of b)) (list_text (settings_of c)) (sym (all_seen reader b h bytes key e) ∙ same ∙ all_seen reader c k bytes' key f) in
    let list : settings_of b ≡ settings_of c = list_only (settings_of b) (settings_of c) (all_fair reader b h bytes key e) (all_fair reader c k bytes' key f) p.1 in
    accepted_is reader key b bytes e ∙ ap₂ (encode key) p.0 list ∙ sym (accepted_is reader key c bytes' f)
