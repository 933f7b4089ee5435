-- What an accepted bundle answers, and how long its text is.
use mathlib.Core.Path.{◌≡◌, refl, sym, ap, ◌∙◌}
use mathlib.Core.Bool.{Bool, true, false, cond, not, ◌||◌, false≢true}
use mathlib.Core.List.{List, [], ◌∷◌}
use Prim.Native.Nat.{ℕ, zero, suc, ◌+◌, ◌*◌, ◌^◌, ◌<◌, ◌≤◌}
use native.Mathlib.Nat.{pow-le-pow_right}
use native.Mathlib.Omega.{arith}
use lib.Dec.{eqb, ltb, lit<}
use lib.ListN.{length, take, drop, length-append, length-take}
use borrow.Author.Tests.{leb-true, ltb-true, ltb-false}
use Rattle.bits.proofs.Truth.{both}
use Rattle.published.specs.Bytes.{from_bytes, Bytes}
use Rattle.published.proofs.Reading.{from_bytes-lt, bytes_take, bytes_drop}
use Rattle.text.specs.Hex.{hex_of}
use Rattle.text.specs.Decimal.{decimal_of}
use Rattle.text.proofs.Lengths.{length-hex_of, number-length}
use Rattle.bundle_format.specs.Format.{knows, good_value, first_body}
use Rattle.bundle_format.specs.Reader.{count_of, edition_of, rows_of, body_at, sound_rows, in_kind, read_code, VALUE, UNKNOWN, ABSENT, bare, tell, tell_in, Answer, value, meant}
use Rattle.bundle_format.specs.declared.Row.{Row}
use Rattle.bundle_format.proofs.Accepted.{accepts}
use Rattle.bundle_format.proofs.Editions.{or_else}
use Rattle.bundle_format.proofs.Decoded.{Sound, sound_only}
use Rattle.differ.specs.Difference.{Line, line_of, listed}
use Rattle.differ.specs.Promises.{answer, In}
use Rattle.differ.proofs.Told_apart.{past_answer}
use Rattle.differ.proofs.Theorems.{listed_differs}
use Rattle.differ_text.specs.Rendered.{plain, escaped_byte, escaped, side_text, line_text}
use Rattle.differ_text.specs.Promises.{Shown, a_value, an_absence, an_unknown}
use Rattle.differ_text.proofs.Sides.{value-meant, unknown-meant, absent_meant}

-- an entry's answer: a good value of a kind that edition 2 has, or unknown
right_kind : (edition kind : ℕ) (body : List ℕ) → in_kind 2 edition kind body ≡ true → not (knows 2 kind) || good_value kind body ≡ true
unfolding in_kind
right_kind edition kind body e = (both (ltb 2 edition || knows edition kind) (not (knows 2 kind) || good_value kind body) e).1

shown-row : (b : List ℕ) (low at : ℕ) (r : Row) (rs : List Row) → Bytes b → Sound 2 b low at r rs → Shown (meant b (tell 2 r))
unfolding tell
shown-row b low at r rs bytes s = go (knows 2 r.kind) refl
  where
    kind : in_kind 2 (edition_of b) r.kind (body_at b r) ≡ true
    kind = s.kind

    good : knows 2 r.kind ≡ true → good_value r.kind (body_at b r) ≡ true
    good known = or_else (not (knows 2 r.kind)) (good_value r.kind (body_at b r)) (right_kind (edition_of b) r.kind (body_at b r) kind) (ap not known)

    go : (k : Bool) → knows 2 r.kind ≡ k → Shown (meant b (cond k (record { state = VALUE; id = r.id; kind = r.kind; at = r.at; len = r.len }) (bare UNKNOWN r.id)))
    go true e = rw (value-meant b (record { state = VALUE; id = r.id; kind = r.kind; at = r.at; len = r.len }) refl) (a_value r.kind (body_at b r) e (good e) (bytes_take r.len (drop r.at b) (bytes_drop r.at b bytes)))
    go false e = rw (unknown-meant b (bare UNKNOWN r.id) refl) an_unknown

shown_in : (b : List ℕ) (low at : ℕ) (rs : List Row) (id : ℕ) → Bytes b → sound_rows 2 b low at rs ≡ true → Shown (meant b (tell_in 2 id rs))
unfolding tell_in
shown_in b low at [] id bytes e = rw (absent_meant b (bare ABSENT 0) refl) an_absence
shown_in b low at (r ∷ rs) id bytes e =
    let s : Sound 2 b low at r rs = sound_only 2 b low at r rs e in
    go (eqb r.id id) (shown-row b low at r rs bytes s) (shown_in b (r.id + 1) (at + r.len) rs id bytes s.rest)
  where
    go : (t : Bool) → Shown (meant b (tell 2 r)) → Shown (meant b (tell_in 2 id rs)) → Shown (meant b (cond t (tell 2 r) (tell_in 2 id rs)))
    go true h k = h
    go false h k = k

-- every answer of an accepted bundle
pub all_shown : (key b : List ℕ) (id : ℕ) → Bytes b → read_code 2 key b ≡ 0 → Shown (answer b id)
all_shown key b id bytes e = shown_in b 0 (first_body (count_of b)) (rows_of b) id bytes (accepts 2 key b e).0.formed.rows

-- ---- how long a text is

escaped_short : (bs : List ℕ) → length (escaped bs) ≤ 4 * length bs
unfolding escaped escaped_byte
escaped_short [] = omega arith
escaped_short (b ∷ bs) = omega (arith, length-append (cond (plain b) (b ∷ []) (92 ∷ 120 ∷ hex_of (b ∷ []))) (escaped bs), one (plain b), escaped_short bs)
  where
    one : (t : Bool) → length (cond t (b ∷ []) (92 ∷ 120 ∷ hex_of (b ∷ []))) ≤ 4
    one true = let l : 1 ≤ 4 = omega arith in l
    one false = let l : suc (suc (length (hex_of (b ∷ [])))) ≤ 4 = omega (arith, length-hex_of (b ∷ [])) in l

decimal_short : (body : List ℕ) → Bytes body → length (decimal_of (from_bytes (take 8 body))) ≤ 20
decimal_short body bytes = number-length (from_bytes (take 8 body)) fits
  where
    fits : from_bytes (take 8 body) < 2 ^ 64
    fits =
        let lt : from_bytes (take 8 body) < 256 ^ length (take 8 body) = from_bytes-lt (take 8 body) (bytes_take 8 body bytes) in
        let most : 256 ^ length (take 8 body) ≤ 256 ^ 8 = pow-le-pow_right (lit< tt) {i = length (take 8 body)} {j = 8} (omega (arith, length-take 8 body)) in
        omega arith

text_short : (body : List ℕ) → good_value 2 body ≡ true → length body ≤ 255
unfolding good_value
text_short body e = leb-true (length body) 255 e

pub no_kind : (k : ℕ) (body : List ℕ) → good_value (suc (suc (suc k))) body ≡ true → ⊥
unfolding good_value
no_kind k body e = false≢true e

pub value_short : (kind : ℕ) (body : List ℕ) → good_value kind body ≡ true → Bytes body → length (side_text (value kind body)) ≤ 1027
unfolding side_text
value_short zero body good bytes = omega (arith, decimal_short body bytes)
value_short (suc zero) body good bytes = omega (arith, decimal_short body bytes)
value_short (suc (suc zero)) body good bytes = omega (arith, length-append (escaped body) (34 ∷ []), escaped_short body, text_short body good)
value_short (suc (suc (suc k))) body good bytes = absurd (no_kind k body good)

side_short : (a : Answer) → Shown a → length (side_text a) ≤ 1027
unfolding side_text
side_short a (a_value kind body known good bytes) = value_short kind body good bytes
side_short a an_absence = omega arith
side_short a an_unknown = omega arith

-- a line that is listed fits its buffer
pub line_short : (key b c : List ℕ) (l : Line) → Bytes b → Bytes c → read_code 2 key b ≡ 0 → read_code 2 key c ≡ 0 → In l (listed key b c) → length (line_text b c l) ≤ 2080
unfolding line_text line_of
line_short key b c l bytes bytes' e f i =
    let p = listed_differs key b c l i in
    let one : meant b l.one ≡ answer b l.id = ap (λ (x : Line). meant b x.one) p.0 in
    let two : meant c l.two ≡ answer c l.id = ap (λ (x : Line). meant c x.two) p.0 in
    let s : length (side_text (meant b l.one)) ≤ 1027 = side_short (meant b l.one) (rw one (all_shown key b l.id bytes e)) in
    let t : length (side_text (meant c l.two)) ≤ 1027 = side_short (meant c l.two) (rw two (all_shown key c l.id bytes' f)) in
    let n : length (decimal_of l.id) ≤ 20 = number-length l.id (small (ltb l.id 4294967296) refl p.1) in
    simp length-append (omega arith)
  where
    small : (t : Bool) → ltb l.id 4294967296 ≡ t → (answer b l.id ≡ answer c l.id → ⊥) → l.id < 2 ^ 64
    small true h apart = omega (arith, ltb-true l.id 4294967296 h)
    small false h apart = absurd (apart (past_answer key b l.id bytes e (ltb-false l.id 4294967296 h) ∙ sym (past_answer key c l.id bytes' f (ltb-false l.id 4294967296 h))))
