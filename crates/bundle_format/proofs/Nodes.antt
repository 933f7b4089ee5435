-- Two readers of the same bytes: what they tell of an id, and what they refuse.
use mathlib.Core.Path.{◌≡◌, refl, sym, ap, ap₂, ◌∙◌}
use mathlib.Core.Bool.{Bool, true, false, cond, not, ◌&&◌, ◌||◌}
use mathlib.Core.Logic.{◌⊎◌, inl, inr}
use mathlib.Core.List.{List, [], ◌∷◌}
use Prim.Native.Nat.{ℕ, ◌+◌, ◌≤◌}
use native.Mathlib.Omega.{arith}
use lib.Dec.{eqb, leb, ltb}
use lib.ListN.{length, take, drop}
use borrow.Author.Tests.{le-ltb, ltb-false}
use Rattle.answers.specs.Numbers.{BAD_KEY_LENGTH, BAD_BUNDLE_LENGTH, BAD_TAG, MALFORMED, MUST_KNOW, DONE}
use Rattle.answers.specs.Order.{unless}
use Rattle.bits.proofs.Truth.{both, together}
use Rattle.cmac.specs.Calls.{same}
use Rattle.bundle_format.specs.Format.{knows, good_value, first_body, tag_of}
use Rattle.bundle_format.specs.Reader.{edition_of, count_of, end_of, rows_of, body_at, right_size, in_place, in_kind, sound_rows, well_formed, all_known, read_code, VALUE, UNKNOWN, ABSENT, bare, tell, tell_in}
use Rattle.bundle_format.specs.declared.Row.{Row}
use Rattle.bundle_format.specs.declared.Told.{Told}
use Rattle.bundle_format.proofs.Accepted.{formed_only, Whole, accepts, whole_code}
use Rattle.bundle_format.proofs.Editions.{known-later, or_else, or_right, kind_only}
use Rattle.bundle_format.proofs.Decoded.{Sound, sound_only}

-- ---- what is told of an id in the same table

valued : Row → Told
valued r = record { state = VALUE; id = r.id; kind = r.kind; at = r.at; len = r.len }

not_value : UNKNOWN ≡ VALUE → ⊥
not_value e = omega arith

not_absent : VALUE ≡ ABSENT → ⊥
not_absent e = omega arith

not_here : UNKNOWN ≡ ABSENT → ⊥
not_here e = omega arith

-- two values are one
pub one_value : (r r' id : ℕ) (rs : List Row) → (tell_in r id rs).state ≡ VALUE → (tell_in r' id rs).state ≡ VALUE → tell_in r id rs ≡ tell_in r' id rs
unfolding tell_in tell valued
one_value r r' id [] e f = refl
one_value r r' id (x ∷ xs) e f = go (eqb x.id id) (knows r x.kind) (knows r' x.kind) (one_value r r' id xs) e f
  where
    go : (t k k' : Bool)
        → ((tell_in r id xs).state ≡ VALUE → (tell_in r' id xs).state ≡ VALUE → tell_in r id xs ≡ tell_in r' id xs)
        → (cond t (cond k (valued x) (bare UNKNOWN x.id)) (tell_in r id xs)).state ≡ VALUE
        → (cond t (cond k' (valued x) (bare UNKNOWN x.id)) (tell_in r' id xs)).state ≡ VALUE
        → cond t (cond k (valued x) (bare UNKNOWN x.id)) (tell_in r id xs) ≡ cond t (cond k' (valued x) (bare UNKNOWN x.id)) (tell_in r' id xs)
    go true true true h e f = refl
    go true true false h e f = absurd (not_value f)
    go true false k' h e f = absurd (not_value e)
    go false k k' h e f = h e f

-- absent for one is absent for the other
pub one_absence : (r r' id : ℕ) (rs : List Row) → (tell_in r id rs).state ≡ ABSENT → tell_in r id rs ≡ tell_in r' id rs
unfolding tell_in tell valued
one_absence r r' id [] e = refl
one_absence r r' id (x ∷ xs) e = go (eqb x.id id) (knows r x.kind) (one_absence r r' id xs) e
  where
    go : (t k : Bool)
        → ((tell_in r id xs).state ≡ ABSENT → tell_in r id xs ≡ tell_in r' id xs)
        → (cond t (cond k (valued x) (bare UNKNOWN x.id)) (tell_in r id xs)).state ≡ ABSENT
        → cond t (cond k (valued x) (bare UNKNOWN x.id)) (tell_in r id xs) ≡ cond t (tell r' x) (tell_in r' id xs)
    go true true h e = absurd (not_absent e)
    go true false h e = absurd (not_here e)
    go false k h e = h e

-- ---- a bundle of an edition that both readers know

-- what is right in kind for them is what the edition says
own_kind : (reader edition kind : ℕ) (body : List ℕ) → edition ≤ reader → in_kind reader edition kind body ≡ (knows edition kind && good_value kind body)
unfolding in_kind
own_kind reader edition kind body h =
    ap (λ (t : Bool). (t || knows edition kind) && (not (knows reader kind) || good_value kind body)) (le-ltb reader edition h) ∙ go (knows edition kind) refl
  where
    go : (t : Bool) → knows edition kind ≡ t → (t && (not (knows reader kind) || good_value kind body)) ≡ (t && good_value kind body)
    go true e = ap (λ (k : Bool). not k || good_value kind body) (known-later edition reader kind h e)
    go false e = refl

same_sound : (r r' : ℕ) (b : List ℕ) (low at : ℕ) (rs : List Row) → edition_of b ≤ r → edition_of b ≤ r' → sound_rows r b low at rs ≡ sound_rows r' b low at rs
unfolding sound_rows
same_sound r r' b low at [] h h' = refl
same_sound r r' b low at (x ∷ xs) h h' =
    ap₂ (λ (k t : Bool). in_place (end_of b) low at x && k && t)
    (own_kind r (edition_of b) x.kind (body_at b x) h ∙ sym (own_kind r' (edition_of b) x.kind (body_at b x) h'))
    (same_sound r r' b (x.id + 1) (at + x.len) xs h h')

knows-kind : (reader : ℕ) (b : List ℕ) (low at : ℕ) (x : Row) (xs : List Row) (later : ℕ) → edition_of b ≤ reader → edition_of b ≤ later → Sound reader b low at x xs
    → knows later x.kind ≡ true
knows-kind reader b low at x xs later h h' s =
    known-later (edition_of b) later x.kind h' (kind_only reader (edition_of b) x.kind (body_at b x) h s.kind).0

-- they know all of it
all_known_lem : (reader : ℕ) (b : List ℕ) (low at : ℕ) (rs : List Row) → edition_of b ≤ reader → sound_rows reader b low at rs ≡ true → all_known reader rs ≡ true
unfolding all_known
all_known_lem reader b low at [] h e = refl
all_known_lem reader b low at (x ∷ xs) h e =
    let s : Sound reader b low at x xs = sound_only reader b low at x xs e in
    together (not (eqb x.must 1) || knows reader x.kind) (all_known reader xs)
    (or_right (not (eqb x.must 1)) (knows reader x.kind) (knows-kind reader b low at x xs reader h h s))
    (all_known_lem reader b (x.id + 1) (at + x.len) xs h s.rest)

-- and tell the same
pub same_told : (r r' id : ℕ) (b : List ℕ) (low at : ℕ) (rs : List Row) → edition_of b ≤ r → edition_of b ≤ r' → sound_rows r b low at rs ≡ true → tell_in r id rs ≡ tell_in r' id rs
unfolding tell_in tell valued
same_told r r' id b low at [] h h' e = refl
same_told r r' id b low at (x ∷ xs) h h' e =
    let s : Sound r b low at x xs = sound_only r b low at x xs e in
    let k : knows r x.kind ≡ true = knows-kind r b low at x xs r h h s in
    let k' : knows r' x.kind ≡ true = knows-kind r b low at x xs r' h h' s in
    ap₂ (λ (k : Bool) (t : Told). cond (eqb x.id id) (cond k (valued x) (bare UNKNOWN x.id)) t)
    (k ∙ sym k')
    (same_told r r' id b (x.id + 1) (at + x.len) xs h h' s.rest)

same_formed : (r r' : ℕ) (b : List ℕ) → edition_of b ≤ r → edition_of b ≤ r' → well_formed r b ≡ well_formed r' b
unfolding well_formed
same_formed r r' b h h' =
    ap (λ (t : Bool). leb 1 (edition_of b) && leb (count_of b) 256 && leb (first_body (count_of b)) (end_of b) && t)
    (same_sound r r' b 0 (first_body (count_of b)) (rows_of b) h h')

only_formed : (reader : ℕ) (key b : List ℕ) → edition_of b ≤ reader
    → unless (well_formed reader b) MALFORMED (unless (all_known reader (rows_of b)) MUST_KNOW DONE) ≡ unless (well_formed reader b) MALFORMED DONE
only_formed reader key b h = go (well_formed reader b) refl
  where
    go : (t : Bool) → well_formed reader b ≡ t → unless t MALFORMED (unless (all_known reader (rows_of b)) MUST_KNOW DONE) ≡ unless t MALFORMED DONE
    go true e = ap (λ (k : Bool). unless k MUST_KNOW DONE) (all_known_lem reader b 0 (first_body (count_of b)) (rows_of b) h (formed_only reader b e).rows)
    go false e = refl

pub same_code : (r r' : ℕ) (key b : List ℕ) → edition_of b ≤ r → edition_of b ≤ r' → read_code r key b ≡ read_code r' key b
unfolding read_code
same_code r r' key b h h' =
    ap
    (λ (n : ℕ).
    unless (eqb (length key) 16) BAD_KEY_LENGTH
    (unless (right_size b) BAD_BUNDLE_LENGTH (unless (same (drop (end_of b) b) (tag_of key (take (end_of b) b))) BAD_TAG n)))
    (only_formed r key b h ∙ ap (λ (t : Bool). unless t MALFORMED DONE) (same_formed r r' b h h') ∙ sym (only_formed r' key b h'))

-- ---- an earlier reader and a later one, on any bundle

earlier-kind : (r r' edition kind : ℕ) (body : List ℕ) → r ≤ r' → in_kind r' edition kind body ≡ true → in_kind r edition kind body ≡ true
unfolding in_kind
earlier-kind r r' edition kind body h e =
    let p = both (ltb r' edition || knows edition kind) (not (knows r' kind) || good_value kind body) e in
    together (ltb r edition || knows edition kind) (not (knows r kind) || good_value kind body) (own p.0 (ltb r edition) refl) (good p.1 (knows r kind) refl)
  where
    own : ltb r' edition || knows edition kind ≡ true → (t : Bool) → ltb r edition ≡ t → t || knows edition kind ≡ true
    own q true f = refl
    own q false f =
        let g : edition ≤ r = ltb-false r edition f in
        or_else (ltb r' edition) (knows edition kind) q (le-ltb r' edition (omega arith))

    good : not (knows r' kind) || good_value kind body ≡ true → (t : Bool) → knows r kind ≡ t → not t || good_value kind body ≡ true
    good q true f = or_else (not (knows r' kind)) (good_value kind body) q (ap not (known-later r r' kind h f))
    good q false f = refl

earlier-sound : (r r' : ℕ) (b : List ℕ) (low at : ℕ) (rs : List Row) → r ≤ r' → sound_rows r' b low at rs ≡ true → sound_rows r b low at rs ≡ true
unfolding sound_rows
earlier-sound r r' b low at [] h e = e
earlier-sound r r' b low at (x ∷ xs) h e =
    let p = both (in_place (end_of b) low at x && in_kind r' (edition_of b) x.kind (body_at b x)) (sound_rows r' b (x.id + 1) (at + x.len) xs) e in
    let q = both (in_place (end_of b) low at x) (in_kind r' (edition_of b) x.kind (body_at b x)) p.0 in
    together (in_place (end_of b) low at x && in_kind r (edition_of b) x.kind (body_at b x)) (sound_rows r b (x.id + 1) (at + x.len) xs)
    (together (in_place (end_of b) low at x) (in_kind r (edition_of b) x.kind (body_at b x)) q.0 (earlier-kind r r' (edition_of b) x.kind (body_at b x) h q.1))
    (earlier-sound r r' b (x.id + 1) (at + x.len) xs h p.1)

-- what the later one accepts, the earlier one accepts or refuses with 23
pub earlier-code : (r r' : ℕ) (key b : List ℕ) → r ≤ r' → read_code r' key b ≡ 0 → (read_code r key b ≡ DONE) ⊎ (read_code r key b ≡ MUST_KNOW)
earlier-code r r' key b h e = go (all_known r (rows_of b)) refl
  where
    later : Whole r' key b
    later = (accepts r' key b e).0

    earlier : Whole r key b
    earlier =
        record {
          keyed = later.keyed;
          size = later.size;
          tag = later.tag;
          formed =
              record {
                edition = later.formed.edition;
                count = later.formed.count;
                table = later.formed.table;
                rows = earlier-sound r r' b 0 (first_body (count_of b)) (rows_of b) h later.formed.rows;
              };
        }

    go : (t : Bool) → all_known r (rows_of b) ≡ t → (read_code r key b ≡ DONE) ⊎ (read_code r key b ≡ MUST_KNOW)
    go true f = inl (whole_code r key b earlier ∙ ap (λ (k : Bool). unless k MUST_KNOW DONE) f)
    go false f = inr (whole_code r key b earlier ∙ ap (λ (k : Bool). unless k MUST_KNOW DONE) f)
