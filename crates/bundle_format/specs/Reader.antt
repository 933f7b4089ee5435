-- What a reader of an edition finds in any bytes: entries and bodies are cut out first, whoever reads; then they are judged, in the order of the refusals; then ids are answered.
use Rattle.std.specs.Prelude.{Bool, true, cond, not, ◌&&◌, ◌||◌, List, [], ◌∷◌, map, ℕ, zero, suc, ◌+◌, ◌-◌, eqb, leb, ltb, length, take, drop}
use Rattle.answers.specs.Numbers.{DONE, BAD_KEY_LENGTH, BAD_BUNDLE_LENGTH, BAD_TAG, MALFORMED, MUST_KNOW}
use Rattle.answers.specs.Order.{unless}
use Rattle.answers.specs.Outcome.{Gives}
use Rattle.published.specs.Bytes.{from_bytes}
use Rattle.cmac.specs.Calls.{same}
use Rattle.bundle_format.specs.Format.{knows, good_value, Setting, first_body, tag_of}
use Rattle.bundle_format.specs.declared.Row.{Row}
use Rattle.bundle_format.specs.declared.Told.{Told}
use Rattle.bundle_format.specs.declared.Opened.{Opened}

-- ---- cut

-- the number of k bytes at a place
unfoldable pub number_at : (k at : ℕ) → List ℕ → ℕ
number_at k at b = from_bytes (take k (drop at b))

abbrev pub edition_of : List ℕ → ℕ
edition_of b = number_at 2 0 b

abbrev pub count_of : List ℕ → ℕ
count_of b = number_at 2 2 b

abbrev pub stated_of : List ℕ → ℕ
stated_of b = number_at 4 4 b

-- where the tag begins
abbrev pub end_of : List ℕ → ℕ
end_of b = length b - 16

-- the entry that some bytes begin with, and the first n
unfoldable pub row_of : List ℕ → Row
row_of t = record { id = number_at 4 0 t; at = number_at 4 4 t; len = number_at 2 8 t; kind = number_at 1 10 t; must = number_at 1 11 t }

unfoldable pub rows_from : (n : ℕ) → List ℕ → List Row
rows_from zero t = []
rows_from (suc n) t = row_of t ∷ rows_from n (drop 12 t)

abbrev pub rows_of : List ℕ → List Row
rows_of b = rows_from (count_of b) (drop 8 b)

abbrev pub body_at : List ℕ → Row → List ℕ
body_at b r = take r.len (drop r.at b)

-- ---- judged

-- 20: under 24 bytes, over 65,536, or total length not the buffer's
unfoldable pub right_size : List ℕ → Bool
right_size b = leb 24 (length b) && leb (length b) 65536 && eqb (stated_of b) (length b)

-- an entry in its place: id `low` at least, the body at `at` and before the tag, must-know 0 or 1
unfoldable pub in_place : (end low at : ℕ) → Row → Bool
in_place end low at r = leb low r.id && eqb r.at at && leb (at + r.len) end && leb r.must 1

-- a kind that the bundle's own edition lacks is malformed if that edition is the reader's or an earlier one; so is a known kind with a wrong length or value
unfoldable pub in_kind : (reader edition : ℕ) (kind : ℕ) (body : List ℕ) → Bool
in_kind reader edition kind body = (ltb reader edition || knows edition kind) && (not (knows reader kind) || good_value kind body)

-- all entries, ids strictly rising, the bodies without gaps, the last one ending where the tag begins
unfoldable pub sound_rows : (reader : ℕ) (b : List ℕ) (low at : ℕ) → List Row → Bool
sound_rows reader b low at [] = eqb at (end_of b)
sound_rows reader b low at (r ∷ rs) =
    in_place (end_of b) low at r && in_kind reader (edition_of b) r.kind (body_at b r) && sound_rows reader b (r.id + 1) (at + r.len) rs

-- 22: malformed
unfoldable pub well_formed : (reader : ℕ) → List ℕ → Bool
well_formed reader b =
    leb 1 (edition_of b) && leb (count_of b) 256 && leb (first_body (count_of b)) (end_of b) && sound_rows reader b 0 (first_body (count_of b)) (rows_of b)

-- 23: must-know 1, of a kind that the reader's edition lacks
unfoldable pub all_known : (reader : ℕ) → List Row → Bool
all_known reader [] = true
all_known reader (r ∷ rs) = (not (eqb r.must 1) || knows reader r.kind) && all_known reader rs

-- the reader's number: 1, 20, 21, 22, 23
unfoldable pub read_code : (reader : ℕ) (key b : List ℕ) → ℕ
read_code reader key b =
    unless (eqb (length key) 16) BAD_KEY_LENGTH
    (unless (right_size b) BAD_BUNDLE_LENGTH
    (unless (same (drop (end_of b) b) (tag_of key (take (end_of b) b))) BAD_TAG
    (unless (well_formed reader b) MALFORMED
    (unless (all_known reader (rows_of b)) MUST_KNOW DONE))))

-- ---- answered

-- the states by name: src/lib.rt has them as an enum
abbrev pub REFUSED : ℕ
REFUSED = 0

abbrev pub ABSENT : ℕ
ABSENT = 1

abbrev pub UNKNOWN : ℕ
UNKNOWN = 2

abbrev pub VALUE : ℕ
VALUE = 3

-- nothing but a state
abbrev pub bare : (state id : ℕ) → Told
bare state id = record { state = state; id = id; kind = 0; at = 0; len = 0 }

-- of an entry: a value, with its kind and place, or unknown
unfoldable pub tell : (reader : ℕ) → Row → Told
tell reader r = cond (knows reader r.kind) (record { state = VALUE; id = r.id; kind = r.kind; at = r.at; len = r.len }) (bare UNKNOWN r.id)

-- of an id: what its entry tells, or absent
unfoldable pub tell_in : (reader id : ℕ) → List Row → Told
tell_in reader id [] = bare ABSENT 0
tell_in reader id (r ∷ rs) = cond (eqb r.id id) (tell reader r) (tell_in reader id rs)

-- of the entry at a place in the table's order; past the last one, absent
unfoldable pub tell_at : (reader i : ℕ) → List Row → Told
tell_at reader i [] = bare ABSENT 0
tell_at reader zero (r ∷ rs) = tell reader r
tell_at reader (suc i) (r ∷ rs) = tell_at reader i rs

-- ---- the promises

-- one id of a bundle; a refused bundle answers no id
abbrev pub Asks : (reader : ℕ) (key b : List ℕ) (id : ℕ) → ℕ → Told → Type 0
Asks reader key b id = Gives (read_code reader key b) (tell_in reader id (rows_of b)) (bare REFUSED 0)

-- a bundle looked through once; what was refused has no entries and no bytes
unfoldable pub opened : (reader : ℕ) (key b : List ℕ) → Opened
opened reader key b =
    cond (eqb (read_code reader key b) 0)
    (record { code = 0; reader = reader; count = count_of b; size = length b })
    (record { code = read_code reader key b; reader = reader; count = 0; size = 0 })

-- whether it answers for these bytes: it was not refused, and they are as many
unfoldable pub answers_for : Opened → List ℕ → Bool
answers_for o b = eqb o.code 0 && eqb o.size (length b) && leb (first_body o.count) (length b)

-- then one id, or the entry at a place
unfoldable pub looked_up : Opened → (b : List ℕ) (id : ℕ) → Told
looked_up o b id = cond (answers_for o b) (tell_in o.reader id (rows_from o.count (drop 8 b))) (bare REFUSED 0)

unfoldable pub entry_of : Opened → (b : List ℕ) (i : ℕ) → Told
entry_of o b i = cond (answers_for o b) (tell_at o.reader i (rows_from o.count (drop 8 b))) (bare REFUSED 0)

-- ---- what it means

-- a value is its kind and body
pub data Answer : Type 0 where
  value : (kind : ℕ) (body : List ℕ) → Answer
  absent unknown refused : Answer

-- what is told of a bundle's setting, with the body in the place of where it lies
unfoldable pub meant : (b : List ℕ) → Told → Answer
meant b t =
    cond (eqb t.state VALUE) (value t.kind (take t.len (drop t.at b)))
    (cond (eqb t.state UNKNOWN) unknown (cond (eqb t.state ABSENT) absent refused))

-- what a reader says of an id in a list of settings
unfoldable pub answer_in : (reader id : ℕ) → List Setting → Answer
answer_in reader id [] = absent
answer_in reader id (s ∷ ss) = cond (eqb s.id id) (cond (knows reader s.kind) (value s.kind s.body) unknown) (answer_in reader id ss)

-- what a list itself has of it
unfoldable pub held : (id : ℕ) → List Setting → Answer
held id [] = absent
held id (s ∷ ss) = cond (eqb s.id id) (value s.kind s.body) (held id ss)

-- the settings that some bytes have
unfoldable pub setting_of : List ℕ → Row → Setting
setting_of b r = record { id = r.id; kind = r.kind; must = r.must; body = body_at b r }

abbrev pub settings_of : List ℕ → List Setting
settings_of b = map (setting_of b) (rows_of b)
