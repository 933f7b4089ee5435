-- A list of settings, and the bundle that it is in an edition and by a key, in the request's order. All numbers are big-endian.
use Rattle.std.specs.Prelude.{Bool, true, false, ◌&&◌, List, [], ◌∷◌, ◌++◌, ℕ, zero, suc, ◌+◌, ◌*◌, ◌^◌, eqb, leb, ltb, length, get_or}
use Rattle.published.specs.Bytes.{to_bytes}
use Rattle.published.specs.Gift128.{encrypted}
use Rattle.cmac_parts.specs.Standard.{cmac}
use Rattle.bundle_format.specs.declared.Row.{Row}

-- ---- kinds

-- Edition 1 has kinds 0 and 1; edition 2 adds kind 2. How many kinds an edition has: a third edition is a line here.
unfoldable pub kinds : (edition : ℕ) → ℕ
kinds zero = 0
kinds (suc zero) = 2
kinds (suc (suc edition)) = 3

abbrev pub knows : (edition kind : ℕ) → Bool
knows edition kind = ltb kind (kinds edition)

-- Kind 0 is one byte, 0 or 1; kind 1 an 8-byte number; kind 2 text of 0 to 255 bytes of any value.
unfoldable pub good_value : (kind : ℕ) (body : List ℕ) → Bool
good_value zero body = eqb (length body) 1 && leb (get_or body 0 0) 1
good_value (suc zero) body = eqb (length body) 8
good_value (suc (suc zero)) body = leb (length body) 255
good_value (suc (suc (suc kind))) body = false

-- ---- a list of settings

pub record Setting : Type 0 where
  pub id : ℕ
  pub kind : ℕ
  pub must : ℕ
  pub body : List ℕ

-- a setting that an edition has, whose id is `low` at least and fits its four bytes
unfoldable pub good_setting : (edition low : ℕ) → Setting → Bool
good_setting edition low s =
    leb low s.id && ltb s.id (2 ^ 32) && knows edition s.kind && good_value s.kind s.body && leb s.must 1

-- ids rise strictly
unfoldable pub good_from : (edition low : ℕ) → List Setting → Bool
good_from edition low [] = true
good_from edition low (s ∷ ss) = good_setting edition low s && good_from edition (s.id + 1) ss

-- ---- the bytes

-- Header: edition (2 bytes), entry count (2), total length (4).
unfoldable pub header : (edition count total : ℕ) → List ℕ
header edition count total = to_bytes 2 edition ++ to_bytes 2 count ++ to_bytes 4 total

-- An entry of the table, 12 bytes: setting id (4), offset (4), length (2), kind (1), must-know (1).
unfoldable pub row_bytes : Row → List ℕ
row_bytes r = to_bytes 4 r.id ++ to_bytes 4 r.at ++ to_bytes 2 r.len ++ to_bytes 1 r.kind ++ to_bytes 1 r.must

unfoldable pub table_of : List Row → List ℕ
table_of [] = []
table_of (r ∷ rs) = row_bytes r ++ table_of rs

-- The bodies in table order without gaps, the first at 8 + 12n.
abbrev pub first_body : (count : ℕ) → ℕ
first_body count = 8 + 12 * count

abbrev pub row_for : (at : ℕ) → Setting → Row
row_for at s = record { id = s.id; at = at; len = length s.body; kind = s.kind; must = s.must }

unfoldable pub placed : (at : ℕ) → List Setting → List Row
placed at [] = []
placed at (s ∷ ss) = row_for at s ∷ placed (at + length s.body) ss

unfoldable pub bodies : List Setting → List ℕ
bodies [] = []
bodies (s ∷ ss) = s.body ++ bodies ss

abbrev pub total_of : List Setting → ℕ
total_of ss = first_body (length ss) + length (bodies ss) + 16

unfoldable pub untagged : (edition : ℕ) → List Setting → List ℕ
untagged edition ss = header edition (length ss) (total_of ss) ++ table_of (placed (first_body (length ss)) ss) ++ bodies ss

-- Then 16 bytes of CMAC over all before.
unfoldable pub tag_of : (key message : List ℕ) → List ℕ
tag_of key message = cmac (encrypted key) message

unfoldable pub encode : (key : List ℕ) (edition : ℕ) → List Setting → List ℕ
encode key edition ss = untagged edition ss ++ tag_of key (untagged edition ss)

-- what one bundle of an edition can hold: 0 to 256 settings of that edition, ids strictly rising, at most 65,536 bytes in all
unfoldable pub good_list : (edition : ℕ) → List Setting → Bool
good_list edition ss = leb (length ss) 256 && good_from edition 0 ss && leb (total_of ss) 65536
