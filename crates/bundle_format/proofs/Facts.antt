-- Worked facts of the definitions, computed: the bundle of docs/BUNDLE.md but for its tag, and what each edition's reader makes of it.
use mathlib.Core.Path.{◌≡◌, refl}
use mathlib.Core.Bool.{true, false}
use mathlib.Core.List.{List, [], ◌∷◌, ◌++◌}
use Prim.Native.Nat.{ℕ}
use lib.ListN.{replicate}
use Rattle.bits.specs.Digit.{digit}
use Rattle.published.specs.Bytes.{from_bytes, to_bytes}
use Rattle.bundle_format.specs.Format.{kinds, good_value, Setting, good_setting, good_from, header, row_bytes, table_of, placed, bodies, untagged, good_list}
use Rattle.bundle_format.specs.Reader.{number_at, row_of, rows_from, rows_of, in_place, in_kind, sound_rows, well_formed, all_known, tell, tell_in, value, absent, unknown, meant}

-- a flag that is on, the number 1,000, and the text "hello", which need not be known
abbrev settings : List Setting
settings =
    record { id = 1; kind = 0; must = 1; body = 1 ∷ [] }
    ∷ record { id = 7; kind = 1; must = 1; body = 0 ∷ 0 ∷ 0 ∷ 0 ∷ 0 ∷ 0 ∷ 3 ∷ 0xe8 ∷ [] }
    ∷ record { id = 20; kind = 2; must = 0; body = 0x68 ∷ 0x65 ∷ 0x6c ∷ 0x6c ∷ 0x6f ∷ [] }
    ∷ []

abbrev message : List ℕ
message =
    0 ∷ 2 ∷ 0 ∷ 3 ∷ 0 ∷ 0 ∷ 0 ∷ 74
    ∷ 0 ∷ 0 ∷ 0 ∷ 1 ∷ 0 ∷ 0 ∷ 0 ∷ 44 ∷ 0 ∷ 1 ∷ 0 ∷ 1
    ∷ 0 ∷ 0 ∷ 0 ∷ 7 ∷ 0 ∷ 0 ∷ 0 ∷ 45 ∷ 0 ∷ 8 ∷ 1 ∷ 1
    ∷ 0 ∷ 0 ∷ 0 ∷ 20 ∷ 0 ∷ 0 ∷ 0 ∷ 53 ∷ 0 ∷ 5 ∷ 2 ∷ 0
    ∷ 1 ∷ 0 ∷ 0 ∷ 0 ∷ 0 ∷ 0 ∷ 0 ∷ 3 ∷ 0xe8 ∷ 0x68 ∷ 0x65 ∷ 0x6c ∷ 0x6c ∷ 0x6f ∷ []

pub encoded : untagged 2 settings ≡ message
unfolding untagged header table_of row_bytes placed bodies to_bytes digit
encoded = refl

pub good_in_2 : good_list 2 settings ≡ true
unfolding good_list good_from good_setting good_value kinds bodies
good_in_2 = refl

pub not_in_1 : good_list 1 settings ≡ false
unfolding good_list good_from good_setting good_value kinds bodies
not_in_1 = refl

-- any sixteen bytes for the tag: the layout does not depend on it
abbrev bytes : List ℕ
bytes = message ++ replicate 16 0

pub formed_for_1 : well_formed 1 bytes ≡ true
unfolding well_formed sound_rows in_place in_kind good_value kinds rows_from row_of number_at from_bytes
formed_for_1 = refl

pub formed_for_2 : well_formed 2 bytes ≡ true
unfolding well_formed sound_rows in_place in_kind good_value kinds rows_from row_of number_at from_bytes
formed_for_2 = refl

pub known_to_1 : all_known 1 (rows_of bytes) ≡ true
unfolding all_known kinds rows_from row_of number_at from_bytes
known_to_1 = refl

-- the old node and the new one on the text, and on an id that is not there
pub text_for_1 : meant bytes (tell_in 1 20 (rows_of bytes)) ≡ unknown
unfolding meant tell_in tell kinds rows_from row_of number_at from_bytes
text_for_1 = refl

pub text_for_2 : meant bytes (tell_in 2 20 (rows_of bytes)) ≡ value 2 (0x68 ∷ 0x65 ∷ 0x6c ∷ 0x6c ∷ 0x6f ∷ [])
unfolding meant tell_in tell kinds rows_from row_of number_at from_bytes
text_for_2 = refl

pub none_for_1 : meant bytes (tell_in 1 2 (rows_of bytes)) ≡ absent
unfolding meant tell_in tell kinds rows_from row_of number_at from_bytes
none_for_1 = refl

-- kind 2 in a bundle of edition 1 is malformed for both
abbrev first_edition : List ℕ
first_edition = 0 ∷ 1 ∷ 0 ∷ 1 ∷ 0 ∷ 0 ∷ 0 ∷ 36 ∷ 0 ∷ 0 ∷ 0 ∷ 1 ∷ 0 ∷ 0 ∷ 0 ∷ 20 ∷ 0 ∷ 0 ∷ 2 ∷ 0 ∷ replicate 16 0

pub text_in_1 : (well_formed 1 first_edition ≡ false) × (well_formed 2 first_edition ≡ false)
unfolding well_formed sound_rows in_place in_kind good_value kinds rows_from row_of number_at from_bytes
text_in_1 = (refl, refl)

-- a kind that no reader here knows, in a bundle of edition 3: unknown, or 23 if it must be known
abbrev third-edition : ℕ → List ℕ
third-edition must = 0 ∷ 3 ∷ 0 ∷ 1 ∷ 0 ∷ 0 ∷ 0 ∷ 36 ∷ 0 ∷ 0 ∷ 0 ∷ 1 ∷ 0 ∷ 0 ∷ 0 ∷ 20 ∷ 0 ∷ 0 ∷ 9 ∷ must ∷ replicate 16 0

pub strange_kind : (well_formed 2 (third-edition 0) ≡ true) × (all_known 2 (rows_of (third-edition 0)) ≡ true) × (all_known 2 (rows_of (third-edition 1)) ≡ false)
unfolding well_formed sound_rows in_place in_kind good_value all_known kinds rows_from row_of number_at from_bytes
strange_kind = (refl, refl, refl)
