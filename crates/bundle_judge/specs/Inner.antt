-- Inner: the number after the tag, and what is cut out of any bytes.
use Rattle.std.specs.Prelude.{cond, List, ℕ, ◌-◌, ◌/◌, min, leb, length, drop}
use Rattle.std.specs.Simd.{first_chunks}
use Rattle.answers.specs.Numbers.{DONE, MALFORMED, MUST_KNOW}
use Rattle.answers.specs.Order.{unless}
use Rattle.bundle_format.specs.Reader.{count_of, rows_of, well_formed, all_known}

-- the last two lines of a reader's number: 22, 23
unfoldable pub judged_code : (reader : ℕ) (b : List ℕ) → ℕ
judged_code reader b = unless (well_formed reader b) MALFORMED (unless (all_known reader (rows_of b)) MUST_KNOW DONE)

-- the count of bytes that have a header's first half
abbrev pub count_in : List ℕ → ℕ
count_in b = cond (leb 4 (length b)) (count_of b) 0

-- the first `count` entries of twelve bytes after the header's eight, or as many as there are
unfoldable pub entries_in : (count : ℕ) → List ℕ → List (List ℕ)
entries_in count b = first_chunks 12 (min count ((length b - 8) / 12)) (drop 8 b)
