-- Where two bundles differ, by the reader of edition 2: every id there is, rising, and a line with both answers where they are not the same.
use Rattle.std.specs.Prelude.{◌≡◌, Bool, cond, not, ◌&&◌, ◌||◌, List, [], ◌∷◌, ◌++◌, ℕ, zero, suc, ◌+◌, ◌*◌, eqb, leb, length, take, drop}
use Rattle.answers.specs.Numbers.{DONE, SHORT_OUTPUT}
use Rattle.answers.specs.Order.{unless, if_done}
use Rattle.cmac.specs.Calls.{same}
use Rattle.bundle_format.specs.Reader.{rows_of, read_code, VALUE, tell_in}
use Rattle.bundle_format.specs.declared.Told.{Told}

-- ---- one id

-- what the reader of edition 2 tells of it
abbrev pub told_of : (b : List ℕ) (id : ℕ) → Told
told_of b id = tell_in 2 id (rows_of b)

abbrev pub body_of : (b : List ℕ) → Told → List ℕ
body_of b t = take t.len (drop t.at b)

-- The same answer: the same state, and of two values the same kind and the same body. Must-know and the bundle's edition are no part of it.
unfoldable pub alike : (b : List ℕ) (t : Told) (c : List ℕ) (u : Told) → Bool
alike b t c u = eqb t.state u.state && (not (eqb t.state VALUE) || (eqb t.kind u.kind && same (body_of b t) (body_of c u)))

-- ---- all ids

-- an id, and what is told of it in the first bundle and in the second
pub record Line : Type 0 where
  pub id : ℕ
  pub one : Told
  pub two : Told

unfoldable pub line_of : (b c : List ℕ) (id : ℕ) → Line
line_of b c id = record { id = id; one = told_of b id; two = told_of c id }

-- of the n ids from `low` on, those whose answers differ
unfoldable pub lines_from : (n low : ℕ) (b c : List ℕ) → List Line
lines_from zero low b c = []
lines_from (suc n) low b c = cond (alike b (told_of b low) c (told_of c low)) (lines_from n (low + 1) b c) (line_of b c low ∷ lines_from n (low + 1) b c)

-- how many ids there are: an id has four bytes
abbrev pub ids : ℕ
ids = 4294967296

-- a refused bundle lists nothing
unfoldable pub listed : (key b c : List ℕ) → List Line
listed key b c = if_done (read_code 2 key b) (if_done (read_code 2 key c) (lines_from ids 0 b c) []) []

-- ---- the call

-- a line as nine numbers: the id, and of each side the state, the kind, and where the body lies
unfoldable pub numbers : Line → List ℕ
numbers l =
    l.id ∷ l.one.state ∷ l.one.kind ∷ l.one.at ∷ l.one.len ∷ l.two.state ∷ l.two.kind ∷ l.two.at ∷ l.two.len ∷ []

unfoldable pub numbers_of : List Line → List ℕ
numbers_of [] = []
numbers_of (l ∷ ls) = numbers l ++ numbers_of ls

-- its number: the first bundle's, the second's, 25 if the rows lent are too few
unfoldable pub compare_code : (key b c : List ℕ) (room : ℕ) → ℕ
compare_code key b c room =
    unless (eqb (read_code 2 key b) 0) (read_code 2 key b)
    (unless (eqb (read_code 2 key c) 0) (read_code 2 key c)
    (unless (leb (9 * length (listed key b c)) room) SHORT_OUTPUT DONE))

-- The number, each bundle's number, how many ids are listed, and what the rows hold: the lines, and past them what stood there; after a refusal what stood there.
pub record Compares (key b c rows : List ℕ) (r f s n : ℕ) (e : List ℕ) : Type 0 where
  pub is : r ≡ compare_code key b c (length rows)
  pub first : f ≡ read_code 2 key b
  pub second : s ≡ read_code 2 key c
  pub counts : n ≡ length (listed key b c)
  pub leaves : e ≡ if_done (compare_code key b c (length rows)) (numbers_of (listed key b c) ++ drop (9 * length (listed key b c)) rows) rows
