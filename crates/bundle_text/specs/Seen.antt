-- What a node sees of a bundle, as a list: a line for each setting, with its answer as `differ_text` prints it.
use Rattle.std.specs.Prelude.{cond, List, [], ◌∷◌, ◌++◌, ℕ, zero, suc, ◌+◌, ◌*◌, eqb, ltb, length, take, get_or}
use Rattle.text.specs.Decimal.{decimal_of}
use Rattle.bundle_format.specs.Format.{Setting}
use Rattle.bundle_format.specs.Reader.{edition_of, rows_of, tell, Answer, value, meant, entry_of}
use Rattle.bundle_format.specs.declared.Row.{Row}
use Rattle.bundle_format.specs.declared.Opened.{Opened}
use Rattle.differ_text.specs.Rendered.{side_text}

-- " must-know"
abbrev pub must_word : List ℕ
must_word = 32 ∷ 109 ∷ 117 ∷ 115 ∷ 116 ∷ 45 ∷ 107 ∷ 110 ∷ 111 ∷ 119 ∷ []

unfoldable pub must_text : ℕ → List ℕ
must_text must = cond (eqb must 0) [] must_word

-- "18 flag 1 must-know"
unfoldable pub setting_line : (id : ℕ) → Answer → (must : ℕ) → List ℕ
setting_line id a must = decimal_of id ++ (32 ∷ []) ++ side_text a ++ must_text must ++ (10 ∷ [])

-- a list of settings: what `make` takes
unfoldable pub list_text : List Setting → List ℕ
list_text [] = []
list_text (s ∷ ss) = setting_line s.id (value s.kind s.body) s.must ++ list_text ss

-- of an entry of the table, as a node sees it
unfoldable pub row_line : (reader : ℕ) (b : List ℕ) → Row → List ℕ
row_line reader b r = setting_line r.id (meant b (tell reader r)) r.must

unfoldable pub row_lines : (reader : ℕ) (b : List ℕ) → List Row → List ℕ
row_lines reader b [] = []
row_lines reader b (r ∷ rs) = row_line reader b r ++ row_lines reader b rs

-- "# a bundle of edition 2, as a node of edition 1 sees it"
abbrev pub head_words : List ℕ
head_words = 35 ∷ 32 ∷ 97 ∷ 32 ∷ 98 ∷ 117 ∷ 110 ∷ 100 ∷ 108 ∷ 101 ∷ 32 ∷ 111 ∷ 102 ∷ 32 ∷ 101 ∷ 100 ∷ 105 ∷ 116 ∷ 105 ∷ 111 ∷ 110 ∷ 32 ∷ []

abbrev pub node_words : List ℕ
node_words = 44 ∷ 32 ∷ 97 ∷ 115 ∷ 32 ∷ 97 ∷ 32 ∷ 110 ∷ 111 ∷ 100 ∷ 101 ∷ 32 ∷ 111 ∷ 102 ∷ 32 ∷ 101 ∷ 100 ∷ 105 ∷ 116 ∷ 105 ∷ 111 ∷ 110 ∷ 32 ∷ []

abbrev pub sees_words : List ℕ
sees_words = 32 ∷ 115 ∷ 101 ∷ 101 ∷ 115 ∷ 32 ∷ 105 ∷ 116 ∷ 10 ∷ []

unfoldable pub head_line : (edition reader : ℕ) → List ℕ
head_line edition reader = head_words ++ decimal_of edition ++ node_words ++ decimal_of reader ++ sees_words

-- the edition that it is said to be of; of fewer than two bytes 0
unfoldable pub stated : List ℕ → ℕ
stated b = cond (ltb (length b) 2) 0 (edition_of b)

-- all that a node sees of an accepted bundle
unfoldable pub seen_text : (reader : ℕ) (b : List ℕ) → List ℕ
seen_text reader b = head_line (edition_of b) reader ++ row_lines reader b (rows_of b)

-- ---- as it is printed, line by line

-- by a bundle that was looked through; the must-know of entry i is the last of its twelve bytes
unfoldable pub entry_line : Opened → (b : List ℕ) (i : ℕ) → List ℕ
entry_line o b i = setting_line (entry_of o b i).id (meant b (entry_of o b i)) (get_or b (19 + 12 * i) 0)

-- how long a buffer must be, so that no line is cut
abbrev pub line_most : ℕ
line_most = 2080

-- all that is written by who writes the lines from i on, n of them, each from such a buffer
unfoldable pub written_from : (n i : ℕ) → Opened → (b : List ℕ) → List ℕ
written_from zero i o b = []
written_from (suc n) i o b = take line_most (entry_line o b i) ++ written_from n (i + 1) o b
