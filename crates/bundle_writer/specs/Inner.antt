-- Inner: rows that are lent, four numbers each, as settings and as entries.
use Rattle.std.specs.Prelude.{List, [], ◌∷◌, ℕ, ◌+◌, take, drop, get_or}
use Rattle.bundle_format.specs.Format.{Setting}
use Rattle.bundle_format.specs.declared.Row.{Row}

-- the settings of rows and a pool
unfoldable pub settings_in : (rows : List (List ℕ)) (pool : List ℕ) → List Setting
settings_in [] pool = []
settings_in (row ∷ rows) pool =
    record { id = get_or row 0 0; kind = get_or row 1 0; must = get_or row 2 0; body = take (get_or row 3 0) pool } ∷ settings_in rows (drop (get_or row 3 0) pool)

-- how many bytes rows say that they have
unfoldable pub sizes_in : List (List ℕ) → ℕ
sizes_in [] = 0
sizes_in (row ∷ rows) = get_or row 3 0 + sizes_in rows

-- the entry of a row, its body at `at`
unfoldable pub lent_row : (at : ℕ) → List ℕ → Row
lent_row at row = record { id = get_or row 0 0; at = at; len = get_or row 3 0; kind = get_or row 1 0; must = get_or row 2 0 }

-- those of rows, the bodies one after the other
unfoldable pub lent_rows : (at : ℕ) → List (List ℕ) → List Row
lent_rows at [] = []
lent_rows at (row ∷ rows) = lent_row at row ∷ lent_rows (at + get_or row 3 0) rows
