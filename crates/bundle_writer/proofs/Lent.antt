-- Rows that are lent: those that are left at one of them, and what rows and a pool that has their bodies are as settings, entries and sizes.
use mathlib.Core.Path.{◌≡◌, refl, sym, ap, ap₂, ◌∙◌}
use mathlib.Core.Bool.{Bool, true, false, ◌&&◌}
use mathlib.Core.List.{List, [], ◌∷◌, ◌++◌}
use Prim.Native.Nat.{ℕ, zero, suc, ◌+◌, ◌-◌, ◌*◌, ◌/◌, ◌<◌, ◌≤◌}
use native.Mathlib.Numerals.{add-one}
use native.Mathlib.Omega.{arith}
use lib.ListN.{length, take, drop, get_or, length-drop, drop_of_length-le}
use lib.Seq.{length-take-le, take_all, take-add, drop-cons}
use Rattle.std.specs.Simd.{first_chunks}
use Rattle.std.proofs.lemmas.List.{get_or-take}
use Rattle.bundle_format.specs.Format.{Setting, good_setting, good_from, placed, bodies, total_of}
use Rattle.bundle_format.specs.Writer.{list_from, list_of, sizes}
use Rattle.bundle_format.specs.declared.Row.{Row}
use Rattle.bundle_writer.specs.Inner.{settings_in, sizes_in, lent_row, lent_rows}

-- the rows from the one at a place on, and past the last one
pub rows_left : (rows : List (List ℕ)) (i : ℕ) → i < length rows → drop i rows ≡ get_or rows i [] ∷ drop (i + 1) rows
rows_left rows i h = drop-cons rows i [] h ∙ ap (λ (n : ℕ). get_or rows i [] ∷ drop n rows) (sym (add-one i))

pub rows_end : (rows : List (List ℕ)) (i : ℕ) → length rows ≤ i → drop i rows ≡ []
rows_end rows i h = drop_of_length-le rows {i = i} h

-- the size of a row's body
pub row_len : (at : ℕ) (r : Row) (row : List ℕ) → r ≡ lent_row at row → r.len ≡ get_or row 3 0
unfolding lent_row
row_len at r row e = ap (λ (x : Row). x.len) e

pub sizes_left : (rows : List (List ℕ)) (i : ℕ) → i < length rows → sizes_in (drop i rows) ≡ get_or (get_or rows i []) 3 0 + sizes_in (drop (i + 1) rows)
unfolding sizes_in
sizes_left rows i h = ap sizes_in (rows_left rows i h)

pub sizes_end : (rows : List (List ℕ)) (i : ℕ) → length rows ≤ i → sizes_in (drop i rows) ≡ 0
unfolding sizes_in
sizes_end rows i h = ap sizes_in (rows_end rows i h)

-- ---- the settings that are left at a row, whose ids are `low` at least

module _ (edition low : ℕ) (rows : List (List ℕ)) (rest : List ℕ) (i : ℕ) where
  pub goods_end : length rows ≤ i → good_from edition low (settings_in (drop i rows) rest) ≡ true
  unfolding settings_in good_from
  goods_end h = ap (λ (l : List (List ℕ)). good_from edition low (settings_in l rest)) (rows_end rows i h)

  module _ (h : i < length rows) (r : Row) (is : r ≡ lent_row 0 (get_or rows i [])) (body : List ℕ) (cut : body ≡ take r.len rest) (test : Bool) (told : test ≡ good_setting edition low (record { id = r.id; kind = r.kind; must = r.must; body = body })) where
    one : good_from edition low (settings_in (drop i rows) rest) ≡ (test && good_from edition (r.id + 1) (settings_in (drop (i + 1) rows) (drop r.len rest)))
    unfolding settings_in good_from lent_row
    one =
        ap (λ (l : List (List ℕ)). good_from edition low (settings_in l rest)) (rows_left rows i h)
        ∙ ap (λ (x : Row). good_setting edition low (record { id = x.id; kind = x.kind; must = x.must; body = take x.len rest }) && good_from edition (x.id + 1) (settings_in (drop (i + 1) rows) (drop x.len rest))) (sym is)
        ∙ ap (λ (b : List ℕ). good_setting edition low (record { id = r.id; kind = r.kind; must = r.must; body = b }) && good_from edition (r.id + 1) (settings_in (drop (i + 1) rows) (drop r.len rest))) (sym cut)
        ∙ ap (λ (t : Bool). t && good_from edition (r.id + 1) (settings_in (drop (i + 1) rows) (drop r.len rest))) (sym told)

    pub goods_stop : test ≡ false → good_from edition low (settings_in (drop i rows) rest) ≡ false
    goods_stop e = one ∙ ap (λ (t : Bool). t && good_from edition (r.id + 1) (settings_in (drop (i + 1) rows) (drop r.len rest))) e

    pub goods_more : test ≡ true → good_from edition low (settings_in (drop i rows) rest) ≡ good_from edition (r.id + 1) (settings_in (drop (i + 1) rows) (drop r.len rest))
    goods_more e = one ∙ ap (λ (t : Bool). t && good_from edition (r.id + 1) (settings_in (drop (i + 1) rows) (drop r.len rest))) e

-- ---- rows and a pool that has their bodies

pub length_settings : (rows : List (List ℕ)) (pool : List ℕ) → length (settings_in rows pool) ≡ length rows
unfolding settings_in
length_settings [] pool = refl
length_settings (row ∷ rows) pool = ap suc (length_settings rows (drop (get_or row 3 0) pool))

module _ (row : List ℕ) (rows : List (List ℕ)) (pool : List ℕ) (fits : get_or row 3 0 + sizes_in rows ≤ length pool) where
  pub length_first : length (take (get_or row 3 0) pool) ≡ get_or row 3 0
  length_first = length-take-le (get_or row 3 0) pool (omega arith)

  pub fits_rest : sizes_in rows ≤ length (drop (get_or row 3 0) pool)
  fits_rest = simp length-drop (omega arith)

pub settings_placed : (at : ℕ) (rows : List (List ℕ)) (pool : List ℕ) → sizes_in rows ≤ length pool → placed at (settings_in rows pool) ≡ lent_rows at rows
unfolding placed settings_in lent_rows lent_row sizes_in
settings_placed at [] pool h = refl
settings_placed at (row ∷ rows) pool h =
    ap₂ ◌∷◌ first
    (ap (λ (k : ℕ). placed (at + k) (settings_in rows (drop (get_or row 3 0) pool))) (length_first row rows pool h)
    ∙ settings_placed (at + get_or row 3 0) rows (drop (get_or row 3 0) pool) (fits_rest row rows pool h))
  where
    first : ◌≡◌ {A = Row} (record { id = get_or row 0 0; at = at; len = length (take (get_or row 3 0) pool); kind = get_or row 1 0; must = get_or row 2 0 }) (lent_row at row)
    first = λ i. record { id = get_or row 0 0; at = at; len = length_first row rows pool h i; kind = get_or row 1 0; must = get_or row 2 0 }

pub settings_bodies : (rows : List (List ℕ)) (pool : List ℕ) → sizes_in rows ≤ length pool → bodies (settings_in rows pool) ≡ take (sizes_in rows) pool
unfolding bodies settings_in sizes_in
settings_bodies [] pool h = refl
settings_bodies (row ∷ rows) pool h =
    ap (λ (l : List ℕ). take (get_or row 3 0) pool ++ l) (settings_bodies rows (drop (get_or row 3 0) pool) (fits_rest row rows pool h)) ∙ sym (take-add (get_or row 3 0) (sizes_in rows) pool)

-- a pool that is as long as they say is all their bodies
module _ (rows : List (List ℕ)) (pool : List ℕ) (all : sizes_in rows ≡ length pool) where
  pub bodies_all : bodies (settings_in rows pool) ≡ pool
  bodies_all = settings_bodies rows pool (omega arith) ∙ take_all (sizes_in rows) pool (omega arith)

  pub total_settings : total_of (settings_in rows pool) ≡ 8 + 12 * length rows + length pool + 16
  total_settings = ap₂ (λ (a b : ℕ). 8 + 12 * a + b + 16) (length_settings rows pool) (ap length bodies_all)

-- ---- the same of numbers in a row, four a row

pub length_chunks : (n : ℕ) (rows : List ℕ) → length (first_chunks 4 n rows) ≡ n
length_chunks zero rows = refl
length_chunks (suc n) rows = ap suc (length_chunks n (drop 4 rows))

pub chunks_list : (n : ℕ) (rows pool : List ℕ) → settings_in (first_chunks 4 n rows) pool ≡ list_from n rows pool
unfolding settings_in list_from
chunks_list zero rows pool = refl
chunks_list (suc n) rows pool =
    ap₂ ◌∷◌ first (ap (λ (k : ℕ). settings_in (first_chunks 4 n (drop 4 rows)) (drop k pool)) (get_or-take 4 rows 3 0 (omega arith)) ∙ chunks_list n (drop 4 rows) (drop (get_or rows 3 0) pool))
  where
    first : ◌≡◌ {A = Setting} (record { id = get_or (take 4 rows) 0 0; kind = get_or (take 4 rows) 1 0; must = get_or (take 4 rows) 2 0; body = take (get_or (take 4 rows) 3 0) pool })
        (record { id = get_or rows 0 0; kind = get_or rows 1 0; must = get_or rows 2 0; body = take (get_or rows 3 0) pool })
    first =
        λ i.
        record {
          id = get_or-take 4 rows 0 0 (omega arith) i;
          kind = get_or-take 4 rows 1 0 (omega arith) i;
          must = get_or-take 4 rows 2 0 (omega arith) i;
          body = take (get_or-take 4 rows 3 0 (omega arith) i) pool;
        }

pub chunks_sizes : (n : ℕ) (rows : List ℕ) → sizes_in (first_chunks 4 n rows) ≡ sizes n rows
unfolding sizes_in sizes
chunks_sizes zero rows = refl
chunks_sizes (suc n) rows = ap₂ ◌+◌ (get_or-take 4 rows 3 0 (omega arith)) (chunks_sizes n (drop 4 rows))

pub length-list : (n : ℕ) (rows pool : List ℕ) → length (list_from n rows pool) ≡ n
length-list n rows pool = ap length (sym (chunks_list n rows pool)) ∙ length_settings (first_chunks 4 n rows) pool ∙ length_chunks n rows

pub total_all : (n : ℕ) (rows pool : List ℕ) → sizes n rows ≡ length pool → total_of (list_from n rows pool) ≡ 8 + 12 * n + length pool + 16
total_all n rows pool all =
    ap total_of (sym (chunks_list n rows pool)) ∙ total_settings (first_chunks 4 n rows) pool (chunks_sizes n rows ∙ all) ∙ ap (λ (k : ℕ). 8 + 12 * k + length pool + 16) (length_chunks n rows)
