-- Numbers, entries and tables, written and read: each way.
use mathlib.Core.Path.{◌≡◌, refl, sym, ap, ap₂, ◌∙◌}
use mathlib.Core.List.{List, [], ◌∷◌, ◌++◌, append_assoc}
use Prim.Native.Nat.{ℕ, zero, suc, ◌+◌, ◌*◌, ◌^◌, ◌<◌, ◌≤◌}
use native.Mathlib.Omega.{arith}
use lib.ListN.{length, take, drop, length-append, length-drop}
use lib.Seq.{length-take-le, take-add}
use Rattle.published.specs.Bytes.{from_bytes, to_bytes, Bytes}
use Rattle.published.proofs.Reading.{from_bytes-lt, from_to, to_from, bytes_take, bytes_drop}
use Rattle.bundle_format.specs.Format.{row_bytes, table_of}
use Rattle.bundle_format.specs.Reader.{number_at, row_of, rows_from}
use Rattle.bundle_format.specs.declared.Row.{Row}

-- ---- numbers

length_part : (k at : ℕ) (b : List ℕ) → at + k ≤ length b → length (take k (drop at b)) ≡ k
length_part k at b h = length-take-le k (drop at b) (simp length-drop (omega arith))

pub number_lt : (k at : ℕ) (b : List ℕ) → Bytes b → at + k ≤ length b → number_at k at b < 256 ^ k
unfolding number_at
number_lt k at b h l =
    rw (length_part k at b l) at (from_bytes-lt (take k (drop at b)) (bytes_take k (drop at b) (bytes_drop at b h)))

-- read and written
pub number_back : (k at : ℕ) (b : List ℕ) → Bytes b → at + k ≤ length b → to_bytes k (number_at k at b) ≡ take k (drop at b)
unfolding number_at
number_back k at b h l =
    ap (λ (n : ℕ). to_bytes n (from_bytes (take k (drop at b)))) (sym (length_part k at b l))
    ∙ to_from (take k (drop at b)) (bytes_take k (drop at b) (bytes_drop at b h))

-- ---- entries

-- every number of an entry fits its bytes
pub record Fits (r : Row) : Type 0 where
  pub id : r.id < 256 ^ 4
  pub at : r.at < 256 ^ 4
  pub len : r.len < 256 ^ 2
  pub kind : r.kind < 256 ^ 1
  pub must : r.must < 256 ^ 1

pub data AllFit : List Row → Type 0 where
  none : AllFit []
  more : {r : Row} {rs : List Row} → Fits r → AllFit rs → AllFit (r ∷ rs)

pub length-row : (r : Row) → length (row_bytes r) ≡ 12
unfolding row_bytes to_bytes
length-row r = refl

pub length-table : (rs : List Row) → length (table_of rs) ≡ 12 * length rs
unfolding table_of
length-table [] = refl
length-table (r ∷ rs) = length-append (row_bytes r) (table_of rs) ∙ ap₂ ◌+◌ (length-row r) (length-table rs) ∙ twelve
  where
    twelve : 12 + 12 * length rs ≡ 12 * suc (length rs)
    twelve = omega arith

pub length_rows_from : (n : ℕ) (t : List ℕ) → length (rows_from n t) ≡ n
unfolding rows_from
length_rows_from zero t = refl
length_rows_from (suc n) t = ap suc (length_rows_from n (drop 12 t))

-- written and read
pub row_read : (r : Row) (rest : List ℕ) → Fits r → row_of (row_bytes r ++ rest) ≡ r
unfolding row_of row_bytes number_at to_bytes
row_read r rest f =
    λ i.
    record {
      id = from_to 4 r.id f.id i;
      at = from_to 4 r.at f.at i;
      len = from_to 2 r.len f.len i;
      kind = from_to 1 r.kind f.kind i;
      must = from_to 1 r.must f.must i;
    }

after_row : (r : Row) (rest : List ℕ) → drop 12 (row_bytes r ++ rest) ≡ rest
unfolding row_bytes to_bytes
after_row r rest = refl

pub rows-read : (rs : List Row) (rest : List ℕ) → AllFit rs → rows_from (length rs) (table_of rs ++ rest) ≡ rs
unfolding rows_from table_of
rows-read [] rest none = refl
rows-read (r ∷ rs) rest (more f fs) =
    ap (rows_from (suc (length rs))) (append_assoc (row_bytes r) (table_of rs) rest)
    ∙ ap₂ ◌∷◌ (row_read r (table_of rs ++ rest) f) (ap (rows_from (length rs)) (after_row r (table_of rs ++ rest)) ∙ rows-read rs rest fs)

-- read and written
pub row_fits : (t : List ℕ) → Bytes t → 12 ≤ length t → Fits (row_of t)
unfolding row_of
row_fits t h l =
    record {
      id = number_lt 4 0 t h (omega arith);
      at = number_lt 4 4 t h (omega arith);
      len = number_lt 2 8 t h (omega arith);
      kind = number_lt 1 10 t h (omega arith);
      must = number_lt 1 11 t h (omega arith);
    }

pub row_back : (t : List ℕ) → Bytes t → 12 ≤ length t → row_bytes (row_of t) ≡ take 12 t
unfolding row_of row_bytes
row_back t h l =
    ap₂ ◌++◌ (ap₂ ◌++◌ (ap₂ ◌++◌ (ap₂ ◌++◌ (number_back 4 0 t h (omega arith)) (number_back 4 4 t h (omega arith)) ∙ sym (take-add 4 4 t)) (number_back 2 8 t h (omega arith)) ∙ sym (take-add 8 2 t)) (number_back 1 10 t h (omega arith)) ∙ sym (take-add 10 1 t)) (number_back 1 11 t h (omega arith))
    ∙ sym (take-add 11 1 t)

pub rows_fit : (n : ℕ) (t : List ℕ) → Bytes t → 12 * n ≤ length t → AllFit (rows_from n t)
unfolding rows_from
rows_fit zero t h l = none
rows_fit (suc n) t h l = more (row_fits t h (omega arith)) (rows_fit n (drop 12 t) (bytes_drop 12 t h) (simp length-drop (omega arith)))

pub rows_back : (n : ℕ) (t : List ℕ) → Bytes t → 12 * n ≤ length t → table_of (rows_from n t) ≡ take (12 * n) t
unfolding rows_from table_of
rows_back zero t h l = refl
rows_back (suc n) t h l =
    ap₂ ◌++◌ (row_back t h (omega arith)) (rows_back n (drop 12 t) (bytes_drop 12 t h) (simp length-drop (omega arith)))
    ∙ sym (take-add 12 (12 * n) t)
    ∙ ap (λ (k : ℕ). take k t) twelve
  where
    twelve : 12 + 12 * n ≡ 12 * suc n
    twelve = omega arith
