-- Numbers at a place, byte by byte; the entry at a place; the table in entries of twelve bytes.
use mathlib.Core.Path.{◌≡◌, refl, sym, ap, ap₂, ◌∙◌}
use mathlib.Core.List.{List, [], ◌∷◌}
use Prim.Native.Nat.{ℕ, zero, suc, min, ◌+◌, ◌-◌, ◌*◌, ◌/◌, ◌<◌, ◌≤◌}
use native.Mathlib.Nat.{not-suc-le-zero, le_of_suc-le-suc}
use native.Mathlib.Numerals.{add-one}
use native.Mathlib.Omega.{arith}
use lib.ListN.{length, take, drop, get_or, drop_of_length-le}
use lib.Seq.{drop-cons, drop-drop}
use Rattle.std.specs.Prelude.{map}
use Rattle.std.specs.Simd.{first_chunks}
use Rattle.std.proofs.lemmas.List.{drop-take, take-take}
use Rattle.published.specs.Bytes.{from_bytes}
use Rattle.bundle_format.specs.Reader.{number_at, row_of, rows_from}
use Rattle.bundle_format.specs.declared.Row.{Row}
use Rattle.bundle_format.specs.Format.{first_body}
use Rattle.bundle_judge.specs.Inner.{entries_in}

pub number_one : (at : ℕ) (b : List ℕ) → at + 1 ≤ length b → number_at 1 at b ≡ get_or b at 0
unfolding number_at from_bytes
number_one at b h = ap (λ (l : List ℕ). from_bytes (take 1 l)) (drop-cons b at 0 (omega arith)) ∙ plain
  where
    plain : get_or b at 0 * 1 + 0 ≡ get_or b at 0
    plain = omega arith

-- the first byte of a number, and the rest
more : (k at : ℕ) (b : List ℕ) → at + suc k ≤ length b → take (suc k) (drop at b) ≡ get_or b at 0 ∷ take k (drop (at + 1) b)
more k at b h = ap (take (suc k)) (drop-cons b at 0 (omega arith)) ∙ ap (λ (n : ℕ). get_or b at 0 ∷ take k (drop n b)) (sym (add-one at))

pub number_two : (at : ℕ) (b : List ℕ) → at + 2 ≤ length b → number_at 2 at b ≡ get_or b at 0 * 256 + get_or b (at + 1) 0
unfolding number_at from_bytes
number_two at b h =
    ap from_bytes (more 1 at b h ∙ ap (λ (l : List ℕ). get_or b at 0 ∷ l) (more 0 (at + 1) b (omega arith))) ∙ plain
  where
    plain : get_or b at 0 * 256 + (get_or b (at + 1) 0 * 1 + 0) ≡ get_or b at 0 * 256 + get_or b (at + 1) 0
    plain = omega arith

pub number_four : (at : ℕ) (b : List ℕ) → at + 4 ≤ length b → number_at 4 at b ≡ get_or b at 0 * 16777216 + get_or b (at + 1) 0 * 65536 + get_or b (at + 2) 0 * 256 + get_or b (at + 3) 0
unfolding number_at from_bytes
number_four at b h =
    ap from_bytes
    (more 3 at b h
    ∙ ap (λ (l : List ℕ). get_or b at 0 ∷ l) (more 2 (at + 1) b (omega arith) ∙ ap (λ (l : List ℕ). get_or b (at + 1) 0 ∷ l) (place 2 (at + 1 + 1) (at + 2) (omega arith) ∙ more 1 (at + 2) b (omega arith) ∙ ap (λ (l : List ℕ). get_or b (at + 2) 0 ∷ l) (place 1 (at + 2 + 1) (at + 3) (omega arith) ∙ more 0 (at + 3) b (omega arith)))))
    ∙ plain
  where
    place : (k m n : ℕ) → m ≡ n → take k (drop m b) ≡ take k (drop n b)
    place k m n e = ap (λ (x : ℕ). take k (drop x b)) e

    plain : get_or b at 0 * 16777216 + (get_or b (at + 1) 0 * 65536 + (get_or b (at + 2) 0 * 256 + (get_or b (at + 3) 0 * 1 + 0))) ≡ get_or b at 0 * 16777216 + get_or b (at + 1) 0 * 65536 + get_or b (at + 2) 0 * 256 + get_or b (at + 3) 0
    plain = omega arith

-- a number of what comes after a place
after : (k j at : ℕ) (b : List ℕ) → number_at k (at + j) b ≡ number_at k j (drop at b)
unfolding number_at
after k j at b = ap (λ (l : List ℕ). from_bytes (take k l)) (sym (drop-drop j at b))

pub row_there : (at : ℕ) (b : List ℕ) (id place len kind must : ℕ) → id ≡ number_at 4 at b → place ≡ number_at 4 (at + 4) b → len ≡ number_at 2 (at + 8) b
    → kind ≡ number_at 1 (at + 10) b → must ≡ number_at 1 (at + 11) b → ◌≡◌ {A = Row} (record { id = id; at = place; len = len; kind = kind; must = must }) (row_of (drop at b))
unfolding row_of number_at
row_there at b id place len kind must e0 e1 e2 e3 e4 =
    λ i.
    record {
      id = e0 i;
      at = (e1 ∙ after 4 4 at b) i;
      len = (e2 ∙ after 2 8 at b) i;
      kind = (e3 ∙ after 1 10 at b) i;
      must = (e4 ∙ after 1 11 at b) i;
    }

-- ---- the table in entries of twelve bytes

-- a number within the first twelve bytes
within : (k j m : ℕ) (t : List ℕ) → k ≤ m → j + m ≡ 12 → number_at k j (take 12 t) ≡ number_at k j t
unfolding number_at
within k j m t h e = ap (λ (n : ℕ). from_bytes (take k (drop j (take n t)))) (sym e) ∙ ap (λ (l : List ℕ). from_bytes (take k l)) (drop-take j m t) ∙ ap from_bytes (take-take k m (drop j t) h)

row_take : (t : List ℕ) → row_of (take 12 t) ≡ row_of t
unfolding row_of
row_take t =
    λ i.
    record {
      id = within 4 0 12 t (omega arith) refl i;
      at = within 4 4 8 t (omega arith) refl i;
      len = within 2 8 4 t (omega arith) refl i;
      kind = within 1 10 2 t (omega arith) refl i;
      must = within 1 11 1 t (omega arith) refl i;
    }

rows_chunks : (n : ℕ) (t : List ℕ) → map row_of (first_chunks 12 n t) ≡ rows_from n t
unfolding rows_from
rows_chunks zero t = refl
rows_chunks (suc n) t = ap₂ ◌∷◌ (row_take t) (rows_chunks n (drop 12 t))

pub chunks_count : (n : ℕ) (t : List ℕ) → length (first_chunks 12 n t) ≡ n
chunks_count zero t = refl
chunks_count (suc n) t = ap suc (chunks_count n (drop 12 t))

pub chunks_taken : (k n : ℕ) (t : List ℕ) → k ≤ n → take k (first_chunks 12 n t) ≡ first_chunks 12 k t
chunks_taken zero n t h = refl
chunks_taken (suc k) zero t h = absurd (not-suc-le-zero h)
chunks_taken (suc k) (suc n) t h = ap (λ (l : List (List ℕ)). take 12 t ∷ l) (chunks_taken k n (drop 12 t) (le_of_suc-le-suc h))

module _ (count : ℕ) (b : List ℕ) where
  pub entries_count : length (entries_in count b) ≡ min count ((length b - 8) / 12)
  unfolding entries_in
  entries_count = chunks_count (min count ((length b - 8) / 12)) (drop 8 b)

  -- a table that is within the bytes
  module _ (fits : first_body count ≤ length b) where
    all : min count ((length b - 8) / 12) ≡ count
    all = omega arith

    pub entries_all : length (entries_in count b) ≡ count
    entries_all = entries_count ∙ all

    pub entries_rows : map row_of (entries_in count b) ≡ rows_from count (drop 8 b)
    unfolding entries_in
    entries_rows = rows_chunks (min count ((length b - 8) / 12)) (drop 8 b) ∙ ap (λ (n : ℕ). rows_from n (drop 8 b)) all

-- the entries from the one at a place on, and past the last one
pub rows_left : (es : List (List ℕ)) (i : ℕ) (r : Row) → i < length es → r ≡ row_of (get_or es i []) → map row_of (drop i es) ≡ r ∷ map row_of (drop (i + 1) es)
rows_left es i r h e =
    ap (map row_of) (drop-cons es i [] h ∙ ap (λ (n : ℕ). get_or es i [] ∷ drop n es) (sym (add-one i))) ∙ ap (λ (x : Row). x ∷ map row_of (drop (i + 1) es)) (sym e)

pub rows_end : (es : List (List ℕ)) (i : ℕ) → length es ≤ i → map row_of (drop i es) ≡ []
rows_end es i h = ap (map row_of) (drop_of_length-le es {i = i} h)
