-- What one entry does to a judgement over the table, and the header's numbers.
use mathlib.Core.Path.{◌≡◌, refl, sym, ap, ap₂, ◌∙◌}
use mathlib.Core.Bool.{Bool, true, false, not, ◌&&◌, ◌||◌}
use mathlib.Core.List.{List, ◌∷◌}
use Prim.Native.Nat.{ℕ, ◌+◌, ◌<◌, ◌≤◌}
use native.Mathlib.Omega.{arith}
use lib.Dec.{eqb, leb}
use lib.ListN.{length, drop}
use borrow.Author.Tests.{le-leb}
use Rattle.bits.proofs.Computed.{cond-true}
use Rattle.bundle_format.specs.Format.{knows, first_body}
use Rattle.bundle_format.specs.Reader.{edition_of, count_of, end_of, rows_from, body_at, in_place, in_kind, sound_rows, well_formed, all_known}
use Rattle.bundle_format.specs.declared.Row.{Row}
use Rattle.bundle_format.proofs.Accepted.{formed_only}
use Rattle.bundle_judge.specs.Inner.{count_in}

-- what a test of an entry told, by an edition that is the bundle's
pub sound-told : (reader : ℕ) (b : List ℕ) (low at : ℕ) (r : Row) (edition : ℕ) (told : Bool) → edition ≡ edition_of b → told ≡ (in_place (end_of b) low at r && in_kind reader edition r.kind (body_at b r))
    → told ≡ (in_place (end_of b) low at r && in_kind reader (edition_of b) r.kind (body_at b r))
sound-told reader b low at r edition told own e = e ∙ ap (λ (x : ℕ). in_place (end_of b) low at r && in_kind reader x r.kind (body_at b r)) own

module _ (reader : ℕ) (b : List ℕ) (low at : ℕ) (r : Row) (rs : List Row) where
  pub sound_more : in_place (end_of b) low at r && in_kind reader (edition_of b) r.kind (body_at b r) ≡ true → sound_rows reader b low at (r ∷ rs) ≡ sound_rows reader b (r.id + 1) (at + r.len) rs
  unfolding sound_rows
  sound_more e = ap (λ (t : Bool). t && sound_rows reader b (r.id + 1) (at + r.len) rs) e

  pub sound_not : in_place (end_of b) low at r && in_kind reader (edition_of b) r.kind (body_at b r) ≡ false → sound_rows reader b low at (r ∷ rs) ≡ false
  unfolding sound_rows
  sound_not e = ap (λ (t : Bool). t && sound_rows reader b (r.id + 1) (at + r.len) rs) e

module _ (reader : ℕ) (r : Row) (rs : List Row) where
  pub known_more : not (eqb r.must 1) || knows reader r.kind ≡ true → all_known reader (r ∷ rs) ≡ all_known reader rs
  unfolding all_known
  known_more e = ap (λ (t : Bool). t && all_known reader rs) e

  pub known_not : not (eqb r.must 1) || knows reader r.kind ≡ false → all_known reader (r ∷ rs) ≡ false
  unfolding all_known
  known_not e = ap (λ (t : Bool). t && all_known reader rs) e

-- the header's numbers, as they were read
pub formed_by : (reader : ℕ) (b : List ℕ) (edition count : ℕ) → edition ≡ edition_of b → count ≡ count_of b
    → well_formed reader b ≡ (leb 1 edition && leb count 256 && leb (first_body count) (end_of b) && sound_rows reader b 0 (first_body count) (rows_from count (drop 8 b)))
unfolding well_formed
formed_by reader b edition count e n =
    ap₂ (λ (x y : ℕ). leb 1 x && leb y 256 && leb (first_body y) (end_of b) && sound_rows reader b 0 (first_body y) (rows_from y (drop 8 b))) (sym e) (sym n)

-- no room for a header and a tag
pub short_not_formed : (reader : ℕ) (b : List ℕ) → length b < 24 → well_formed reader b ≡ false
short_not_formed reader b h = go (well_formed reader b) refl
  where
    go : (t : Bool) → well_formed reader b ≡ t → t ≡ false
    go true e = absurd (omega (arith, (formed_only reader b e).table))
    go false e = refl

-- ---- the count of bytes that have a header's first half

pub count_in_lem : (b : List ℕ) → 4 ≤ length b → count_in b ≡ count_of b
count_in_lem b h = cond-true (leb 4 (length b)) (count_of b) 0 (le-leb 4 (length b) h)
