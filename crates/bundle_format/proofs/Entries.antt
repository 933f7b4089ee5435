-- The entries of a table that stands right, one after the other: ids rise, and asking for an entry's id tells that entry.
use mathlib.Core.Path.{◌≡◌, refl, sym, ap, ◌∙◌}
use mathlib.Core.Bool.{Bool, true, false, cond}
use mathlib.Core.List.{List, [], ◌∷◌}
use Prim.Native.Nat.{ℕ, zero, suc, ◌+◌, ◌<◌, ◌≤◌}
use native.Mathlib.Nat.{not-suc-le-zero, le_of_suc-le-suc}
use native.Mathlib.Omega.{arith}
use lib.ListN.{length}
use borrow.Author.Tests.{eq-eqb, ne_eqb}
use Rattle.bundle_format.specs.Format.{knows, first_body}
use Rattle.bundle_format.specs.Reader.{count_of, rows_of, sound_rows, read_code, tell, tell_in, tell_at}
use Rattle.bundle_format.specs.declared.Row.{Row}
use Rattle.bundle_format.specs.declared.Told.{Told}
use Rattle.bundle_format.proofs.Rows.{length_rows_from}
use Rattle.bundle_format.proofs.Accepted.{accepts}
use Rattle.bundle_format.proofs.Decoded.{Sound, sound_only}

-- of a value and of an unknown setting the id is told
pub tell-id : (reader : ℕ) (r : Row) → (tell reader r).id ≡ r.id
unfolding tell
tell-id reader r = go (knows reader r.kind)
  where
    go : (k : Bool) → (cond {A = Told} k (record { state = 3; id = r.id; kind = r.kind; at = r.at; len = r.len }) (record { state = 2; id = r.id; kind = 0; at = 0; len = 0 })).id ≡ r.id
    go true = refl
    go false = refl

from_low : (reader : ℕ) (b : List ℕ) (low at : ℕ) (rs : List Row) (i : ℕ) → sound_rows reader b low at rs ≡ true → i < length rs → low ≤ (tell_at reader i rs).id
unfolding tell_at
from_low reader b low at [] i e h = absurd (not-suc-le-zero h)
from_low reader b low at (r ∷ rs) zero e h =
    let s : Sound reader b low at r rs = sound_only reader b low at r rs e in
    let rises : low ≤ r.id = s.stands.rises in
    let same : (tell reader r).id ≡ r.id = tell-id reader r in
    omega arith
from_low reader b low at (r ∷ rs) (suc i) e h =
    let s : Sound reader b low at r rs = sound_only reader b low at r rs e in
    let rises : low ≤ r.id = s.stands.rises in
    let next : r.id + 1 ≤ (tell_at reader i rs).id = from_low reader b (r.id + 1) (at + r.len) rs i s.rest (le_of_suc-le-suc h) in
    omega arith

rise : (reader : ℕ) (b : List ℕ) (low at : ℕ) (rs : List Row) (i : ℕ) → sound_rows reader b low at rs ≡ true → suc i < length rs → (tell_at reader i rs).id < (tell_at reader (suc i) rs).id
unfolding tell_at
rise reader b low at [] i e h = absurd (not-suc-le-zero h)
rise reader b low at (r ∷ rs) zero e h =
    let s : Sound reader b low at r rs = sound_only reader b low at r rs e in
    let next : r.id + 1 ≤ (tell_at reader 0 rs).id = from_low reader b (r.id + 1) (at + r.len) rs 0 s.rest (le_of_suc-le-suc h) in
    let same : (tell reader r).id ≡ r.id = tell-id reader r in
    omega arith
rise reader b low at (r ∷ rs) (suc i) e h = rise reader b (r.id + 1) (at + r.len) rs i (sound_only reader b low at r rs e).rest (le_of_suc-le-suc h)

told_there : (reader : ℕ) (b : List ℕ) (low at : ℕ) (rs : List Row) (i : ℕ) → sound_rows reader b low at rs ≡ true → i < length rs
    → tell_in reader (tell_at reader i rs).id rs ≡ tell_at reader i rs
unfolding tell_at tell_in
told_there reader b low at [] i e h = absurd (not-suc-le-zero h)
told_there reader b low at (r ∷ rs) zero e h =
    ap (λ (t : Bool). cond t (tell reader r) (tell_in reader (tell reader r).id rs)) (eq-eqb r.id (tell reader r).id (sym (tell-id reader r)))
told_there reader b low at (r ∷ rs) (suc i) e h =
    let s : Sound reader b low at r rs = sound_only reader b low at r rs e in
    let next : r.id + 1 ≤ (tell_at reader i rs).id = from_low reader b (r.id + 1) (at + r.len) rs i s.rest (le_of_suc-le-suc h) in
    ap (λ (t : Bool). cond t (tell reader r) (tell_in reader (tell_at reader i rs).id rs)) (ne_eqb r.id (tell_at reader i rs).id (λ same. omega arith))
    ∙ told_there reader b (r.id + 1) (at + r.len) rs i s.rest (le_of_suc-le-suc h)

module _ (reader : ℕ) (key b : List ℕ) (e : read_code reader key b ≡ 0) (i : ℕ) where
  sound : sound_rows reader b 0 (first_body (count_of b)) (rows_of b) ≡ true
  sound = (accepts reader key b e).0.formed.rows

  -- asking for an entry's id tells the entry
  pub entry-asked : i < count_of b → tell_in reader (tell_at reader i (rows_of b)).id (rows_of b) ≡ tell_at reader i (rows_of b)
  entry-asked h = told_there reader b 0 (first_body (count_of b)) (rows_of b) i sound (rw length_rows_from h)

  -- ids rise from entry to entry
  pub entries-rise : suc i < count_of b → (tell_at reader i (rows_of b)).id < (tell_at reader (suc i) (rows_of b)).id
  entries-rise h = rise reader b 0 (first_body (count_of b)) (rows_of b) i sound (rw length_rows_from h)
