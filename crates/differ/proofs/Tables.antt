-- The table of an accepted bundle: what lies between its ids is absent, and bodies lie within the bundle.
use mathlib.Core.Path.{◌≡◌, refl, sym, ap, ◌∙◌}
use mathlib.Core.Bool.{Bool, true, false, cond}
use mathlib.Core.List.{List, [], ◌∷◌}
use Prim.Native.Nat.{ℕ, zero, suc, ◌+◌, ◌<◌, ◌≤◌}
use native.Mathlib.Nat.{le_of_suc-le-suc}
use native.Mathlib.Omega.{arith}
use lib.Dec.{eqb}
use lib.ListN.{length}
use borrow.Author.Tests.{eq-eqb, ne_eqb, le-leb}
use Rattle.bundle_format.specs.Format.{knows, first_body}
use Rattle.bundle_format.specs.Reader.{count_of, end_of, rows_of, sound_rows, well_formed, REFUSED, ABSENT, VALUE, UNKNOWN, bare, tell, tell_in, tell_at, answers_for, looked_up, entry_of}
use Rattle.bundle_format.specs.declared.Row.{Row}
use Rattle.bundle_format.specs.declared.Told.{Told}
use Rattle.bundle_format.specs.declared.Opened.{Opened}
use Rattle.bundle_format.proofs.Rows.{length_rows_from}
use Rattle.bundle_format.proofs.Accepted.{Formed, formed_only}
use Rattle.bundle_format.proofs.Decoded.{Sound, sound_only}
use Rattle.bundle_format.proofs.Entries.{tell-id}
use Rattle.differ.specs.Difference.{told_of, ids}
use Rattle.differ.specs.Inner.{FirstFrom}

-- ---- ids that a table does not have

passed_over : (id : ℕ) (r : Row) (rs : List Row) → (r.id ≡ id → ⊥) → tell_in 2 id (r ∷ rs) ≡ tell_in 2 id rs
unfolding tell_in
passed_over id r rs ne = ap (λ (t : Bool). cond t (tell 2 r) (tell_in 2 id rs)) (ne_eqb r.id id ne)

before_all : (b : List ℕ) (low at : ℕ) (rs : List Row) (id : ℕ) → sound_rows 2 b low at rs ≡ true → id < low → tell_in 2 id rs ≡ bare ABSENT 0
unfolding tell_in
before_all b low at [] id e h = refl
before_all b low at (r ∷ rs) id e h =
    let s : Sound 2 b low at r rs = sound_only 2 b low at r rs e in
    let rises : low ≤ r.id = s.stands.rises in
    passed_over id r rs (λ same. omega arith) ∙ before_all b (r.id + 1) (at + r.len) rs id s.rest (omega arith)

-- every entry before place i has a lower id, and the one there, if any, a higher one
between : (b : List ℕ) (low at : ℕ) (rs : List Row) (id i : ℕ) → sound_rows 2 b low at rs ≡ true
    → ((j : ℕ) → j < i → (tell_at 2 j rs).id < id) → (i < length rs → id < (tell_at 2 i rs).id) → i ≤ length rs → tell_in 2 id rs ≡ bare ABSENT 0
unfolding tell_in tell_at
between b low at [] id i e before after l = refl
between b low at (r ∷ rs) id zero e before after l =
    let s : Sound 2 b low at r rs = sound_only 2 b low at r rs e in
    let h : id < r.id = rw (tell-id 2 r) at (after (omega arith)) in
    passed_over id r rs (λ same. omega arith) ∙ before_all b (r.id + 1) (at + r.len) rs id s.rest (omega arith)
between b low at (r ∷ rs) id (suc i) e before after l =
    let s : Sound 2 b low at r rs = sound_only 2 b low at r rs e in
    let h : r.id < id = rw (tell-id 2 r) at (before 0 (omega arith)) in
    passed_over id r rs (λ same. omega arith)
    ∙ between b (r.id + 1) (at + r.len) rs id i s.rest (λ j k. before (suc j) (omega arith)) (λ k. after (omega arith)) (le_of_suc-le-suc l)

-- ---- bodies

told_within : (b : List ℕ) (low at : ℕ) (rs : List Row) (id : ℕ) → sound_rows 2 b low at rs ≡ true → (tell_in 2 id rs).at + (tell_in 2 id rs).len ≤ length b
unfolding tell_in tell
told_within b low at [] id e = omega arith
told_within b low at (r ∷ rs) id e =
    let s : Sound 2 b low at r rs = sound_only 2 b low at r rs e in
    go (eqb r.id id) (knows 2 r.kind) s.stands.begins s.stands.ends (told_within b (r.id + 1) (at + r.len) rs id s.rest)
  where
    told : (t k : Bool) → Told
    told t k = cond t (cond k (record { state = VALUE; id = r.id; kind = r.kind; at = r.at; len = r.len }) (bare UNKNOWN r.id)) (tell_in 2 id rs)

    go : (t k : Bool) → r.at ≡ at → at + r.len ≤ end_of b → (tell_in 2 id rs).at + (tell_in 2 id rs).len ≤ length b → (told t k).at + (told t k).len ≤ length b
    go true true begins ends h = let l : r.at + r.len ≤ length b = omega arith in l
    go true false begins ends h = let l : 0 + 0 ≤ length b = omega arith in l
    go false k begins ends h = h

-- ---- a bundle that was looked through

module _ (o : Opened) (b : List ℕ) (is : o ≡ record { code = 0; reader = 2; count = count_of b; size = length b }) (right : well_formed 2 b ≡ true) where
  formed : Formed 2 b
  formed = formed_only 2 b right

  sound : sound_rows 2 b 0 (first_body (count_of b)) (rows_of b) ≡ true
  sound = formed.rows

  pub count_is : o.count ≡ count_of b
  count_is = ap (λ (p : Opened). p.count) is

  pub few : count_of b ≤ 256
  few = formed.count

  answers : answers_for (record { code = 0; reader = 2; count = count_of b; size = length b }) b ≡ true
  unfolding answers_for
  answers = let t : first_body (count_of b) ≤ end_of b = formed.table in rw (eq-eqb (length b) (length b) refl, le-leb (first_body (count_of b)) (length b) (omega arith))

  pub entry-told : (i : ℕ) → entry_of o b i ≡ tell_at 2 i (rows_of b)
  unfolding entry_of
  entry-told i = ap (λ (p : Opened). entry_of p b i) is ∙ ap (λ (t : Bool). cond t (tell_at 2 i (rows_of b)) (bare REFUSED 0)) answers

  pub look-told : (id : ℕ) → looked_up o b id ≡ told_of b id
  unfolding looked_up
  look-told id = ap (λ (p : Opened). looked_up p b id) is ∙ ap (λ (t : Bool). cond t (told_of b id) (bare REFUSED 0)) answers

  pub within : (id : ℕ) → (told_of b id).at + (told_of b id).len ≤ length b
  within id = told_within b 0 (first_body (count_of b)) (rows_of b) id sound

  entries : length (rows_of b) ≡ o.count
  entries = length_rows_from (count_of b) _ ∙ sym count_is

  -- the entry at place i is the first from `low` on
  pub first_there : (low i : ℕ) (t : Told) → i < o.count → ((j : ℕ) → j < i → (tell_at 2 j (rows_of b)).id < low) → t ≡ entry_of o b i → low ≤ t.id → t.id < ids → FirstFrom b low t.id
  first_there low i t h before is from most =
      record {
        from = from;
        most = omega arith;
        none = λ id l m. between b 0 (first_body (count_of b)) (rows_of b) id i sound (λ j k. below id l j (before j k)) (λ k. above id m) (omega (arith, entries));
      }
    where
      below : (id : ℕ) → low ≤ id → (j : ℕ) → (tell_at 2 j (rows_of b)).id < low → (tell_at 2 j (rows_of b)).id < id
      below id l j k = omega arith

      above : (id : ℕ) → id < t.id → id < (tell_at 2 i (rows_of b)).id
      above id m = rw (is ∙ entry-told i) at m

  -- no entry is from `low` on
  pub first_none : (low : ℕ) → low < ids → ((j : ℕ) → j < o.count → (tell_at 2 j (rows_of b)).id < low) → FirstFrom b low ids
  first_none low h before =
      record {
        from = omega arith;
        most = omega arith;
        none =
            λ id l m.
            between b 0 (first_body (count_of b)) (rows_of b) id o.count sound (λ j k. below id l j (before j k)) (λ k. absurd (omega (arith, entries))) (omega (arith, entries));
      }
    where
      below : (id : ℕ) → low ≤ id → (j : ℕ) → (tell_at 2 j (rows_of b)).id < low → (tell_at 2 j (rows_of b)).id < id
      below id l j k = omega arith
