-- The lines of a stretch of ids: ids that both bundles lack add none; a step from id to id; and no more lines than entries.
use mathlib.Core.Path.{◌≡◌, refl, sym, ap, ap₂, ◌∙◌}
use mathlib.Core.Bool.{Bool, true, false, cond, not, false≢true}
use mathlib.Core.List.{List, [], ◌∷◌, ◌++◌}
use Prim.Native.Nat.{ℕ, zero, suc, ◌+◌, ◌-◌, ◌<◌, ◌≤◌, min}
use native.Mathlib.Omega.{arith}
use lib.Dec.{eqb, leb}
use lib.ListN.{length, drop}
use borrow.Author.Tests.{eqb-true, leb-true, leb-false, le-leb, lt-leb}
use Rattle.std.specs.declared.option.Option.{Option}
use Rattle.std.specs.declared.option.Option.TheVariants.{None, Some}
use Rattle.bundle_format.specs.Format.{knows}
use Rattle.bundle_format.specs.Reader.{count_of, rows_of, well_formed, ABSENT, VALUE, UNKNOWN, bare, tell, tell_in}
use Rattle.bundle_format.specs.declared.Row.{Row}
use Rattle.bundle_format.specs.declared.Told.{Told}
use Rattle.bundle_format.proofs.Accepted.{formed_only}
use Rattle.bundle_format.proofs.Rows.{length_rows_from}
use Rattle.differ.specs.Difference.{told_of, alike, Line, line_of, lines_from, ids}
use Rattle.differ.specs.Inner.{FirstFrom, line_in, Steps}
use Rattle.differ.specs.declared.Found.{Found}

both_absent : (b c : List ℕ) (t u : Told) → t ≡ bare ABSENT 0 → u ≡ bare ABSENT 0 → alike b t c u ≡ true
unfolding alike
both_absent b c t u e f = ap₂ (λ (x y : Told). alike b x c y) e f

module _ (b c : List ℕ) where
  -- one id at the front of a stretch
  same_here : (n low : ℕ) → alike b (told_of b low) c (told_of c low) ≡ true → lines_from (suc n) low b c ≡ lines_from n (low + 1) b c
  unfolding lines_from
  same_here n low e = ap (λ (t : Bool). cond t (lines_from n (low + 1) b c) (line_of b c low ∷ lines_from n (low + 1) b c)) e

  skipped : (k n m low : ℕ) → n ≡ k + m → ((id : ℕ) → low ≤ id → id < low + k → (told_of b id ≡ bare ABSENT 0) × (told_of c id ≡ bare ABSENT 0))
      → lines_from n low b c ≡ lines_from m (low + k) b c
  skipped zero n m low e none = ap₂ (λ (i j : ℕ). lines_from i j b c) all none_added
    where
      all : n ≡ m
      all = omega arith

      none_added : low ≡ low + 0
      none_added = omega arith
  skipped (suc k) n m low e none =
      let p = none low (omega arith) (omega arith) in
      ap (λ (i : ℕ). lines_from i low b c) all
      ∙ same_here (k + m) low (both_absent b c (told_of b low) (told_of c low) p.0 p.1)
      ∙ skipped k (k + m) m (low + 1) refl (λ id l h. none id (omega arith) (omega arith))
      ∙ ap (λ (j : ℕ). lines_from m j b c) one_more
    where
      all : n ≡ suc (k + m)
      all = omega arith

      one_more : low + 1 + k ≡ low + suc k
      one_more = omega arith

  module _ (low next r s : ℕ) (one : FirstFrom b low r) (two : FirstFrom c low s) (is : next ≡ min r s) where
    up_to : (n m : ℕ) → low + n ≡ ids → next + m ≡ ids → lines_from n low b c ≡ lines_from m next b c
    up_to n m e f =
        let l : low ≤ r = one.from in
        let h : low ≤ s = two.from in
        skipped (next - low) n m low (omega arith) (λ id g k. (one.none id g (omega arith), two.none id g (omega arith))) ∙ ap (λ (j : ℕ). lines_from m j b c) there
      where
        there : low + (next - low) ≡ next
        there = let l : low ≤ r = one.from in let h : low ≤ s = two.from in omega arith

    pub step-ends : low < ids → ids ≤ next → Steps b c low (record { low = ids; found = None })
    unfolding line_in lines_from
    step-ends below all =
        record {
          rises = omega arith;
          most = omega arith;
          lines =
              λ n m e f.
              let last : next ≡ ids = let l : r ≤ ids = one.most in omega arith in
              let nil : m ≡ 0 = omega arith in
              up_to n 0 e (omega arith) ∙ sym (ap (λ (j : ℕ). lines_from j ids b c) nil);
        }

    module _ (below : next < ids) (x y : Told) (seen : x ≡ told_of b next) (looked : y ≡ told_of c next) (same : Bool) (told : same ≡ alike b x c y) where
      abbrev found : Line
      found = record { id = next; one = x; two = y }

      here : (m : ℕ) (t : Bool) → same ≡ t → lines_from (suc m) next b c ≡ cond (not t) (found ∷ []) [] ++ lines_from m (next + 1) b c
      unfolding lines_from line_of
      here m true e = same_here m next (sym (ap₂ (λ (p q : Told). alike b p c q) seen looked) ∙ sym told ∙ e)
      here m false e =
          ap (λ (t : Bool). cond t (lines_from m (next + 1) b c) (line_of b c next ∷ lines_from m (next + 1) b c)) (sym (ap₂ (λ (p q : Told). alike b p c q) seen looked) ∙ sym told ∙ e)
          ∙ (λ i. record { id = next; one = sym seen i; two = sym looked i } ∷ lines_from m (next + 1) b c)

      pub step_on : (o : Option Found) (t : Bool) → same ≡ t → line_in o ≡ cond (not t) (found ∷ []) [] → Steps b c low (record { low = next + 1; found = o })
      step_on o t says has =
          let l : low ≤ r = one.from in
          let h : low ≤ s = two.from in
          record {
            rises = omega arith;
            most = omega arith;
            lines = λ n m e f. up_to n (suc m) e (omega arith) ∙ here m t says ∙ ap (λ (ls : List Line). ls ++ lines_from m (next + 1) b c) (sym has);
          }

      pub step_same : same ≡ true → Steps b c low (record { low = next + 1; found = None })
      unfolding line_in
      step_same e = step_on None true e refl

      pub step_found : same ≡ false → Steps b c low (record { low = next + 1; found = Some (record { id = next; one = x; two = y }) })
      unfolding line_in
      step_found e = step_on (Some (record { id = next; one = x; two = y })) false e refl

-- ---- no more lines than entries

-- how many entries have ids from `low` on
entries_from : (low : ℕ) → List Row → ℕ
entries_from low [] = 0
entries_from low (r ∷ rs) = cond (leb low r.id) (suc (entries_from low rs)) (entries_from low rs)

fewer : (low : ℕ) (rs : List Row) → entries_from (low + 1) rs ≤ entries_from low rs
unfolding entries_from
fewer low [] = omega arith
fewer low (r ∷ rs) = go (leb (low + 1) r.id) (leb low r.id) refl refl (fewer low rs)
  where
    go : (t u : Bool) → leb (low + 1) r.id ≡ t → leb low r.id ≡ u → entries_from (low + 1) rs ≤ entries_from low rs
        → cond t (suc (entries_from (low + 1) rs)) (entries_from (low + 1) rs) ≤ cond u (suc (entries_from low rs)) (entries_from low rs)
    go true true e f h = let l : suc (entries_from (low + 1) rs) ≤ suc (entries_from low rs) = omega arith in l
    go true false e f h = let x : low + 1 ≤ r.id = leb-true (low + 1) r.id e in let y : r.id < low = leb-false low r.id f in absurd (omega arith)
    go false true e f h = let l : entries_from (low + 1) rs ≤ suc (entries_from low rs) = omega arith in l
    go false false e f h = h

-- an id that is not absent has an entry
one_fewer : (low : ℕ) (rs : List Row) → (tell_in 2 low rs ≡ bare ABSENT 0 → ⊥) → suc (entries_from (low + 1) rs) ≤ entries_from low rs
unfolding entries_from tell_in
one_fewer low [] ne = absurd (ne refl)
one_fewer low (r ∷ rs) ne = go (eqb r.id low) refl (one_fewer low rs)
  where
    as_many : (t u : Bool) → leb (low + 1) r.id ≡ t → leb low r.id ≡ u → suc (entries_from (low + 1) rs) ≤ entries_from low rs
        → suc (cond t (suc (entries_from (low + 1) rs)) (entries_from (low + 1) rs)) ≤ cond u (suc (entries_from low rs)) (entries_from low rs)
    as_many true true f g h = let l : suc (suc (entries_from (low + 1) rs)) ≤ suc (entries_from low rs) = omega arith in l
    as_many true false f g h = let x : low + 1 ≤ r.id = leb-true (low + 1) r.id f in let y : r.id < low = leb-false low r.id g in absurd (omega arith)
    as_many false true f g h = let l : suc (entries_from (low + 1) rs) ≤ suc (entries_from low rs) = omega arith in l
    as_many false false f g h = h

    go : (t : Bool) → eqb r.id low ≡ t → ((tell_in 2 low rs ≡ bare ABSENT 0 → ⊥) → suc (entries_from (low + 1) rs) ≤ entries_from low rs)
        → suc (cond (leb (low + 1) r.id) (suc (entries_from (low + 1) rs)) (entries_from (low + 1) rs)) ≤ cond (leb low r.id) (suc (entries_from low rs)) (entries_from low rs)
    go true e others =
        let same : r.id ≡ low = eqb-true r.id low e in
        let h : entries_from (low + 1) rs ≤ entries_from low rs = fewer low rs in
        let l : suc (entries_from (low + 1) rs) ≤ suc (entries_from low rs) = omega arith in
        rw (lt-leb (low + 1) r.id (omega arith), le-leb low r.id (omega arith)) l
    go false e others =
        as_many (leb (low + 1) r.id) (leb low r.id) refl refl (others (λ absent. ne (ap (λ (t : Bool). cond t (tell 2 r) (tell_in 2 low rs)) e ∙ absent)))

all_entries : (low : ℕ) (rs : List Row) → entries_from low rs ≤ length rs
unfolding entries_from
all_entries low [] = omega arith
all_entries low (r ∷ rs) = go (leb low r.id) (all_entries low rs)
  where
    go : (t : Bool) → entries_from low rs ≤ length rs → cond t (suc (entries_from low rs)) (entries_from low rs) ≤ suc (length rs)
    go true h = let l : suc (entries_from low rs) ≤ suc (length rs) = omega arith in l
    go false h = let l : entries_from low rs ≤ suc (length rs) = omega arith in l

-- whether an id is absent
is_absent : (low : ℕ) (rs : List Row) → (P : Type 0) → (tell_in 2 low rs ≡ bare ABSENT 0 → P) → ((tell_in 2 low rs ≡ bare ABSENT 0 → ⊥) → P) → P
unfolding tell_in tell
is_absent low [] P so otherwise = so refl
is_absent low (r ∷ rs) P so otherwise = go (eqb r.id low) refl (is_absent low rs P)
  where
    state_of_lem : (k : Bool) → cond {A = Told} k (record { state = VALUE; id = r.id; kind = r.kind; at = r.at; len = r.len }) (bare UNKNOWN r.id) ≡ bare ABSENT 0 → ⊥
    state_of_lem true e = let z : ◌≡◌ {A = ℕ} 3 1 = ap (λ (t : Told). t.state) e in omega arith
    state_of_lem false e = let z : ◌≡◌ {A = ℕ} 2 1 = ap (λ (t : Told). t.state) e in omega arith

    not_absent : tell 2 r ≡ bare ABSENT 0 → ⊥
    not_absent = state_of_lem (knows 2 r.kind)

    go : (t : Bool) → eqb r.id low ≡ t → ((tell_in 2 low rs ≡ bare ABSENT 0 → P) → ((tell_in 2 low rs ≡ bare ABSENT 0 → ⊥) → P) → P) → P
    go true e others = otherwise (λ absent. not_absent (sym (ap (λ (t : Bool). cond t (tell 2 r) (tell_in 2 low rs)) e) ∙ absent))
    go false e others =
        let here : cond (eqb r.id low) (tell 2 r) (tell_in 2 low rs) ≡ tell_in 2 low rs = ap (λ (t : Bool). cond t (tell 2 r) (tell_in 2 low rs)) e in
        others (λ absent. so (here ∙ absent)) (λ ne. otherwise (λ absent. ne (sym here ∙ absent)))

module _ (b c : List ℕ) where
  counted : (n low : ℕ) → length (lines_from n low b c) ≤ entries_from low (rows_of b) + entries_from low (rows_of c)
  unfolding lines_from
  counted zero low = omega arith
  counted (suc n) low = go (alike b (told_of b low) c (told_of c low)) refl (counted n (low + 1))
    where
      rest : ℕ
      rest = length (lines_from n (low + 1) b c)

      all : ℕ
      all = entries_from low (rows_of b) + entries_from low (rows_of c)

      go : (t : Bool) → alike b (told_of b low) c (told_of c low) ≡ t → rest ≤ entries_from (low + 1) (rows_of b) + entries_from (low + 1) (rows_of c)
          → length (cond t (lines_from n (low + 1) b c) (line_of b c low ∷ lines_from n (low + 1) b c)) ≤ all
      go true e h = let l : rest ≤ all = omega (arith, fewer low (rows_of b), fewer low (rows_of c)) in l
      go false e h =
          is_absent low (rows_of b) (suc rest ≤ all)
          (λ x.
          is_absent low (rows_of c) (suc rest ≤ all)
          (λ y. absurd (false≢true (sym e ∙ both_absent b c (told_of b low) (told_of c low) x y)))
          (λ y. omega (arith, fewer low (rows_of b), one_fewer low (rows_of c) y)))
          (λ x. omega (arith, fewer low (rows_of c), one_fewer low (rows_of b) x))

  pub most_lines : well_formed 2 b ≡ true → well_formed 2 c ≡ true → (n low : ℕ) → length (lines_from n low b c) ≤ 512
  most_lines one two n low =
      omega (arith, counted n low, all_entries low (rows_of b), all_entries low (rows_of c), length_rows_from (count_of b) (drop 8 b), length_rows_from (count_of c) (drop 8 c), (formed_only 2 b one).count, (formed_only 2 c two).count)
