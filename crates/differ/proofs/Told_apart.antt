-- Two answers are alike exactly if they are the same answer.
use mathlib.Core.Path.{◌≡◌, refl, sym, ap, ap₂, ◌∙◌}
use mathlib.Core.Bool.{Bool, true, false, cond, not, ◌&&◌, ◌||◌, false≢true}
use mathlib.Core.List.{List, [], ◌∷◌}
use Prim.Native.Nat.{ℕ, ◌*◌, ◌≤◌}
use native.Mathlib.Omega.{arith}
use lib.Dec.{eqb}
use lib.ListN.{length, drop, length-drop}
use borrow.Author.Tests.{eq-eqb, eqb-true, ne_eqb}
use Rattle.bits.proofs.Truth.{both, together}
use Rattle.published.specs.Bytes.{Bytes}
use Rattle.published.proofs.Reading.{bytes_drop}
use Rattle.cmac.specs.Calls.{same}
use Rattle.cmac.proofs.Strings.{same_refl, same_only}
use Rattle.bundle_format.specs.Format.{knows, first_body}
use Rattle.bundle_format.specs.Reader.{count_of, end_of, rows_of, ABSENT, VALUE, UNKNOWN, bare, tell, tell_in, read_code, Answer, value, absent, unknown, refused, meant}
use Rattle.bundle_format.specs.declared.Row.{Row}
use Rattle.bundle_format.specs.declared.Told.{Told}
use Rattle.bundle_format.proofs.Rows.{AllFit, more, rows_fit}
use Rattle.bundle_format.proofs.Accepted.{Whole, accepts}
use Rattle.differ.specs.Difference.{told_of, body_of, alike}
use Rattle.differ.specs.Promises.{answer}

-- ---- how a setting can stand in an accepted bundle

data Stands (t : Told) : Type 0 where
  as_absent : t.state ≡ ABSENT → Stands t
  as_unknown : t.state ≡ UNKNOWN → Stands t
  as_value : t.state ≡ VALUE → Stands t

stands : (id : ℕ) (rs : List Row) → Stands (tell_in 2 id rs)
unfolding tell_in tell
stands id [] = as_absent refl
stands id (r ∷ rs) = go (eqb r.id id) (knows 2 r.kind) (stands id rs)
  where
    go : (t k : Bool) → Stands (tell_in 2 id rs) → Stands (cond t (cond k (record { state = VALUE; id = r.id; kind = r.kind; at = r.at; len = r.len }) (bare UNKNOWN r.id)) (tell_in 2 id rs))
    go true true s = as_value refl
    go true false s = as_unknown refl
    go false k s = s

-- what is meant, by the state
by_state : (b : List ℕ) (t : Told) (s : ℕ) → Answer
by_state b t s = cond (eqb s VALUE) (value t.kind (body_of b t)) (cond (eqb s UNKNOWN) unknown (cond (eqb s ABSENT) absent refused))

module _ (b : List ℕ) (t : Told) where
  meant_by : (s : ℕ) → t.state ≡ s → meant b t ≡ by_state b t s
  unfolding meant by_state
  meant_by s e = ap (by_state b t) e

  means_value : t.state ≡ VALUE → meant b t ≡ value t.kind (body_of b t)
  unfolding by_state
  means_value = meant_by VALUE

  means_unknown : t.state ≡ UNKNOWN → meant b t ≡ unknown
  unfolding by_state
  means_unknown = meant_by UNKNOWN

  means_absent : t.state ≡ ABSENT → meant b t ≡ absent
  unfolding by_state
  means_absent = meant_by ABSENT

-- ---- alike, and the same

module _ (b : List ℕ) (t : Told) (c : List ℕ) (u : Told) where
  -- the last part of the test, where the states are s
  rest : (s : ℕ) → Bool
  rest s = not (eqb s VALUE) || (eqb t.kind u.kind && same (body_of b t) (body_of c u))

  values_same : eqb t.kind u.kind && same (body_of b t) (body_of c u) ≡ true → value t.kind (body_of b t) ≡ value u.kind (body_of c u)
  values_same e =
      let p = both (eqb t.kind u.kind) (same (body_of b t) (body_of c u)) e in
      ap₂ value (eqb-true t.kind u.kind p.0) (same_only (body_of b t) (body_of c u) p.1)

  alike_rest : t.state ≡ u.state → alike b t c u ≡ rest t.state
  unfolding alike rest
  alike_rest e = ap (λ (x : Bool). x && rest t.state) (eq-eqb t.state u.state e)

  alike_same : Stands t → alike b t c u ≡ true → meant b t ≡ meant c u
  unfolding alike rest
  alike_same s e = go s
    where
      p : (eqb t.state u.state ≡ true) × (rest t.state ≡ true)
      p = both (eqb t.state u.state) (rest t.state) e

      states : t.state ≡ u.state
      states = eqb-true t.state u.state p.0

      go : Stands t → meant b t ≡ meant c u
      go (as_absent h) = means_absent b t h ∙ sym (means_absent c u (sym states ∙ h))
      go (as_unknown h) = means_unknown b t h ∙ sym (means_unknown c u (sym states ∙ h))
      go (as_value h) = means_value b t h ∙ values_same (ap rest (sym h) ∙ p.1) ∙ sym (means_value c u (sym states ∙ h))

  alike_by : (s : ℕ) → t.state ≡ s → u.state ≡ s → rest s ≡ true → alike b t c u ≡ true
  alike_by s e f h = alike_rest (e ∙ sym f) ∙ ap rest e ∙ h

  same_alike : Stands t → Stands u → meant b t ≡ meant c u → alike b t c u ≡ true
  unfolding rest
  same_alike (as_absent e) (as_absent f) m = alike_by ABSENT e f refl
  same_alike (as_unknown e) (as_unknown f) m = alike_by UNKNOWN e f refl
  same_alike (as_value e) (as_value f) m =
      let v : value t.kind (body_of b t) ≡ value u.kind (body_of c u) = sym (means_value b t e) ∙ m ∙ means_value c u f in
      let k : t.kind ≡ u.kind = cc in
      let x : body_of b t ≡ body_of c u = cc in
      alike_by VALUE e f (together (eqb t.kind u.kind) (same (body_of b t) (body_of c u)) (eq-eqb t.kind u.kind k) (ap (λ (l : List ℕ). same l (body_of c u)) x ∙ same_refl (body_of c u)))
  same_alike (as_absent e) (as_unknown f) m = absurd (apart (sym (means_absent b t e) ∙ m ∙ means_unknown c u f))
    where
      apart : absent ≡ unknown → ⊥
      apart p = let z : ◌≡◌ {A = ℕ} 0 1 = cc in omega arith
  same_alike (as_absent e) (as_value f) m = absurd (apart u.kind (body_of c u) (sym (means_absent b t e) ∙ m ∙ means_value c u f))
    where
      apart : (k : ℕ) (l : List ℕ) → absent ≡ value k l → ⊥
      apart k l p = let z : ◌≡◌ {A = ℕ} 0 1 = cc in omega arith
  same_alike (as_unknown e) (as_absent f) m = absurd (apart (sym (means_unknown b t e) ∙ m ∙ means_absent c u f))
    where
      apart : unknown ≡ absent → ⊥
      apart p = let z : ◌≡◌ {A = ℕ} 0 1 = cc in omega arith
  same_alike (as_unknown e) (as_value f) m = absurd (apart u.kind (body_of c u) (sym (means_unknown b t e) ∙ m ∙ means_value c u f))
    where
      apart : (k : ℕ) (l : List ℕ) → unknown ≡ value k l → ⊥
      apart k l p = let z : ◌≡◌ {A = ℕ} 0 1 = cc in omega arith
  same_alike (as_value e) (as_absent f) m = absurd (apart t.kind (body_of b t) (sym (means_value b t e) ∙ m ∙ means_absent c u f))
    where
      apart : (k : ℕ) (l : List ℕ) → value k l ≡ absent → ⊥
      apart k l p = let z : ◌≡◌ {A = ℕ} 0 1 = cc in omega arith
  same_alike (as_value e) (as_unknown f) m = absurd (apart t.kind (body_of b t) (sym (means_value b t e) ∙ m ∙ means_unknown c u f))
    where
      apart : (k : ℕ) (l : List ℕ) → value k l ≡ unknown → ⊥
      apart k l p = let z : ◌≡◌ {A = ℕ} 0 1 = cc in omega arith

-- of an id in two bundles
module _ (b c : List ℕ) (id : ℕ) where
  pub told_same : alike b (told_of b id) c (told_of c id) ≡ true → answer b id ≡ answer c id
  told_same = alike_same b (told_of b id) c (told_of c id) (stands id (rows_of b))

  pub same_told : answer b id ≡ answer c id → alike b (told_of b id) c (told_of c id) ≡ true
  same_told = same_alike b (told_of b id) c (told_of c id) (stands id (rows_of b)) (stands id (rows_of c))

  pub told-apart : alike b (told_of b id) c (told_of c id) ≡ false → answer b id ≡ answer c id → ⊥
  told-apart e m = false≢true (sym e ∙ same_told m)

-- ---- an id of more than four bytes is in no bundle

past_all : (rs : List Row) (id : ℕ) → AllFit rs → 4294967296 ≤ id → tell_in 2 id rs ≡ bare ABSENT 0
unfolding tell_in
past_all [] id fits h = refl
past_all (r ∷ rs) id (more f fits) h =
    ap (λ (t : Bool). cond t (tell 2 r) (tell_in 2 id rs)) (ne_eqb r.id id (λ e. omega (arith, f.id))) ∙ past_all rs id fits h

pub past_answer : (key b : List ℕ) (id : ℕ) → Bytes b → read_code 2 key b ≡ 0 → 4294967296 ≤ id → answer b id ≡ absent
past_answer key b id bytes e h = means_absent b (told_of b id) (ap (λ (t : Told). t.state) (past_all (rows_of b) id (rows_fit (count_of b) (drop 8 b) (bytes_drop 8 b bytes) in_table) h))
  where
    w : Whole 2 key b
    w = (accepts 2 key b e).0

    in_table : 12 * count_of b ≤ length (drop 8 b)
    in_table = let l : 24 ≤ length b = w.size.least in let t : first_body (count_of b) ≤ end_of b = w.formed.table in simp length-drop (omega arith)
