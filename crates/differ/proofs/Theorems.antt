-- What request 2026-13 wants of the list: exactly the ids whose answers differ, rising and so once; the sides exchanged; nothing of a bundle against itself, or after a refusal.
use mathlib.Core.Path.{◌≡◌, refl, sym, ap, ap₂, ◌∙◌}
use mathlib.Core.Bool.{Bool, true, false, cond, false≢true}
use mathlib.Core.Logic.{◌≢◌, ◌⊎◌, inl, inr, ⊎_elim}
use mathlib.Core.List.{List, [], ◌∷◌, map}
use Prim.Native.Nat.{ℕ, zero, suc, ◌+◌, ◌<◌, ◌≤◌}
use native.Mathlib.Omega.{arith}
use lib.Dec.{eqb, ltb}
use lib.ListN.{length}
use borrow.Author.Tests.{eqb-true, eqb-false, ltb-true, ltb-false}
use Rattle.published.specs.Bytes.{Bytes}
use Rattle.bundle_format.specs.Reader.{read_code}
use Rattle.differ.specs.Difference.{told_of, alike, Line, line_of, lines_from, ids, listed}
use Rattle.differ.specs.Promises.{answer, In, here, there, Rising, none, more, exchanged}
use Rattle.differ.proofs.Stretches.{most_lines}
use Rattle.differ.proofs.Outcomes.{right_when, first_refused, second-refused, both_accepted}
use Rattle.differ.proofs.Told_apart.{told_same, same_told, told-apart, past_answer}

no_place : (l : Line) → In l [] → ⊥
no_place l = elim [ ]

nowhere : (l : Line) (ls : List Line) → ls ≡ [] → In l ls → ⊥
nowhere l [] e i = absurd (no_place l i)
nowhere l (m ∷ ls) e i = let z : ◌≡◌ {A = ℕ} (suc (length ls)) 0 = ap length e in omega arith

first_or : (l m : Line) (ls : List Line) → In l (m ∷ ls) → (l ≡ m) ⊎ In l ls
first_or l m ls here = inl refl
first_or l m ls (there i) = inr i

-- ---- of a stretch of ids

module _ (b c : List ℕ) where
  stretch_rises : (n low : ℕ) → Rising low (lines_from n low b c)
  unfolding lines_from line_of
  stretch_rises zero low = none
  stretch_rises (suc n) low = go (alike b (told_of b low) c (told_of c low)) (stretch_rises n (low + 1))
    where
      weaker : (ls : List Line) → Rising (low + 1) ls → Rising low ls
      weaker [] none = none
      weaker (l ∷ ls) (more h r) = more {low = low} {l = l} (omega arith) r

      go : (t : Bool) → Rising (low + 1) (lines_from n (low + 1) b c) → Rising low (cond t (lines_from n (low + 1) b c) (line_of b c low ∷ lines_from n (low + 1) b c))
      go true r = weaker (lines_from n (low + 1) b c) r
      go false r = more {low = low} {l = line_of b c low} (omega arith) r

  -- whose answers differ is listed
  stretch_all : (n low id : ℕ) → low ≤ id → id < low + n → alike b (told_of b id) c (told_of c id) ≡ false → In (line_of b c id) (lines_from n low b c)
  unfolding lines_from
  stretch_all zero low id l h e = absurd (omega arith)
  stretch_all (suc n) low id l h e = go (eqb low id) refl (alike b (told_of b low) c (told_of c low)) refl (λ k. stretch_all n (low + 1) id k (omega arith) e)
    where
      go : (i : Bool) → eqb low id ≡ i → (t : Bool) → alike b (told_of b low) c (told_of c low) ≡ t → (low + 1 ≤ id → In (line_of b c id) (lines_from n (low + 1) b c))
          → In (line_of b c id) (cond t (lines_from n (low + 1) b c) (line_of b c low ∷ lines_from n (low + 1) b c))
      go true i true f others = absurd (false≢true (sym e ∙ ap (λ (x : ℕ). alike b (told_of b x) c (told_of c x)) (sym (eqb-true low id i)) ∙ f))
      go true i false f others = rw (eqb-true low id i) here
      go false i true f others = others (omega (arith, eqb-false low id i))
      go false i false f others = there (others (omega (arith, eqb-false low id i)))

  -- and what is listed differs
  stretch_only : (n low : ℕ) (l : Line) → In l (lines_from n low b c) → (l ≡ line_of b c l.id) × (alike b (told_of b l.id) c (told_of c l.id) ≡ false)
  unfolding lines_from line_of
  stretch_only zero low l i = absurd (nowhere l [] refl i)
  stretch_only (suc n) low l i = go (alike b (told_of b low) c (told_of c low)) refl (stretch_only n (low + 1) l) i
    where
      found : (m : Line) → m ≡ line_of b c low → alike b (told_of b low) c (told_of c low) ≡ false → (m ≡ line_of b c m.id) × (alike b (told_of b m.id) c (told_of c m.id) ≡ false)
      found m is e =
          let id : m.id ≡ low = ap (λ (x : Line). x.id) is in
          (is ∙ ap (line_of b c) (sym id), ap (λ (x : ℕ). alike b (told_of b x) c (told_of c x)) id ∙ e)

      go : (t : Bool) → alike b (told_of b low) c (told_of c low) ≡ t
          → (In l (lines_from n (low + 1) b c) → (l ≡ line_of b c l.id) × (alike b (told_of b l.id) c (told_of c l.id) ≡ false))
          → In l (cond t (lines_from n (low + 1) b c) (line_of b c low ∷ lines_from n (low + 1) b c)) → (l ≡ line_of b c l.id) × (alike b (told_of b l.id) c (told_of c l.id) ≡ false)
      go true e others i = others i
      go false e others i = ⊎_elim (λ is. found l is e) others (first_or l (line_of b c low) (lines_from n (low + 1) b c) i)

  stretch_none : (n low : ℕ) → ((id : ℕ) → alike b (told_of b id) c (told_of c id) ≡ true) → lines_from n low b c ≡ []
  unfolding lines_from
  stretch_none zero low same = refl
  stretch_none (suc n) low same =
      ap (λ (t : Bool). cond t (lines_from n (low + 1) b c) (line_of b c low ∷ lines_from n (low + 1) b c)) (same low) ∙ stretch_none n (low + 1) same

  turned : (id : ℕ) → alike c (told_of c id) b (told_of b id) ≡ alike b (told_of b id) c (told_of c id)
  turned id = go (alike c (told_of c id) b (told_of b id)) (alike b (told_of b id) c (told_of c id)) refl refl
    where
      go : (t u : Bool) → alike c (told_of c id) b (told_of b id) ≡ t → alike b (told_of b id) c (told_of c id) ≡ u → t ≡ u
      go true true e f = refl
      go false false e f = refl
      go true false e f = absurd (told-apart b c id f (sym (told_same c b id e)))
      go false true e f = absurd (told-apart c b id e (sym (told_same b c id f)))

  stretch_turned : (n low : ℕ) → lines_from n low c b ≡ map exchanged (lines_from n low b c)
  unfolding lines_from line_of
  stretch_turned zero low = refl
  stretch_turned (suc n) low =
      ap₂ (λ (t : Bool) (ls : List Line). cond t ls (line_of c b low ∷ ls)) (turned low) (stretch_turned n (low + 1)) ∙ go (alike b (told_of b low) c (told_of c low))
    where
      go : (t : Bool) → cond t (map exchanged (lines_from n (low + 1) b c)) (line_of c b low ∷ map exchanged (lines_from n (low + 1) b c)) ≡ map exchanged (cond t (lines_from n (low + 1) b c) (line_of b c low ∷ lines_from n (low + 1) b c))
      go true = refl
      go false = refl

-- ---- of the list

module _ (key b c : List ℕ) where
  -- by the numbers of the two bundles: nothing, or the lines of all ids
  by_codes : (P : List Line → Type 0) → P [] → P (lines_from ids 0 b c) → P (listed key b c)
  by_codes P nothing all = go (eqb (read_code 2 key b) 0) refl (eqb (read_code 2 key c) 0) refl
    where
      go : (t : Bool) → eqb (read_code 2 key b) 0 ≡ t → (u : Bool) → eqb (read_code 2 key c) 0 ≡ u → P (listed key b c)
      go true e true f = rw (both_accepted key b c (eqb-true (read_code 2 key b) 0 e) (eqb-true (read_code 2 key c) 0 f)) all
      go true e false f = rw (second-refused key b c (eqb-false (read_code 2 key c) 0 f)) nothing
      go false e u f = rw (first_refused key b c (eqb-false (read_code 2 key b) 0 e)) nothing

  -- ids rise strictly, so that each is listed once
  pub rises : Rising 0 (listed key b c)
  rises = by_codes (Rising 0) none (stretch_rises b c ids 0)

  -- what is listed: an id with both its answers, which differ
  pub listed_differs : (l : Line) → In l (listed key b c) → (l ≡ line_of b c l.id) × (answer b l.id ≢ answer c l.id)
  listed_differs l = by_codes (λ ls. In l ls → (l ≡ line_of b c l.id) × (answer b l.id ≢ answer c l.id)) (λ i. absurd (nowhere l [] refl i)) (λ i. of_all (stretch_only b c ids 0 l i))
    where
      of_all : (l ≡ line_of b c l.id) × (alike b (told_of b l.id) c (told_of c l.id) ≡ false) → (l ≡ line_of b c l.id) × (answer b l.id ≢ answer c l.id)
      of_all p = (p.0, told-apart b c l.id p.1)

  -- a refused bundle lists nothing
  pub refused_first : read_code 2 key b ≢ 0 → listed key b c ≡ []
  refused_first = first_refused key b c

  pub refused-second : read_code 2 key c ≢ 0 → listed key b c ≡ []
  refused-second = second-refused key b c

  -- no more lines than 512
  pub at_most : length (listed key b c) ≤ 512
  at_most = go (eqb (read_code 2 key b) 0) refl (eqb (read_code 2 key c) 0) refl
    where
      empty : listed key b c ≡ [] → length (listed key b c) ≤ 512
      empty e = omega (arith, ap length e)

      go : (t : Bool) → eqb (read_code 2 key b) 0 ≡ t → (u : Bool) → eqb (read_code 2 key c) 0 ≡ u → length (listed key b c) ≤ 512
      go true e true f =
          let x : read_code 2 key b ≡ 0 = eqb-true (read_code 2 key b) 0 e in
          let y : read_code 2 key c ≡ 0 = eqb-true (read_code 2 key c) 0 f in
          rw (both_accepted key b c x y) (most_lines b c (right_when key b x) (right_when key c y) ids 0)
      go true e false f = empty (second-refused key b c (eqb-false (read_code 2 key c) 0 f))
      go false e u f = empty (first_refused key b c (eqb-false (read_code 2 key b) 0 e))

  module _ (bytes : Bytes b) (bytes' : Bytes c) (e : read_code 2 key b ≡ 0) (f : read_code 2 key c ≡ 0) where
    -- every id whose answers differ is listed
    pub differs_listed : (id : ℕ) → answer b id ≢ answer c id → In (line_of b c id) (listed key b c)
    differs_listed id apart = rw (both_accepted key b c e f) (go (ltb id ids) refl (alike b (told_of b id) c (told_of c id)) refl)
      where
        go : (t : Bool) → ltb id ids ≡ t → (u : Bool) → alike b (told_of b id) c (told_of c id) ≡ u → In (line_of b c id) (lines_from ids 0 b c)
        go true h true g = absurd (apart (told_same b c id g))
        go true h false g = stretch_all b c ids 0 id (omega arith) (omega (arith, ltb-true id ids h)) g
        go false h u g = absurd (apart (past_answer key b id bytes e (ltb-false id ids h) ∙ sym (past_answer key c id bytes' f (ltb-false id ids h))))

    -- if nothing is listed, every id answers alike in both
    pub nothing-listed : listed key b c ≡ [] → (id : ℕ) → answer b id ≡ answer c id
    nothing-listed empty id = go (alike b (told_of b id) c (told_of c id)) refl
      where
        go : (u : Bool) → alike b (told_of b id) c (told_of c id) ≡ u → answer b id ≡ answer c id
        go true g = told_same b c id g
        go false g = absurd (nowhere (line_of b c id) (listed key b c) empty (differs_listed id (told-apart b c id g)))

-- exchanging the two bundles exchanges the sides
pub sides_exchanged : (key b c : List ℕ) → listed key c b ≡ map exchanged (listed key b c)
sides_exchanged key b c = go (eqb (read_code 2 key b) 0) refl (eqb (read_code 2 key c) 0) refl
  where
    go : (t : Bool) → eqb (read_code 2 key b) 0 ≡ t → (u : Bool) → eqb (read_code 2 key c) 0 ≡ u → listed key c b ≡ map exchanged (listed key b c)
    go true e true f =
        let x : read_code 2 key b ≡ 0 = eqb-true (read_code 2 key b) 0 e in
        let y : read_code 2 key c ≡ 0 = eqb-true (read_code 2 key c) 0 f in
        both_accepted key c b y x ∙ stretch_turned b c ids 0 ∙ ap (map exchanged) (sym (both_accepted key b c x y))
    go true e false f =
        let y : read_code 2 key c ≢ 0 = eqb-false (read_code 2 key c) 0 f in
        first_refused key c b y ∙ ap (map exchanged) (sym (second-refused key b c y))
    go false e u f =
        let x : read_code 2 key b ≢ 0 = eqb-false (read_code 2 key b) 0 e in
        second-refused key c b x ∙ ap (map exchanged) (sym (first_refused key b c x))

-- a bundle against itself lists nothing
pub against_itself : (key b : List ℕ) → listed key b b ≡ []
against_itself key b = by_codes key b b (λ ls. ls ≡ []) refl (stretch_none b b ids 0 (λ id. same_told b b id refl))
