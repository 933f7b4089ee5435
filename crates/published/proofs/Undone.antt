-- Undoing a round undoes it and a round redoes it, for every state of the width and any pair and constant; hence for any number of rounds.
use mathlib.Core.Path.{◌≡◌, refl, sym, ap, ◌∙◌}
use mathlib.Core.Bool.{Bool, true, false, false≢true}
use mathlib.Core.List.{List, [], ◌∷◌, ◌++◌}
use Prim.Native.Nat.{ℕ, zero, suc, ◌+◌, ◌^◌, ◌<◌}
use native.Mathlib.Nat.{add-zero, add-suc, suc-add, not-suc-le-zero}
use native.Mathlib.Decide.{ℕ_discrete}
use native.Mathlib.Omega.{arith}
use lib.Dec.{eqb}
use lib.ListN.{length}
use lib.Pow.{pow_pos}
use borrow.Author.Tests.{eq-eqb, eqb-true}
use Rattle.bits.proofs.Truth.{cond_either}
use Rattle.published.specs.Rounds.{Pair, entry, key_bit, constant_bit, sub_cells, perm_bits, xored, round, rounds, find, unround, unrounds}
use Rattle.published.specs.Inner.{unentry, un_perm_bits, steps_back}
use Rattle.published.proofs.Steps.{Width, entry_lt, unentry-lt, unentry-entry, entry-unentry, sub_cells-lt, sub_cells_undo, perm_bits-lt, un_perm_bits-lt, un_perm_perm, perm_un_perm, xored-lt, xored-twice}

-- ---- a number that a test finds

find-le : (test : ℕ → Bool) (k : ℕ) → find test k < suc k
unfolding find
find-le test zero = omega arith
find-le test (suc k) = let h = find-le test k in cond_either (λ (x : ℕ). x < suc (suc k)) (test k) k (find test k) (λ e. omega arith) (λ e. omega (arith, h))

find-lt : (test : ℕ → Bool) (k : ℕ) → 0 < k → find test k < k
unfolding find
find-lt test zero h = h
find-lt test (suc k) h = cond_either (λ (x : ℕ). x < suc k) (test k) k (find test k) (λ e. omega arith) (λ e. find-le test k)

find_is : (test : ℕ → Bool) (k x : ℕ) → x < k → test x ≡ true → ((y : ℕ) → test y ≡ true → y < k → y ≡ x) → find test k ≡ x
unfolding find
find_is test zero x h t only = absurd (not-suc-le-zero h)
find_is test (suc k) x h t only =
    cond_either (λ (y : ℕ). y ≡ x) (test k) k (find test k) (λ e. only k e (omega arith))
    (λ e. find_is test k x (smaller e) t (λ y u l. only y u (omega arith)))
  where
    smaller : test k ≡ false → x < k
    smaller e =
        elim (ℕ_discrete x k) [
          | yes p ↦ absurd (false≢true (sym e ∙ ap test (sym p) ∙ t))
          | no ne ↦ omega arith
        ]

module _ (n j : ℕ) (ok : Width n) where
  module _ (p : Pair) (c s : ℕ) where
    pub round-lt : round n j p c s < 2 ^ n
    unfolding round
    round-lt = xored-lt n (constant_bit n c) (xored n (key_bit j p) (perm_bits n (sub_cells entry n s)))

    -- ---- the steps back undo the round, and are undone by it

    steps_back-lt : steps_back n j p c s < 2 ^ n
    unfolding steps_back
    steps_back-lt = sub_cells-lt n ok unentry unentry-lt (un_perm_bits n (xored n (key_bit j p) (xored n (constant_bit n c) s)))

    steps_back-round : s < 2 ^ n → steps_back n j p c (round n j p c s) ≡ s
    unfolding round steps_back
    steps_back-round h =
        rw (
          xored-twice n (constant_bit n c) (xored n (key_bit j p) (perm_bits n (sub_cells entry n s))) (xored-lt n (key_bit j p) (perm_bits n (sub_cells entry n s))),
          xored-twice n (key_bit j p) (perm_bits n (sub_cells entry n s)) (perm_bits-lt n ok (sub_cells entry n s)),
          un_perm_perm n ok (sub_cells entry n s) (sub_cells-lt n ok entry entry_lt s),
        )
        (sub_cells_undo n ok entry entry_lt unentry unentry-entry s h)

    round-steps_back : s < 2 ^ n → round n j p c (steps_back n j p c s) ≡ s
    unfolding round steps_back
    round-steps_back h =
        let a : ℕ = xored n (constant_bit n c) s in
        let b : ℕ = xored n (key_bit j p) a in
        rw (
          sub_cells_undo n ok unentry unentry-lt entry entry-unentry (un_perm_bits n b) (un_perm_bits-lt n ok b),
          perm_un_perm n ok b (xored-lt n (key_bit j p) a),
          xored-twice n (key_bit j p) a (xored-lt n (constant_bit n c) s),
        )
        (xored-twice n (constant_bit n c) s h)

  -- ---- so they find the one state that the round turns into s

  module _ (p : Pair) (c s : ℕ) where
    pub unround-lt : unround n j p c s < 2 ^ n
    unfolding unround
    unround-lt = find-lt (λ x. eqb (round n j p c x) s) (2 ^ n) (pow_pos n)

    pub unround_is : s < 2 ^ n → unround n j p c s ≡ steps_back n j p c s
    unfolding unround
    unround_is h =
        find_is (λ x. eqb (round n j p c x) s) (2 ^ n) (steps_back n j p c s) (steps_back-lt p c s)
        (eq-eqb (round n j p c (steps_back n j p c s)) s (round-steps_back p c s h))
        (λ y e l. sym (steps_back-round p c y l) ∙ ap (steps_back n j p c) (eqb-true (round n j p c y) s e))

  module _ (p : Pair) (c s : ℕ) (h : s < 2 ^ n) where
    pub unround-round : unround n j p c (round n j p c s) ≡ s
    unround-round = unround_is p c (round n j p c s) (round-lt p c s) ∙ steps_back-round p c s h

    pub round-unround : round n j p c (unround n j p c s) ≡ s
    round-unround = ap (round n j p c) (unround_is p c s h) ∙ round-steps_back p c s h

  -- ---- any number of rounds

  pub rounds-lt : (ps : List Pair) (r s : ℕ) → s < 2 ^ n → rounds n j ps r s < 2 ^ n
  unfolding rounds
  rounds-lt [] r s h = h
  rounds-lt (p ∷ ps) r s h = rounds-lt ps (suc r) _ (round-lt p _ s)

  pub unrounds-lt : (ps : List Pair) (r s : ℕ) → s < 2 ^ n → unrounds n j ps r s < 2 ^ n
  unfolding unrounds
  unrounds-lt [] r s h = h
  unrounds-lt (p ∷ ps) r s h = unround-lt p _ (unrounds n j ps (suc r) s)

  pub unrounds-rounds : (ps : List Pair) (r s : ℕ) → s < 2 ^ n → unrounds n j ps r (rounds n j ps r s) ≡ s
  unfolding rounds unrounds
  unrounds-rounds [] r s h = refl
  unrounds-rounds (p ∷ ps) r s h =
      ap (unround n j p _) (unrounds-rounds ps (suc r) (round n j p _ s) (round-lt p _ s)) ∙ unround-round p _ s h

  pub rounds-unrounds : (ps : List Pair) (r s : ℕ) → s < 2 ^ n → rounds n j ps r (unrounds n j ps r s) ≡ s
  unfolding rounds unrounds
  rounds-unrounds [] r s h = refl
  rounds-unrounds (p ∷ ps) r s h =
      let t : ℕ = unrounds n j ps (suc r) s in
      ap (rounds n j ps (suc r)) (round-unround p _ t (unrounds-lt ps (suc r) s h)) ∙ rounds-unrounds ps (suc r) s h

-- ---- rounds in two parts, done and undone

pub rounds-append : (n j : ℕ) (ps qs : List Pair) (r s : ℕ) → rounds n j (ps ++ qs) r s ≡ rounds n j qs (r + length ps) (rounds n j ps r s)
unfolding rounds
rounds-append n j [] qs r s = ap (λ (m : ℕ). rounds n j qs m s) (sym (add-zero r))
rounds-append n j (p ∷ ps) qs r s =
    let t : ℕ = rounds n j (p ∷ []) r s in
    rounds-append n j ps qs (suc r) t ∙ ap (λ (m : ℕ). rounds n j qs m (rounds n j ps (suc r) t)) (suc-add r (length ps) ∙ sym (add-suc r (length ps)))

pub unrounds-append : (n j : ℕ) (ps qs : List Pair) (r s : ℕ)
    → unrounds n j (ps ++ qs) r s ≡ unrounds n j ps r (unrounds n j qs (r + length ps) s)
unfolding unrounds
unrounds-append n j [] qs r s = ap (λ (m : ℕ). unrounds n j qs m s) (sym (add-zero r))
unrounds-append n j (p ∷ ps) qs r s =
    ap (unround n j p _)
    (unrounds-append n j ps qs (suc r) s
    ∙ ap (λ (m : ℕ). unrounds n j ps (suc r) (unrounds n j qs m s)) (suc-add r (length ps) ∙ sym (add-suc r (length ps))))
