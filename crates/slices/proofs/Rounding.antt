-- A round of forty at a time: what is left to do, and what is undone already; and the constants.
use mathlib.Core.Path.{◌≡◌, refl, sym, ap, ◌∙◌}
use mathlib.Core.List.{List, [], ◌∷◌}
use Prim.Native.Nat.{ℕ, zero, suc, ◌+◌, ◌*◌, ◌/◌, ◌<◌, ◌≤◌}
use native.Mathlib.Omega.{arith}
use lib.ListN.{length, take, drop, get_or}
use Rattle.std.specs.Simd.{first_chunks}
use Rattle.std.proofs.lemmas.List.{drop-drop}
use Rattle.bits.specs.Digit.{digit, bit}
use Rattle.bits.proofs.Computed.{agree}
use Rattle.published.specs.Rounds.{step, constant, round, rounds, unround, unrounds}
use Rattle.published.specs.Gift128.{rounds128, unrounds128}
use Rattle.turning.specs.Slices.{lane}
use Rattle.slices.specs.InnerMasks.{pair_in, pair_of, pairs_in}
use Rattle.slices.specs.Inner.{Lanes}

-- ---- the constants, by the table

abbrev constants : List ℕ
constants = 0x01 ∷ 0x03 ∷ 0x07 ∷ 0x0f ∷ 0x1f ∷ 0x3e ∷ 0x3d ∷ 0x3b ∷ 0x37 ∷ 0x2f ∷ 0x1e ∷ 0x3c ∷ 0x39 ∷ 0x33 ∷ 0x27 ∷ 0x0e ∷ 0x1d ∷ 0x3a ∷ 0x35 ∷ 0x2b ∷ 0x16 ∷ 0x2c ∷ 0x18 ∷ 0x30 ∷ 0x21 ∷ 0x02 ∷ 0x05 ∷ 0x0b ∷ 0x17 ∷ 0x2e ∷ 0x1c ∷ 0x38 ∷ 0x31 ∷ 0x23 ∷ 0x06 ∷ 0x0d ∷ 0x1b ∷ 0x36 ∷ 0x2d ∷ 0x1a ∷ []

pub constant_at_lem : (r : ℕ) → r < 40 → get_or constants r 0 ≡ constant (suc r)
unfolding constant step bit digit
constant_at_lem = agree 40 (λ r. get_or constants r 0) (λ r. constant (suc r)) tt

-- ---- the masks of a round

chunk_at_lem : (k : ℕ) (masks : List ℕ) (r : ℕ) → r < k → get_or (first_chunks 64 k masks) r [] ≡ take 64 (drop (64 * r) masks)
chunk_at_lem zero masks r h = absurd (omega arith)
chunk_at_lem (suc k) masks zero h = refl
chunk_at_lem (suc k) masks (suc r) h =
    let next : 64 + 64 * r ≡ 64 * suc r = omega arith in
    chunk_at_lem k (drop 64 masks) r (omega arith) ∙ ap (take 64) (drop-drop (64 * r) 64 masks) ∙ ap (λ (n : ℕ). take 64 (drop n masks)) next

pub key_at_lem : (masks : List ℕ) (keys : List (List ℕ)) (r : ℕ) → keys ≡ first_chunks 64 (length masks / 64) masks → length masks ≡ 2560 → r < 40
    → get_or keys r [] ≡ take 64 (drop (64 * r) masks)
key_at_lem masks keys r e len h = ap (λ (l : List (List ℕ)). get_or l r []) e ∙ chunk_at_lem (length masks / 64) masks r (omega arith)

-- ---- what is left after r rounds

pub record Rest (masks x₀ : List ℕ) (r : ℕ) (x : List ℕ) : Type 0 where
  pub size : length x ≡ 128
  pub rest : (n : ℕ) → r + n ≡ 40 → (b : ℕ) → b < 64 → rounds128 (pairs_in masks b n r) r (lane x b) ≡ rounds128 (pairs_in masks b 40 0) 0 (lane x₀ b)

pub rest_all : (masks x : List ℕ) → length x ≡ 128 → Rest masks x 0 x
rest_all masks x e = record { size = e; rest = λ n h b l. ap (λ (k : ℕ). rounds128 (pairs_in masks b k 0) 0 (lane x b)) (all n h) }
  where
    all : (n : ℕ) → 0 + n ≡ 40 → n ≡ 40
    all n h = omega arith

pub rest_less : (masks x₀ : List ℕ) (r n : ℕ) {k : List ℕ} {c : ℕ} {x y : List ℕ} → n ≡ suc r → k ≡ take 64 (drop (64 * r) masks) → c ≡ constant (suc r)
    → Rest masks x₀ r x → Lanes (λ b. round 128 1 (pair_in k b) c) x y → Rest masks x₀ n y
unfolding rounds pairs_in
rest_less masks x₀ r n {k} {c} {x} {y} e ek ec before one =
    record {
      size = one.size;
      rest =
          λ m h b l.
          ap (λ (j : ℕ). rounds128 (pairs_in masks b m j) j (lane y b)) e
          ∙ ap (rounds128 (pairs_in masks b m (suc r)) (suc r)) (one.lanes b l ∙ (λ i. round 128 1 (pair_in (ek i) b) (ec i) (lane x b)))
          ∙ before.rest (suc m) (left m h) b l;
    }
  where
    left : (m : ℕ) → n + m ≡ 40 → r + suc m ≡ 40
    left m h = omega arith

pub rest_none : (masks x₀ x : List ℕ) (r : ℕ) → r ≡ 40 → Rest masks x₀ r x → Lanes (λ b. rounds128 (pairs_in masks b 40 0) 0) x₀ x
unfolding rounds pairs_in
rest_none masks x₀ x r e s = record { size = s.size; lanes = λ b l. s.rest 0 (end e) b l }
  where
    end : r ≡ 40 → r + 0 ≡ 40
    end e = omega arith

-- ---- what is undone down to round r

pub record Undone (masks x₀ : List ℕ) (r : ℕ) (x : List ℕ) : Type 0 where
  pub size : length x ≡ 128
  pub undone : (n : ℕ) → r + n ≡ 40 → (b : ℕ) → b < 64 → lane x b ≡ unrounds128 (pairs_in masks b n r) r (lane x₀ b)

pub undone_none : (masks x : List ℕ) → length x ≡ 128 → Undone masks x 40 x
unfolding unrounds pairs_in
undone_none masks x e = record { size = e; undone = λ n h b l. sym (ap (λ (k : ℕ). unrounds128 (pairs_in masks b k 40) 40 (lane x b)) (none n h)) }
  where
    none : (n : ℕ) → 40 + n ≡ 40 → n ≡ 0
    none n h = omega arith

pub undone_more : (masks x₀ : List ℕ) (r n : ℕ) {k : List ℕ} {c : ℕ} {x y : List ℕ} → n ≡ suc r → n ≤ 40 → k ≡ take 64 (drop (64 * r) masks) → c ≡ constant (suc r)
    → Undone masks x₀ n x → Lanes (λ b. unround 128 1 (pair_in k b) c) x y → Undone masks x₀ r y
unfolding unrounds pairs_in
undone_more masks x₀ r n {k} {c} {x} {y} e room ek ec before one = record { size = one.size; undone = λ m h b l. go m h b l }
  where
    go : (m : ℕ) → r + m ≡ 40 → (b : ℕ) → b < 64 → lane y b ≡ unrounds128 (pairs_in masks b m r) r (lane x₀ b)
    go zero h b l = absurd (omega arith)
    go (suc m) h b l =
        let left : n + m ≡ 40 = omega arith in
        one.lanes b l ∙ (λ i. unround 128 1 (pair_in (ek i) b) (ec i) (lane x b))
        ∙ ap (unround 128 1 (pair_of masks r b) (constant (suc r))) (before.undone m left b l ∙ ap (λ (j : ℕ). unrounds128 (pairs_in masks b m j) j (lane x₀ b)) e)

pub undone_all : (masks x₀ x : List ℕ) (r : ℕ) → r ≡ 0 → Undone masks x₀ r x → Lanes (λ b. unrounds128 (pairs_in masks b 40 0) 0) x₀ x
undone_all masks x₀ x r e s = record { size = s.size; lanes = λ b l. s.undone 40 (end e) b l ∙ ap (λ (k : ℕ). unrounds128 (pairs_in masks b 40 k) k (lane x₀ b)) e }
  where
    end : r ≡ 0 → r + 40 ≡ 40
    end e = omega arith
