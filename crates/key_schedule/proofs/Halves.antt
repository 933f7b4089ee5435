-- Two words in one number: what its halves are, and moves of bits that are the same in both halves, by a computed test over all 64 places.
use mathlib.Core.Path.{◌≡◌, refl, sym, ap, ap₂, ◌∙◌}
use mathlib.Core.Bool.{Bool, true, false, cond, ◌&&◌}
use mathlib.Core.List.{[], ◌∷◌}
use Prim.Native.Nat.{ℕ, ◌+◌, ◌-◌, ◌*◌, ◌^◌, ◌≤◌, ◌<◌}
use native.Mathlib.Nat.{add-sub_of_le}
use native.Mathlib.Omega.{arith}
use lib.Arith.{digits_lt}
use lib.Dec.{T, ltb}
use lib.Pow.{high}
use borrow.Author.Tests.{ltb-true, ltb-false}
use Rattle.bits.specs.Digit.{bit}
use Rattle.bits.proofs.Bits.{bit_ext, bit_join_low, bit-mod, bit_shr}
use Rattle.bits.proofs.Computed.{below, and_left, and_right, bounded}
use Rattle.bits.proofs.Reflect.{W, atom, value, sized, tells, value-lt, bit_by_test}
use Rattle.primitives.specs.Words.{permuted}
use Rattle.primitives.proofs.Moves.{permuted-lt, permuted_then, bit-permuted}
use Rattle.key_schedule.specs.InnerHalves.{low_of, high_of, joined, in_both}

-- ---- the halves

pub bit_join : (k hi lo i : ℕ) → lo < 2 ^ k → bit (hi * 2 ^ k + lo) i ≡ cond (ltb i k) (bit lo i) (bit hi (i - k))
bit_join k hi lo i h = go (ltb i k) refl
  where
    go : (t : Bool) → ltb i k ≡ t → bit (hi * 2 ^ k + lo) i ≡ cond t (bit lo i) (bit hi (i - k))
    go true e = bit_join_low k hi lo i (ltb-true i k e)
    go false e =
        ap (bit (hi * 2 ^ k + lo)) (sym (add-sub_of_le (ltb-false i k e))) ∙ sym (bit_shr (hi * 2 ^ k + lo) k (i - k))
        ∙ ap (λ (m : ℕ). bit m (i - k)) (high hi k h)

pub low-joined : (low high : ℕ) → low < 2 ^ 32 → low_of (joined low high) ≡ low
low-joined low high h = omega arith

pub high-joined : (low high : ℕ) → low < 2 ^ 32 → high_of (joined low high) ≡ high
high-joined low high h = omega arith

pub joined-lt : (low high : ℕ) → low < 2 ^ 32 → high < 2 ^ 32 → joined low high < 2 ^ 64
joined-lt low high l h = digits_lt h l

pub low-lt : (x : ℕ) → low_of x < 2 ^ 32
low-lt x = omega arith

pub high_lt : (x : ℕ) → x < 2 ^ 64 → high_of x < 2 ^ 32
high_lt x h = omega arith

pub joined-halves : (x : ℕ) → joined (low_of x) (high_of x) ≡ x
joined-halves x = omega arith

-- f of a number's halves, where f gives words
pub both_joined : (f : ℕ → ℕ) (low high : ℕ) → low < 2 ^ 32 → in_both f (joined low high) ≡ joined (f low) (f high)
both_joined f low high h = ap₂ (λ (a b : ℕ). joined (f a) (f b)) (low-joined low high h) (high-joined low high h)

-- ---- moves

-- where bit i comes from, if the bits of each half move by σ
abbrev pub twice : (ℕ → ℕ) → ℕ → ℕ
twice σ i = cond (ltb i 32) (σ i) (32 + σ (i - 32))

-- an expression of one number moves both halves by σ, by the test
abbrev pub is_both : (ℕ → ℕ) → W → Bool
is_both σ e = below 32 (λ i. ltb (σ i) 32) && (sized (64 ∷ []) 64 e && tells (64 ∷ []) 64 e 64 (λ i. atom 0 (twice σ i)))

bit_both : (σ : ℕ → ℕ) (x i : ℕ) → ((j : ℕ) → j < 32 → σ j < 32) → i < 64 → bit (in_both (permuted σ) x) i ≡ bit x (twice σ i)
bit_both σ x i inside l = bit_join 32 (permuted σ (high_of x)) (permuted σ (low_of x)) i (permuted-lt σ (low_of x)) ∙ go (ltb i 32) refl
  where
    go : (t : Bool) → ltb i 32 ≡ t → cond t (bit (permuted σ (low_of x)) i) (bit (permuted σ (high_of x)) (i - 32)) ≡ bit x (cond t (σ i) (32 + σ (i - 32)))
    go true e =
        let h : i < 32 = ltb-true i 32 e in
        bit-permuted σ (low_of x) i h ∙ bit-mod x 32 (σ i) (inside i h)
    go false e =
        let h : 32 ≤ i = ltb-false i 32 e in
        bit-permuted σ (high_of x) (i - 32) (omega arith) ∙ bit_shr x 32 (σ (i - 32))

pub moves_both : (σ : ℕ → ℕ) (e : W) → T (is_both σ e) → (x : ℕ) → x < 2 ^ 64 → value 64 (x ∷ []) e ≡ in_both (permuted σ) x
moves_both σ e t x h =
    let inside : Bool = below 32 (λ i. ltb (σ i) 32) in
    let fits : Bool = sized (64 ∷ []) 64 e in
    let right : Bool = tells (64 ∷ []) 64 e 64 (λ i. atom 0 (twice σ i)) in
    let rest : T (fits && right) = and_right inside (fits && right) t in
    bit_ext 64 (value 64 (x ∷ []) e) (in_both (permuted σ) x)
    (value-lt (64 ∷ []) (x ∷ []) 64 (h, tt) e (and_left fits right rest))
    (joined-lt (permuted σ (low_of x)) (permuted σ (high_of x)) (permuted-lt σ (low_of x)) (permuted-lt σ (high_of x)))
    (λ i l. bit_by_test (64 ∷ []) (x ∷ []) 64 (h, tt) e 64 (λ j. atom 0 (twice σ j)) (and_right fits right rest) i l
    ∙ sym (bit_both σ x i (bounded 32 32 σ (and_left inside (fits && right) t)) l))

-- first σ in both halves, then π
pub both_then : (π σ : ℕ → ℕ) (x : ℕ) → ((i : ℕ) → i < 32 → π i < 32) → in_both (permuted π) (in_both (permuted σ) x) ≡ in_both (permuted (λ i. σ (π i))) x
both_then π σ x h =
    both_joined (permuted π) (permuted σ (low_of x)) (permuted σ (high_of x)) (permuted-lt σ (low_of x))
    ∙ ap₂ joined (permuted_then π σ (low_of x) h) (permuted_then π σ (high_of x) h)
