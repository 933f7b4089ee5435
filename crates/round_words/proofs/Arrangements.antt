-- The arrangements: each is a permutation of the 32 places, five rounds in all is in place again, and a word and what it stands for make each other.
use mathlib.Core.Path.{◌≡◌, refl, sym, ap, ◌∙◌}
use mathlib.Core.Bool.{Bool}
use mathlib.Core.Logic.{◌≢◌}
use Prim.Native.Nat.{ℕ, zero, suc, ◌-◌, ◌^◌, ◌<◌}
use native.Mathlib.Nat.{lt_of_le_of_lt, sub-le}
use native.Mathlib.Omega.{arith}
use lib.Dec.{T, eqb, eqb→eq, ltb, ltb→lt, lit<}
use Rattle.bits.proofs.Computed.{below, at, agree}
use Rattle.published.specs.Rounds.{P}
use Rattle.primitives.proofs.Moves.{permuted-lt, permuted-id, permuted_then}
use Rattle.round_words.specs.Arranged.{N, nibble_at, arranged, stands}

-- a fact of each k up to 5 and each place, by a test
pub each_place : (f : ℕ → ℕ → Bool) → T (below 6 (λ k. below 32 (f k))) → (k i : ℕ) → k < 6 → i < 32 → T (f k i)
each_place f t k i hk hi = at 32 (f k) (at 6 (λ k. below 32 (f k)) t k hk) i hi

pub nibble_at-lt : (k i : ℕ) → k < 6 → i < 32 → nibble_at k i < 32
unfolding nibble_at N P
nibble_at-lt k i hk hi = ltb→lt (nibble_at k i) 32 (each_place (λ k i. ltb (nibble_at k i) 32) tt k i hk hi)

-- k rounds in and 5 - k more: in place again
pub there_and_back : (k i : ℕ) → k < 6 → i < 32 → nibble_at k (nibble_at (5 - k) i) ≡ i
unfolding nibble_at N P
there_and_back k i hk hi = eqb→eq (nibble_at k (nibble_at (5 - k) i)) i (each_place (λ k i. eqb (nibble_at k (nibble_at (5 - k) i)) i) tt k i hk hi)

pub back_and_there : (k i : ℕ) → k < 6 → i < 32 → nibble_at (5 - k) (nibble_at k i) ≡ i
unfolding nibble_at N P
back_and_there k i hk hi = eqb→eq (nibble_at (5 - k) (nibble_at k i)) i (each_place (λ k i. eqb (nibble_at (5 - k) (nibble_at k i)) i) tt k i hk hi)

pub arranged-lt : (k w : ℕ) → arranged k w < 2 ^ 32
unfolding arranged
arranged-lt k w = permuted-lt (nibble_at k) w

pub stands_lt : (k w : ℕ) → stands k w < 2 ^ 32
unfolding stands
stands_lt k w = permuted-lt (nibble_at (5 - k)) w

pub stands_arranged : (k w : ℕ) → k < 6 → w < 2 ^ 32 → stands k (arranged k w) ≡ w
unfolding stands arranged
stands_arranged k w hk h =
    permuted_then (nibble_at (5 - k)) (nibble_at k) w (λ i l. rest_lt k i hk l) ∙ permuted-id (λ i. nibble_at k (nibble_at (5 - k) i)) w (λ i l. there_and_back k i hk l) h
  where
    rest_lt : (k i : ℕ) → k < 6 → i < 32 → nibble_at (5 - k) i < 32
    rest_lt k i hk hi = nibble_at-lt (5 - k) i (lt_of_le_of_lt (sub-le 5 k) (lit< tt)) hi

pub arranged_stands : (k w : ℕ) → k < 6 → w < 2 ^ 32 → arranged k (stands k w) ≡ w
unfolding stands arranged
arranged_stands k w hk h =
    permuted_then (nibble_at k) (nibble_at (5 - k)) w (λ i l. nibble_at-lt k i hk l) ∙ permuted-id (λ i. nibble_at (5 - k) (nibble_at k i)) w (λ i l. back_and_there k i hk l) h

-- what a word stands for k rounds in is the word in the arrangement of the rounds that are left
pub stands_is : (k w : ℕ) → stands k w ≡ arranged (5 - k) w
unfolding stands arranged
stands_is k w = refl

-- no round in, and after all five, a word is kept as it is
pub arranged_none : (w : ℕ) → w < 2 ^ 32 → arranged 0 w ≡ w
unfolding arranged nibble_at
arranged_none w h = permuted-id (nibble_at 0) w (λ i l. refl) h

pub arranged_five : (w : ℕ) → w < 2 ^ 32 → arranged 5 w ≡ w
unfolding arranged nibble_at N P
arranged_five w h = permuted-id (nibble_at 5) w (agree 32 (nibble_at 5) (λ i. i) tt) h

pub kept : (k w : ℕ) → k < 6 → k ≢ 1 → k ≢ 2 → k ≢ 3 → k ≢ 4 → w < 2 ^ 32 → w ≡ arranged k w
kept zero w hk n1 n2 n3 n4 h = sym (arranged_none w h)
kept (suc k) w hk n1 n2 n3 n4 h = sym (ap (λ (j : ℕ). arranged j w) last ∙ arranged_five w h)
  where
    last : suc k ≡ 5
    last = omega arith
