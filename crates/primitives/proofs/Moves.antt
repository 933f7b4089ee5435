-- Words whose bits move: how moves compose, and the computed test that shows an expression to be a move.
use mathlib.Core.Path.{◌≡◌, ap, ◌∙◌}
use mathlib.Core.Bool.{Bool, ◌&&◌}
use mathlib.Core.List.{[], ◌∷◌}
use Prim.Native.Nat.{ℕ, ◌^◌, ◌<◌}
use lib.Dec.{T}
use Rattle.bits.specs.Digit.{bit}
use Rattle.bits.proofs.Bits.{bit_of_bits, of_bits_bit, of_bits_cong, of_bits_lt}
use Rattle.bits.proofs.Reflect.{W, atom, value, sized, tells, by_test}
use Rattle.primitives.specs.Words.{permuted}

pub permuted-lt : (π : ℕ → ℕ) (x : ℕ) → permuted π x < 2 ^ 32
unfolding permuted
permuted-lt π x = of_bits_lt 32 (λ i. bit x (π i))

pub bit-permuted : (π : ℕ → ℕ) (x i : ℕ) → i < 32 → bit (permuted π x) i ≡ bit x (π i)
unfolding permuted
bit-permuted π x i h = bit_of_bits 32 (λ j. bit x (π j)) i h

pub permuted_cong : (π σ : ℕ → ℕ) (x : ℕ) → ((i : ℕ) → i < 32 → π i ≡ σ i) → permuted π x ≡ permuted σ x
unfolding permuted
permuted_cong π σ x e = of_bits_cong 32 (λ i. bit x (π i)) (λ i. bit x (σ i)) (λ i h. ap (bit x) (e i h))

-- a move that leaves every bit where it is
pub permuted-id : (π : ℕ → ℕ) (x : ℕ) → ((i : ℕ) → i < 32 → π i ≡ i) → x < 2 ^ 32 → permuted π x ≡ x
unfolding permuted
permuted-id π x e h = permuted_cong π (λ i. i) x e ∙ of_bits_bit 32 x h

-- first σ, then π
pub permuted_then : (π σ : ℕ → ℕ) (x : ℕ) → ((i : ℕ) → i < 32 → π i < 32) → permuted π (permuted σ x) ≡ permuted (λ i. σ (π i)) x
unfolding permuted
permuted_then π σ x h =
    of_bits_cong 32 (λ i. bit (permuted σ x) (π i)) (λ i. bit x (σ (π i))) (λ i l. bit-permuted σ x (π i) (h i l))

-- an expression of one word is the move π, by the test
abbrev pub is_move : (ℕ → ℕ) → W → Bool
is_move π e = sized (32 ∷ []) 32 e && tells (32 ∷ []) 32 e 32 (λ i. atom 0 (π i))

pub moves : (π : ℕ → ℕ) (e : W) → T (is_move π e) → (x : ℕ) → x < 2 ^ 32 → value 32 (x ∷ []) e ≡ permuted π x
unfolding permuted
moves π e t x h = by_test (32 ∷ []) (x ∷ []) 32 (h, tt) e (λ i. atom 0 (π i)) t
