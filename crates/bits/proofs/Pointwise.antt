-- Expressions without shifts work on each place alone: what they do to one bit of each variable, they do to every bit.
use mathlib.Core.Path.{◌≡◌, refl, ap₂, ◌∙◌}
use mathlib.Core.Bool.{Bool, true, false, not, ◌&&◌, ◌||◌}
use mathlib.Core.List.{List}
use Prim.Native.Nat.{ℕ, ◌/◌, ◌%◌, ◌^◌, ◌<◌}
use lib.Dec.{T, eqb}
use lib.ListN.{get_or}
use Rattle.bits.specs.Digit.{digit, bit, ◌⊕◌}
use Rattle.bits.proofs.Bits.{bit-and, bit-or, bit-xor, ⊕_equal}
use Rattle.bits.proofs.Computed.{below, at, and_left, and_right}
use Rattle.bits.proofs.Reflect.{W, var, lit, and, or, xor, shr, shl, low, value}

-- no shift, and every literal all ones or all zeros in w bits
abbrev pub flat : ℕ → W → Bool
flat w (var k) = true
flat w (lit n) = below w (λ i. not (eqb (n / 2 ^ i % 2) 1 ⊕ eqb (n % 2) 1))
flat w (and a b) = flat w a && flat w b
flat w (or a b) = flat w a && flat w b
flat w (xor a b) = flat w a && flat w b
flat w (shr e k) = false
flat w (shl e k) = false
flat w (low e k) = false

-- one bit of the value, where variable k has the bit f k
abbrev pub on_bits : W → (ℕ → Bool) → Bool
on_bits (var k) f = f k
on_bits (lit n) f = eqb (n % 2) 1
on_bits (and a b) f = on_bits a f && on_bits b f
on_bits (or a b) f = on_bits a f || on_bits b f
on_bits (xor a b) f = on_bits a f ⊕ on_bits b f
on_bits (shr e k) f = false
on_bits (shl e k) f = false
on_bits (low e k) f = false

module _ (w : ℕ) (ρ : List ℕ) (i : ℕ) (h : i < w) where
  pub pointwise : (e : W) → T (flat w e) → bit (value w ρ e) i ≡ on_bits e (λ k. bit (get_or ρ k 0) i)
  unfolding bit digit
  pointwise (var k) t = refl
  pointwise (lit n) t =
      ⊕_equal (eqb (n / 2 ^ i % 2) 1) (eqb (n % 2) 1) (is_false (eqb (n / 2 ^ i % 2) 1 ⊕ eqb (n % 2) 1) (at w (λ j. not (eqb (n / 2 ^ j % 2) 1 ⊕ eqb (n % 2) 1)) t i h))
    where
      is_false : (b : Bool) → T (not b) → b ≡ false
      is_false false t = refl
      is_false true t = absurd t
  pointwise (and a b) t =
      bit-and (value w ρ a) (value w ρ b) i ∙ ap₂ ◌&&◌ (pointwise a (and_left (flat w a) (flat w b) t)) (pointwise b (and_right (flat w a) (flat w b) t))
  pointwise (or a b) t =
      bit-or (value w ρ a) (value w ρ b) i ∙ ap₂ ◌||◌ (pointwise a (and_left (flat w a) (flat w b) t)) (pointwise b (and_right (flat w a) (flat w b) t))
  pointwise (xor a b) t =
      bit-xor (value w ρ a) (value w ρ b) i ∙ ap₂ ◌⊕◌ (pointwise a (and_left (flat w a) (flat w b) t)) (pointwise b (and_right (flat w a) (flat w b) t))
  pointwise (shr e k) t = absurd t
  pointwise (shl e k) t = absurd t
  pointwise (low e k) t = absurd t

-- ---- a fact of four bits, by a test at all sixteen

abbrev both : (Bool → Bool) → Bool
both f = f false && f true

at_bit : (f : Bool → Bool) → T (both f) → (b : Bool) → T (f b)
at_bit f t false = and_left (f false) (f true) t
at_bit f t true = and_right (f false) (f true) t

abbrev pub all_sixteen : (Bool → Bool → Bool → Bool → Bool) → Bool
all_sixteen f = both (λ a. both (λ b. both (λ c. both (λ d. f a b c d))))

pub at_sixteen : (f : Bool → Bool → Bool → Bool → Bool) → T (all_sixteen f) → (a b c d : Bool) → T (f a b c d)
at_sixteen f t a b c d =
    at_bit (λ d. f a b c d)
    (at_bit (λ c. both (λ d. f a b c d))
    (at_bit (λ b. both (λ c. both (λ d. f a b c d))) (at_bit (λ a. both (λ b. both (λ c. both (λ d. f a b c d)))) t a) b) c) d
