-- A step exchanges two figures of every bit's place; steps compose, so that a row of them is right by one computed test of places.
use mathlib.Core.Path.{◌≡◌, sym, ap, ◌∙◌}
use mathlib.Core.Bool.{Bool, ◌&&◌}
use mathlib.Core.List.{[], ◌∷◌}
use Prim.Native.Nat.{ℕ, ◌*◌, ◌%◌, ◌^◌, ◌<◌}
use lib.Dec.{T, eqb, ltb}
use Rattle.bits.specs.Digit.{digit, number, bit, of_bits}
use Rattle.bits.proofs.Bits.{bit_of_bits, of_bits_bit, of_bits_cong, of_bits_lt}
use Rattle.bits.proofs.Computed.{below, at, agree, bounded}
use Rattle.bits.proofs.Reflect.{W, var, lit, and, xor, shr, shl, atom, value, sized, tells, by_test}
use Rattle.packing.specs.Inner.{reordered, crossed, rising}

-- ---- one step

-- its expression, n the number of places that a bit moves
abbrev pub swap : ℕ → ℕ → W
swap n mask =
    xor (xor (var 0) (and (xor (var 0) (shr (var 0) n)) (lit mask))) (shl (and (xor (var 0) (shr (var 0) n)) (lit mask)) n)

abbrev pub far : ℕ → ℕ
far k = 3 * 2 ^ k % 2 ^ 32

abbrev is_step : ℕ → Bool
is_step k = sized (64 ∷ []) 64 (swap (far k) (rising k)) && tells (64 ∷ []) 64 (swap (far k) (rising k)) 64 (λ p. atom 0 (crossed k p))

module _ (k : ℕ) (l : k < 4) where
  pub far_lt : far k < 64
  far_lt = bounded 4 64 far tt k l

  pub step : (x : ℕ) → x < 2 ^ 64 → value 64 (x ∷ []) (swap (far k) (rising k)) ≡ reordered (crossed k) x
  unfolding reordered rising digit number bit of_bits
  step x h = by_test (64 ∷ []) (x ∷ []) 64 (h, tt) (swap (far k) (rising k)) (λ p. atom 0 (crossed k p)) (at 4 is_step tt k l)

-- ---- a row of steps

pub reordered-lt : (f : ℕ → ℕ) (x : ℕ) → reordered f x < 2 ^ 64
unfolding reordered
reordered-lt f x = of_bits_lt 64 (λ p. bit x (f p))

pub bit-reordered : (f : ℕ → ℕ) (x p : ℕ) → p < 64 → bit (reordered f x) p ≡ bit x (f p)
unfolding reordered
bit-reordered f x p h = bit_of_bits 64 (λ q. bit x (f q)) p h

-- bit p of r is bit f p of x
pub record Made (x : ℕ) (f : ℕ → ℕ) (r : ℕ) : Type 0 where
  pub made : r ≡ reordered f x

pub begins : (x : ℕ) → x < 2 ^ 64 → Made x (λ p. p) x
unfolding reordered
begins x h = record { made = sym (of_bits_bit 64 x h) }

pub then : (f : ℕ → ℕ) {x a r : ℕ} {g : ℕ → ℕ} → Made x g a → r ≡ reordered f a → T (below 64 (λ p. ltb (f p) 64)) → Made x (λ p. g (f p)) r
unfolding reordered
then f {x} {a} {r} {g} m e t =
    record {
      made =
          e ∙ ap (reordered f) m.made
          ∙ of_bits_cong 64 (λ p. bit (reordered g x) (f p)) (λ p. bit x (g (f p))) (λ p h. bit-reordered g x (f p) (bounded 64 64 f t p h));
    }

pub ends : (g : ℕ → ℕ) {x r : ℕ} {f : ℕ → ℕ} → Made x f r → T (below 64 (λ p. eqb (f p) (g p))) → r ≡ reordered g x
unfolding reordered
ends g {x} {r} {f} m t = m.made ∙ of_bits_cong 64 (λ p. bit x (f p)) (λ p. bit x (g p)) (λ p h. ap (bit x) (agree 64 f g t p h))
