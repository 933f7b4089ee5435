-- Four words of any width and a table of nibbles: place i of the four words is a nibble, and an expression of them without shifts gives bit j of a table's entry at
-- every place, by a test at all sixteen nibbles.
use mathlib.Core.Path.{◌≡◌, refl, ap, fun_ext, ◌∙◌}
use mathlib.Core.Bool.{Bool, true, false, not}
use mathlib.Core.List.{[], ◌∷◌}
use Prim.Native.Nat.{ℕ, zero, suc, ◌<◌, zero-le}
use lib.Dec.{T, lit<}
use lib.ListN.{get_or}
use Rattle.bits.specs.Digit.{bit, of_bits, ◌⊕◌}
use Rattle.bits.proofs.Bits.{bit_out, ⊕_equal}
use Rattle.bits.proofs.Reflect.{W, value}
use Rattle.bits.proofs.Pointwise.{flat, on_bits, pointwise, all_sixteen, at_sixteen}

abbrev pub four-bits : Bool → Bool → Bool → Bool → ℕ → Bool
four-bits a b c d k = get_or (a ∷ b ∷ c ∷ d ∷ []) k false

-- the nibble at place i
abbrev pub nibble_at_lem : ℕ → ℕ → ℕ → ℕ → ℕ → ℕ
nibble_at_lem a b c d i = of_bits 4 (four-bits (bit a i) (bit b i) (bit c i) (bit d i))

-- bit i of each of the four words; past them there is none
bits_at : (a b c d i k : ℕ) → bit (get_or (a ∷ b ∷ c ∷ d ∷ []) k 0) i ≡ four-bits (bit a i) (bit b i) (bit c i) (bit d i) k
bits_at a b c d i zero = refl
bits_at a b c d i (suc zero) = refl
bits_at a b c d i (suc (suc zero)) = refl
bits_at a b c d i (suc (suc (suc zero))) = refl
bits_at a b c d i (suc (suc (suc (suc k)))) = bit_out 0 0 i (lit< tt) zero-le

-- the expression gives bit j of the table f at each of the sixteen nibbles
abbrev pub is_table : (ℕ → ℕ) → W → ℕ → Bool
is_table f e j = all_sixteen (λ a b c d. not (on_bits e (four-bits a b c d) ⊕ bit (f (of_bits 4 (four-bits a b c d))) j))

module _ (w : ℕ) (f : ℕ → ℕ) (e : W) (no_shift : T (flat w e)) (j : ℕ) (t : T (is_table f e j)) where
  is_false : (b : Bool) → T (not b) → b ≡ false
  is_false false t = refl
  is_false true t = absurd t

  same_bit : (a b c d : Bool) → on_bits e (four-bits a b c d) ≡ bit (f (of_bits 4 (four-bits a b c d))) j
  same_bit a b c d =
      ⊕_equal (on_bits e (four-bits a b c d)) (bit (f (of_bits 4 (four-bits a b c d))) j)
      (is_false (on_bits e (four-bits a b c d) ⊕ bit (f (of_bits 4 (four-bits a b c d))) j)
      (at_sixteen (λ a b c d. not (on_bits e (four-bits a b c d) ⊕ bit (f (of_bits 4 (four-bits a b c d))) j)) t a b c d))

  pub through_table : (a b c d i : ℕ) → i < w → bit (value w (a ∷ b ∷ c ∷ d ∷ []) e) i ≡ bit (f (nibble_at_lem a b c d i)) j
  through_table a b c d i h =
      pointwise w (a ∷ b ∷ c ∷ d ∷ []) i h e no_shift ∙ ap (on_bits e) (fun_ext (bits_at a b c d i))
      ∙ same_bit (bit a i) (bit b i) (bit c i) (bit d i)
