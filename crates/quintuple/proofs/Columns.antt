-- Columns and tables: a function of four words without shifts is a table, by a test at all sixteen nibbles; and what a table does to a column.
use mathlib.Core.Path.{◌≡◌, refl, sym, ap, fun_ext, ◌∙◌}
use mathlib.Core.Bool.{Bool, true, false, not}
use mathlib.Core.List.{List, [], ◌∷◌}
use Prim.Native.Nat.{ℕ, zero, suc, zero-le}
use lib.Dec.{T, lit<}
use lib.ListN.{get_or}
use Rattle.bits.specs.Digit.{bit, of_bits, number, ◌⊕◌}
use Rattle.bits.proofs.Bits.{bit_ext, bit_of_bits, bit_out, of_bits_lt, ⊕_equal}
use Rattle.bits.proofs.Reflect.{W, value, value-lt, sized}
use Rattle.bits.proofs.Pointwise.{flat, on_bits, pointwise, all_sixteen, at_sixteen}
use Rattle.primitives.specs.declared.State.{State}
use Rattle.primitives.specs.Packed.{Words}
use Rattle.quintuple.specs.Boxes.{column, substituted}

abbrev words : State → List ℕ
words s = s.s0 ∷ s.s1 ∷ s.s2 ∷ s.s3 ∷ []

abbrev four-bits : Bool → Bool → Bool → Bool → ℕ → Bool
four-bits a b c d k = get_or (a ∷ b ∷ c ∷ d ∷ []) k false

-- bit i of each of the four words; past them there is none
bits_at : (s : State) (i k : ℕ) → bit (get_or (words s) k 0) i ≡ four-bits (bit s.s0 i) (bit s.s1 i) (bit s.s2 i) (bit s.s3 i) k
bits_at s i zero = refl
bits_at s i (suc zero) = refl
bits_at s i (suc (suc zero)) = refl
bits_at s i (suc (suc (suc zero))) = refl
bits_at s i (suc (suc (suc (suc k)))) = bit_out 0 0 i (lit< tt) zero-le

-- the expression gives bit j of the table f at each of the sixteen nibbles
abbrev pub is_table : (ℕ → ℕ) → W → ℕ → Bool
is_table f e j = all_sixteen (λ a b c d. not (on_bits e (four-bits a b c d) ⊕ bit (f (of_bits 4 (four-bits a b c d))) j))

module _ (f : ℕ → ℕ) (e : W) (size : T (sized (32 ∷ 32 ∷ 32 ∷ 32 ∷ []) 32 e)) (no_shift : T (flat 32 e)) where
  pub through_table : (j : ℕ) → T (is_table f e j) → (s : State) → Words s → value 32 (words s) e ≡ substituted f s j
  unfolding column substituted of_bits number
  through_table j t s h =
      bit_ext 32 (value 32 (words s) e) (substituted f s j)
      (value-lt (32 ∷ 32 ∷ 32 ∷ 32 ∷ []) (words s) 32 (h.0, (h.1, (h.2, (h.3, tt)))) e size)
      (of_bits_lt 32 (λ i. bit (f (column s i)) j))
      (λ i l.
      pointwise 32 (words s) i l e no_shift
      ∙ ap (on_bits e) (fun_ext (bits_at s i))
      ∙ same_bit (bit s.s0 i) (bit s.s1 i) (bit s.s2 i) (bit s.s3 i)
      ∙ sym (bit_of_bits 32 (λ k. bit (f (column s k)) j) i l))
    where
      is_false : (b : Bool) → T (not b) → b ≡ false
      is_false false t = refl
      is_false true t = absurd t

      same_bit : (a b c d : Bool) → on_bits e (four-bits a b c d) ≡ bit (f (of_bits 4 (four-bits a b c d))) j
      same_bit a b c d =
          ⊕_equal (on_bits e (four-bits a b c d)) (bit (f (of_bits 4 (four-bits a b c d))) j)
          (is_false (on_bits e (four-bits a b c d) ⊕ bit (f (of_bits 4 (four-bits a b c d))) j)
          (at_sixteen (λ a b c d. not (on_bits e (four-bits a b c d) ⊕ bit (f (of_bits 4 (four-bits a b c d))) j)) t a b c d))
