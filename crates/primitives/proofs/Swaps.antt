-- What the expressions of the swaps do to each bit; and a swap in one word, for a mask whose places do not overlap, is a move.
use mathlib.Core.Path.{◌≡◌, refl, sym, ap, ap₂, ◌∙◌}
use mathlib.Core.Bool.{Bool, true, false, cond, not, ◌&&◌}
use Prim.Native.Nat.{ℕ, ◌+◌, ◌-◌, ◌*◌, ◌/◌, ◌%◌, ◌^◌, ◌<◌}
use native.Mathlib.Nat.{add_comm, add-sub_of_le, mod-lt, lt_of_le_of_lt, div-le_self}
use lib.Bits.{bit_and, bit_xor, and_lt, xor_lt}
use lib.Dec.{T, leb}
use lib.Pow.{pow_pos}
use borrow.Author.Tests.{leb-true}
use Rattle.bits.specs.Digit.{bit, ◌⊕◌}
use Rattle.bits.proofs.Bits.{bit-and, bit-xor, bit_shr, bit_shl_cut, bit_ext, bit_of_bits, of_bits_lt, of_bits_cong, ⊕-false, ⊕_comm}
use Rattle.bits.proofs.Computed.{below, at}
use Rattle.primitives.specs.Words.{permuted, swapped_low, swapped_high, swapped_single}

and_comm : (x y : Bool) → (x && y) ≡ (y && x)
and_comm false false = refl
and_comm false true = refl
and_comm true false = refl
and_comm true true = refl

-- bit i of what two words differ in, one shifted down, under the mask
module _ (a b mask k : ℕ) where
  abbrev tmp : ℕ
  tmp = bit_and (bit_xor b (a / 2 ^ k)) mask

  bit-tmp : (i : ℕ) → bit tmp i ≡ (bit mask i && (bit b i ⊕ bit a (i + k)))
  bit-tmp i =
      bit-and (bit_xor b (a / 2 ^ k)) mask i ∙ and_comm (bit (bit_xor b (a / 2 ^ k)) i) (bit mask i)
      ∙ ap (λ (x : Bool). bit mask i && x)
      (bit-xor b (a / 2 ^ k) i ∙ ap (λ (x : Bool). bit b i ⊕ x) (bit_shr a k i ∙ ap (bit a) (add_comm k i)))

  -- the same, shifted back up
  bit_up : (i : ℕ) → i < 32 → bit (tmp * 2 ^ k % 2 ^ 32) i ≡ (leb k i && bit mask (i - k) && (bit b (i - k) ⊕ bit a i))
  bit_up i h = bit_shl_cut 32 tmp k i h ∙ go (leb k i) refl
    where
      go : (t : Bool) → leb k i ≡ t → (t && bit tmp (i - k)) ≡ (t && bit mask (i - k) && (bit b (i - k) ⊕ bit a i))
      go false e = refl
      go true e =
          bit-tmp (i - k) ∙ ap (λ (m : ℕ). bit mask (i - k) && (bit b (i - k) ⊕ bit a m)) (add_comm (i - k) k ∙ add-sub_of_le (leb-true k i e))

-- a bit is taken from the other side where the mask has one
taken : (x y m : Bool) → x ⊕ (m && (x ⊕ y)) ≡ cond m y x
taken x y false = ⊕-false x
taken false y true = refl
taken true false true = refl
taken true true true = refl

taken_up : (x y m : Bool) → x ⊕ (m && (y ⊕ x)) ≡ cond m y x
taken_up x y m = ap (λ (z : Bool). x ⊕ (m && z)) (⊕_comm y x) ∙ taken x y m

module _ (a b mask k : ℕ) (ha : a < 2 ^ 32) (hb : b < 2 ^ 32) (hm : mask < 2 ^ 32) where
  tmp-lt : tmp a b mask k < 2 ^ 32
  tmp-lt = and_lt 32 (bit_xor b (a / 2 ^ k)) mask (xor_lt 32 b (a / 2 ^ k) hb (lt_of_le_of_lt (div-le_self a (2 ^ k)) ha)) hm

  pub swap-low : bit_xor b (tmp a b mask k) ≡ swapped_low a b mask k
  unfolding swapped_low
  swap-low =
      bit_ext 32 (bit_xor b (tmp a b mask k)) (swapped_low a b mask k) (xor_lt 32 b (tmp a b mask k) hb tmp-lt) (of_bits_lt 32 _)
      (λ i h. bit-xor b (tmp a b mask k) i ∙ ap (λ (x : Bool). bit b i ⊕ x) (bit-tmp a b mask k i) ∙ taken (bit b i) (bit a (i + k)) (bit mask i)
      ∙ sym (bit_of_bits 32 (λ j. cond (bit mask j) (bit a (j + k)) (bit b j)) i h))

  pub swap-high : bit_xor a (tmp a b mask k * 2 ^ k % 2 ^ 32) ≡ swapped_high a b mask k
  unfolding swapped_high
  swap-high =
      bit_ext 32 (bit_xor a (tmp a b mask k * 2 ^ k % 2 ^ 32)) (swapped_high a b mask k)
      (xor_lt 32 a (tmp a b mask k * 2 ^ k % 2 ^ 32) ha (mod-lt (tmp a b mask k * 2 ^ k) (pow_pos 32))) (of_bits_lt 32 _)
      (λ i h. bit-xor a (tmp a b mask k * 2 ^ k % 2 ^ 32) i ∙ ap (λ (x : Bool). bit a i ⊕ x) (bit_up a b mask k i h)
      ∙ taken_up (bit a i) (bit b (i - k)) (leb k i && bit mask (i - k))
      ∙ sym (bit_of_bits 32 (λ j. cond (leb k j && bit mask (j - k)) (bit b (j - k)) (bit a j)) i h))

-- in one word
module _ (a mask k : ℕ) (ha : a < 2 ^ 32) (hm : mask < 2 ^ 32) where
  pub swap_single : bit_xor (bit_xor a (tmp a a mask k)) (tmp a a mask k * 2 ^ k % 2 ^ 32) ≡ swapped_single a mask k
  unfolding swapped_single
  swap_single =
      bit_ext 32 (bit_xor (bit_xor a (tmp a a mask k)) (tmp a a mask k * 2 ^ k % 2 ^ 32)) (swapped_single a mask k)
      (xor_lt 32 (bit_xor a (tmp a a mask k)) (tmp a a mask k * 2 ^ k % 2 ^ 32) (xor_lt 32 a (tmp a a mask k) ha (tmp-lt a a mask k ha ha hm))
      (mod-lt (tmp a a mask k * 2 ^ k) (pow_pos 32)))
      (of_bits_lt 32 _)
      (λ i h. bit-xor (bit_xor a (tmp a a mask k)) (tmp a a mask k * 2 ^ k % 2 ^ 32) i
      ∙ ap₂ ◌⊕◌ (bit-xor a (tmp a a mask k) i ∙ ap (λ (x : Bool). bit a i ⊕ x) (bit-tmp a a mask k i)) (bit_up a a mask k i h)
      ∙ sym (bit_of_bits 32 _ i h))

-- where bit i comes from, where the places of the mask and those n above them do not overlap
abbrev pub exchange : ℕ → ℕ → ℕ → ℕ
exchange mask n i = cond (bit mask i) (i + n) (cond (leb n i && bit mask (i - n)) (i - n) i)

abbrev pub apart : ℕ → ℕ → Bool
apart mask n = below 32 (λ i. not (bit mask i && (leb n i && bit mask (i - n))))

pub swap_is_move : (a mask n : ℕ) → T (apart mask n) → swapped_single a mask n ≡ permuted (exchange mask n) a
unfolding swapped_single permuted
swap_is_move a mask n t =
    of_bits_cong 32 _ _
    (λ i h. go (bit mask i) (leb n i && bit mask (i - n)) (i + n) (i - n) i (at 32 (λ j. not (bit mask j && (leb n j && bit mask (j - n)))) t i h))
  where
    go : (m u : Bool) (up down i : ℕ) → T (not (m && u))
        → bit a i ⊕ (m && (bit a i ⊕ bit a up)) ⊕ (u && (bit a down ⊕ bit a i)) ≡ bit a (cond m up (cond u down i))
    go true true up down i t = absurd t
    go true false up down i t = ⊕-false (bit a i ⊕ (bit a i ⊕ bit a up)) ∙ taken (bit a i) (bit a up) true
    go false true up down i t = ap (λ (x : Bool). x ⊕ (bit a down ⊕ bit a i)) (⊕-false (bit a i)) ∙ taken_up (bit a i) (bit a down) true
    go false false up down i t = ⊕-false (bit a i ⊕ false) ∙ ⊕-false (bit a i)
