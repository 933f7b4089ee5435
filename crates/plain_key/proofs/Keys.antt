-- The key state's eight words are the digits of the number that they make: updated, rotated, and the pair U, V of each member.
use mathlib.Core.Path.{◌≡◌, refl, sym, ap, ap₂, ◌∙◌}
use mathlib.Core.Bool.{Bool, true, false, ◌&&◌, ◌||◌}
use mathlib.Core.List.{List, [], ◌∷◌}
use Prim.Native.Nat.{ℕ, ◌+◌, ◌-◌, ◌*◌, ◌/◌, ◌%◌, ◌^◌, ◌<◌}
use native.Mathlib.Nat.{lt_of_le_of_lt, div-le_self, mod-lt}
use native.Mathlib.Decide.{dec_lt}
use native.Mathlib.Omega.{arith}
use lib.Bits.{bit_or, or_lt}
use lib.Dec.{leb, lit<}
use lib.ListN.{get_or}
use lib.Pow.{pow_pos}
use borrow.Author.Tests.{le-leb, lt-leb}
use Rattle.bits.specs.Digit.{digit, number, bit}
use Rattle.bits.proofs.Digits.{digit-number}
use Rattle.bits.proofs.Bits.{bit_ext, bit_of_bits, bit-or, bit_out, bit_shl_cut, bit_shr, of_bits_lt}
use Rattle.published.specs.Key.{◌‖◌, ror16, update}
use Rattle.published.specs.Gift128.{pair_of}
use Rattle.published.specs.Gift64.{pair_of64}
use Rattle.plain_key.specs.Inner.{key_of}

in_words : (k0 k1 k2 k3 k4 k5 k6 k7 : ℕ) → key_of (k0 ∷ k1 ∷ k2 ∷ k3 ∷ k4 ∷ k5 ∷ k6 ∷ k7 ∷ []) ≡ k7 ‖ k6 ‖ k5 ‖ k4 ‖ k3 ‖ k2 ‖ k1 ‖ k0
unfolding number
in_words k0 k1 k2 k3 k4 k5 k6 k7 = omega arith

module _ (k : List ℕ) (words : (i : ℕ) → get_or k i 0 < 65536) where
  word : (i : ℕ) → i < 8 → digit 65536 (key_of k) i ≡ get_or k i 0
  word i h = digit-number 65536 (lit< tt) 8 (λ j. get_or k j 0) (λ j l. words j) i h

  pub update_is :
      key_of (get_or k 2 0 ∷ get_or k 3 0 ∷ get_or k 4 0 ∷ get_or k 5 0 ∷ get_or k 6 0 ∷ get_or k 7 0 ∷ ror16 12 (get_or k 0 0) ∷ ror16 2 (get_or k 1 0) ∷ []) ≡ update (key_of k)
  unfolding update
  update_is =
      rw (word 0 (lit< tt), word 1 (lit< tt), word 2 (lit< tt), word 3 (lit< tt), word 4 (lit< tt), word 5 (lit< tt), word 6 (lit< tt), word 7 (lit< tt)) (in_words _ _ _ _ _ _ _ _)

  pub u_is : get_or k 5 0 * 65536 + get_or k 4 0 ≡ (pair_of (key_of k)).u
  unfolding pair_of
  u_is = rw (word 5 (lit< tt), word 4 (lit< tt))

  pub v_is : get_or k 1 0 * 65536 + get_or k 0 0 ≡ (pair_of (key_of k)).v
  unfolding pair_of
  v_is = rw (word 1 (lit< tt), word 0 (lit< tt))

  pub small_u_is : get_or k 1 0 ≡ (pair_of64 (key_of k)).u
  unfolding pair_of64
  small_u_is = sym (word 1 (lit< tt))

  pub small_v_is : get_or k 0 0 ≡ (pair_of64 (key_of k)).v
  unfolding pair_of64
  small_v_is = sym (word 0 (lit< tt))

-- ---- a word rotated

pub rotation : (r k : ℕ) → 0 < r → r < 16 → k < 2 ^ 16 → bit_or (k / 2 ^ r) (k * 2 ^ (16 - r) % 2 ^ 16) ≡ ror16 r k
unfolding ror16
rotation r k pos most h =
    bit_ext 16 _ _ (or_lt 16 (k / 2 ^ r) (k * 2 ^ (16 - r) % 2 ^ 16) (lt_of_le_of_lt (div-le_self k (2 ^ r)) h) (mod-lt (k * 2 ^ (16 - r)) (pow_pos 16)))
    (of_bits_lt 16 (λ i. bit k ((i + r) % 16)))
    (λ i l.
    bit-or (k / 2 ^ r) (k * 2 ^ (16 - r) % 2 ^ 16) i ∙ ap₂ ◌||◌ (bit_shr k r i) (bit_shl_cut 16 k (16 - r) i l) ∙ here i l
    ∙ sym (bit_of_bits 16 (λ j. bit k ((j + r) % 16)) i l))
  where
    or-false : (a : Bool) → (a || false) ≡ a
    or-false false = refl
    or-false true = refl

    here : (i : ℕ) → i < 16 → (bit k (r + i) || (leb (16 - r) i && bit k (i - (16 - r)))) ≡ bit k ((i + r) % 16)
    here i l =
        elim (dec_lt (i + r) 16) [
          | yes d ↦
              let place : r + i ≡ (i + r) % 16 = omega arith in
              ap (λ (t : Bool). bit k (r + i) || (t && bit k (i - (16 - r)))) (lt-leb (16 - r) i (omega arith)) ∙ or-false (bit k (r + i)) ∙ ap (bit k) place
          | no d ↦
              let place : i - (16 - r) ≡ (i + r) % 16 = omega arith in
              ap₂ (λ (a t : Bool). a || (t && bit k (i - (16 - r)))) (bit_out 16 k (r + i) h (omega arith)) (le-leb (16 - r) i (omega arith)) ∙ ap (bit k) place
        ]
