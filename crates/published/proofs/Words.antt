-- The packed words of a block, and the block that four words stand for: the words of a block stand for it, at every width; and at 128 bits the block of four words has those words.
use mathlib.Core.Path.{◌≡◌, refl, ap, ◌∙◌}
use Prim.Native.Nat.{ℕ, zero, suc, ◌+◌, ◌*◌, ◌/◌, ◌%◌, ◌^◌, ◌<◌}
use native.Mathlib.Nat.{div-add-mod, le_of_suc-le-suc, not-suc-le-zero}
use native.Mathlib.Omega.{arith}
use Rattle.bits.specs.Digit.{bit}
use Rattle.bits.proofs.Bits.{bit_of_bits, bit_ext, of_bits_lt}
use Rattle.published.specs.Packing.{word, from_words}

-- a fact of each j below four
pub four {ℓ} : (P : ℕ → Type ℓ) → P 0 → P 1 → P 2 → P 3 → (j : ℕ) → j < 4 → P j
four P p0 p1 p2 p3 zero h = p0
four P p0 p1 p2 p3 (suc zero) h = p1
four P p0 p1 p2 p3 (suc (suc zero)) h = p2
four P p0 p1 p2 p3 (suc (suc (suc zero))) h = p3
four P p0 p1 p2 p3 (suc (suc (suc (suc j)))) h = absurd (not-suc-le-zero (le_of_suc-le-suc (le_of_suc-le-suc (le_of_suc-le-suc (le_of_suc-le-suc h)))))

-- ---- at any width

word-bit : (n x j i : ℕ) → i < n / 4 → bit (word n x j) i ≡ bit x (4 * i + j)
unfolding word
word-bit n x j i h = bit_of_bits (n / 4) (λ k. bit x (4 * k + j)) i h

-- the words of a block are the block
pub block_of_words : (n : ℕ) → 4 * (n / 4) ≡ n → (w : ℕ → ℕ) (x : ℕ) → x < 2 ^ n → ((j : ℕ) → j < 4 → w j ≡ word n x j) → from_words n w ≡ x
block_of_words n whole w x h is =
    bit_ext n (from_words n w) x (of_bits_lt n _) h
    (λ q l.
    bit_of_bits n (λ k. bit (w (k % 4)) (k / 4)) q l ∙ ap (λ (v : ℕ). bit v (q / 4)) (is (q % 4) (omega arith))
    ∙ word-bit n x (q % 4) (q / 4) (omega arith)
    ∙ ap (bit x) (div-add-mod q 4))

-- ---- at 128 bits

pub bit_word : (x j i : ℕ) → i < 32 → bit (word 128 x j) i ≡ bit x (4 * i + j)
bit_word = word-bit 128

pub word_lt : (x j : ℕ) → word 128 x j < 2 ^ 32
unfolding word
word_lt x j = of_bits_lt 32 (λ i. bit x (4 * i + j))

module _ (w : ℕ → ℕ) where
  pub from_words-lt : from_words 128 w < 2 ^ 128
  from_words-lt = of_bits_lt 128 (λ q. bit (w (q % 4)) (q / 4))

  pub bit-from_words : (q : ℕ) → q < 128 → bit (from_words 128 w) q ≡ bit (w (q % 4)) (q / 4)
  bit-from_words q h = bit_of_bits 128 (λ k. bit (w (k % 4)) (k / 4)) q h

  pub from_words-word : (x : ℕ) → x < 2 ^ 128 → ((j : ℕ) → j < 4 → w j ≡ word 128 x j) → from_words 128 w ≡ x
  from_words-word = block_of_words 128 refl w

  -- and the block of four words has those words
  pub word-from_words : ((j : ℕ) → j < 4 → w j < 2 ^ 32) → (j : ℕ) → j < 4 → word 128 (from_words 128 w) j ≡ w j
  word-from_words h j l =
      bit_ext 32 (word 128 (from_words 128 w) j) (w j) (word_lt (from_words 128 w) j) (h j l)
      (λ i k.
      bit_word (from_words 128 w) j i k ∙ bit-from_words (4 * i + j) (omega arith)
      ∙ ap (λ (m : ℕ). bit (w m) ((4 * i + j) / 4)) (low i j l)
      ∙ ap (bit (w j)) (high i j l))
    where
      low : (i j : ℕ) → j < 4 → (4 * i + j) % 4 ≡ j
      low i j h = omega arith

      high : (i j : ℕ) → j < 4 → (4 * i + j) / 4 ≡ i
      high i j h = omega arith
