-- Bits that move between four words, as places below 128: bit i of word j is at 32 j + i. What an exchange moves, and which moves lead from one order to the other.
use mathlib.Core.Path.{◌≡◌, refl, sym, ap, ap₂, ◌∙◌}
use mathlib.Core.Bool.{Bool, true, false, cond, not, ◌&&◌, ◌||◌}
use Prim.Native.Nat.{ℕ, zero, suc, ◌+◌, ◌-◌, ◌*◌, ◌/◌, ◌%◌, ◌<◌}
use native.Mathlib.Omega.{arith}
use lib.Dec.{T, eqb, ltb, ltb→lt, leb, lit<}
use Rattle.bits.specs.Digit.{bit}
use Rattle.bits.proofs.Bits.{bit_of_bits, bit_ext}
use Rattle.bits.proofs.Computed.{below, at, agree, bounded}
use Rattle.published.specs.Packing.{word}
use Rattle.published.proofs.Words.{four, bit_word, word_lt, bit-from_words}
use Rattle.published.proofs.Seen.{placed}
use Rattle.primitives.specs.declared.State.{State}
use Rattle.primitives.specs.Words.{swapped_low, swapped_high}
use Rattle.primitives.specs.Packed.{word_of, block_of, state_of, Words}
use Rattle.primitives.proofs.Blocks.{same_words, words_at}
use Rattle.eight.specs.Inner.{crossed}

abbrev pub bit_at : State → ℕ → Bool
bit_at s p = bit (word_of s (p / 32)) (p % 32)

at_place : (s : State) (p j i : ℕ) → p / 32 ≡ j → p % 32 ≡ i → bit_at s p ≡ bit (word_of s j) i
at_place s p j i e f = ap₂ (λ (k m : ℕ). bit (word_of s k) m) e f

-- where bit i of word j comes from when bits are exchanged
abbrev swapped : (mask n j i : ℕ) → ℕ
swapped mask n zero i = cond (leb n i && bit mask (i - n)) (32 + (i - n)) i
swapped mask n (suc zero) i = cond (bit mask i) (i + n) (32 + i)
swapped mask n (suc (suc zero)) i = cond (leb n i && bit mask (i - n)) (96 + (i - n)) (64 + i)
swapped mask n (suc (suc (suc j))) i = cond (bit mask i) (64 + (i + n)) (96 + i)

abbrev pub swap_at : (mask n p : ℕ) → ℕ
swap_at mask n p = swapped mask n (p / 32) (p % 32)

-- the exchange stays within a word's 32 places
abbrev pub inside : (mask n : ℕ) → Bool
inside mask n = below 32 (λ i. not (bit mask i) || ltb (i + n) 32)

module _ (mask n : ℕ) (t : T (inside mask n)) (s : State) where
  pick : (b : Bool) (p q : ℕ) (x y : Bool) → (b ≡ true → bit_at s p ≡ x) → bit_at s q ≡ y → cond b x y ≡ bit_at s (cond b p q)
  pick true p q x y e f = sym (e refl)
  pick false p q x y e f = sym f

  fits : (i : ℕ) → i < 32 → bit mask i ≡ true → i + n < 32
  fits i h e = go (bit mask i) (rw e tt) (at 32 (λ k. not (bit mask k) || ltb (k + n) 32) t i h)
    where
      go : (b : Bool) → T b → T (not b || ltb (i + n) 32) → i + n < 32
      go true b u = ltb→lt (i + n) 32 u
      go false b u = absurd b

  bit-low : (a b i : ℕ) → i < 32 → bit (swapped_low a b mask n) i ≡ cond (bit mask i) (bit a (i + n)) (bit b i)
  unfolding swapped_low
  bit-low a b i h = bit_of_bits 32 (λ i. cond (bit mask i) (bit a (i + n)) (bit b i)) i h

  bit_high : (a b i : ℕ) → i < 32 → bit (swapped_high a b mask n) i ≡ cond (leb n i && bit mask (i - n)) (bit b (i - n)) (bit a i)
  unfolding swapped_high
  bit_high a b i h = bit_of_bits 32 (λ i. cond (leb n i && bit mask (i - n)) (bit b (i - n)) (bit a i)) i h

  word-crossed : (j : ℕ) → j < 4 → (i : ℕ) → i < 32 → bit (word_of (crossed mask n s) j) i ≡ bit_at s (swapped mask n j i)
  unfolding crossed
  word-crossed =
      four (λ (j : ℕ). (i : ℕ) → i < 32 → bit (word_of (crossed mask n s) j) i ≡ bit_at s (swapped mask n j i))
      (λ i h. bit_high s.s0 s.s1 i h ∙ pick (leb n i && bit mask (i - n)) (32 + (i - n)) i _ _ (λ e. at_place s (32 + (i - n)) 1 (i - n) (omega arith) (omega arith)) (at_place s i 0 i (omega arith) (omega arith)))
      (λ i h.
      bit-low s.s0 s.s1 i h
      ∙ pick (bit mask i) (i + n) (32 + i) _ _ (λ e. let f : i + n < 32 = fits i h e in at_place s (i + n) 0 (i + n) (omega arith) (omega arith)) (at_place s (32 + i) 1 i (omega arith) (omega arith)))
      (λ i h.
      bit_high s.s2 s.s3 i h
      ∙ pick (leb n i && bit mask (i - n)) (96 + (i - n)) (64 + i) _ _ (λ e. at_place s (96 + (i - n)) 3 (i - n) (omega arith) (omega arith)) (at_place s (64 + i) 2 i (omega arith) (omega arith)))
      (λ i h.
      bit-low s.s2 s.s3 i h
      ∙ pick (bit mask i) (64 + (i + n)) (96 + i) _ _ (λ e. let f : i + n < 32 = fits i h e in at_place s (64 + (i + n)) 2 (i + n) (omega arith) (omega arith)) (at_place s (96 + i) 3 i (omega arith) (omega arith)))

  bit-crossed : (p : ℕ) → p < 128 → bit_at (crossed mask n s) p ≡ bit_at s (swap_at mask n p)
  bit-crossed p h = word-crossed (p / 32) (omega arith) (p % 32) (omega arith)

-- ---- r's bits come from s: that at place p from place σ p

pub record From (σ : ℕ → ℕ) (s r : State) : Type 0 where
  pub bits : (p : ℕ) → p < 128 → bit_at r p ≡ bit_at s (σ p)

pub from_cross : (mask n : ℕ) → T (inside mask n) → T (below 128 (λ p. ltb (swap_at mask n p) 128)) → (σ : ℕ → ℕ) (s x y : State) → From σ s x → y ≡ crossed mask n x
    → From (λ p. σ (swap_at mask n p)) s y
from_cross mask n t u σ s x y before e =
    record { bits = λ p h. ap (λ (z : State). bit_at z p) e ∙ bit-crossed mask n t x p h ∙ before.bits (swap_at mask n p) (bounded 128 128 (swap_at mask n) u p h) }

-- the words named in another order, upside down, and the middle two exchanged
abbrev pub flipped : State → State
flipped s = record { s0 = s.s3; s1 = s.s2; s2 = s.s1; s3 = s.s0 }

abbrev pub flip_at : ℕ → ℕ
flip_at p = 32 * (3 - p / 32) + p % 32

abbrev pub middled : State → State
middled s = record { s0 = s.s0; s1 = s.s2; s2 = s.s1; s3 = s.s3 }

abbrev pub middle_at : ℕ → ℕ
middle_at p = 32 * (2 * (p / 32 % 2) + p / 64) + p % 32

module _ (s : State) where
  bit-flipped : (p : ℕ) → p < 128 → bit_at (flipped s) p ≡ bit_at s (flip_at p)
  bit-flipped p h =
      ap (λ (w : ℕ). bit w (p % 32)) (four (λ (j : ℕ). word_of (flipped s) j ≡ word_of s (3 - j)) refl refl refl refl (p / 32) (omega arith))
      ∙ sym (at_place s (flip_at p) (3 - p / 32) (p % 32) (omega arith) (omega arith))

  bit-middled : (p : ℕ) → p < 128 → bit_at (middled s) p ≡ bit_at s (middle_at p)
  bit-middled p h =
      ap (λ (w : ℕ). bit w (p % 32)) (four (λ (j : ℕ). word_of (middled s) j ≡ word_of s (2 * (j % 2) + j / 2)) refl refl refl refl (p / 32) (omega arith))
      ∙ sym (at_place s (middle_at p) (2 * (p / 32 % 2) + p / 32 / 2) (p % 32) (omega arith) (omega arith))

pub from_flip : (σ : ℕ → ℕ) (s x : State) → From σ s x → From (λ p. σ (flip_at p)) s (flipped x)
from_flip σ s x before = record { bits = λ p h. bit-flipped x p h ∙ before.bits (flip_at p) (bounded 128 128 flip_at tt p h) }

pub from_middle : (σ : ℕ → ℕ) (s x : State) → From σ s x → From (λ p. σ (middle_at p)) s (middled x)
from_middle σ s x before = record { bits = λ p h. bit-middled x p h ∙ before.bits (middle_at p) (bounded 128 128 middle_at tt p h) }

pub from_itself : (s : State) → From (λ p. p) s s
from_itself s = record { bits = λ p h. refl }

-- ---- a move of places is a move of the block's bits, π, by the test

abbrev pub as_places : (ℕ → ℕ) → ℕ → ℕ
as_places π p = 32 * (π (4 * (p % 32) + p / 32) % 4) + π (4 * (p % 32) + p / 32) / 4

module _ (π σ : ℕ → ℕ) (t : T (below 128 (λ p. eqb (σ p) (as_places π p)))) (u : T (below 128 (λ q. ltb (π q) 128))) (s r : State) (h : Words r) (from : From σ s r) where
  bit_of_block : (q : ℕ) → q < 128 → bit (block_of s) q ≡ bit (word_of s (q % 4)) (q / 4)
  unfolding block_of
  bit_of_block q l = bit-from_words (word_of s) q l

  same_bit : (j i : ℕ) → j < 4 → i < 32 → bit (word_of r j) i ≡ bit (word 128 (placed π (block_of s)) j) i
  same_bit j i hj hi =
      let p : ℕ = 32 * j + i in
      let hp : p < 128 = omega arith in
      let q : ℕ = π (4 * i + j) in
      let hq : q < 128 = bounded 128 128 π u (4 * i + j) (omega arith) in
      let low : p % 32 ≡ i = omega arith in
      let high : p / 32 ≡ j = omega arith in
      sym (at_place r p j i high low) ∙ from.bits p hp ∙ ap (bit_at s) (agree 128 σ (as_places π) t p hp)
      ∙ ap₂ (λ (a b : ℕ). bit_at s (32 * (π (4 * a + b) % 4) + π (4 * a + b) / 4)) low high
      ∙ at_place s (32 * (q % 4) + q / 4) (q % 4) (q / 4) (omega arith) (omega arith)
      ∙ sym (bit_word (placed π (block_of s)) j i hi ∙ bit_of_bits 128 (λ q. bit (block_of s) (π q)) (4 * i + j) (omega arith) ∙ bit_of_block q hq)

  same_word : (j : ℕ) → j < 4 → word_of r j ≡ word 128 (placed π (block_of s)) j
  same_word j hj = bit_ext 32 (word_of r j) (word 128 (placed π (block_of s)) j) (words_at r h j hj) (word_lt (placed π (block_of s)) j) (λ i hi. same_bit j i hj hi)

  pub from_order : r ≡ state_of (placed π (block_of s))
  unfolding state_of
  from_order = same_words r (state_of (placed π (block_of s))) (same_word 0 (lit< tt)) (same_word 1 (lit< tt)) (same_word 2 (lit< tt)) (same_word 3 (lit< tt))
