-- Sliced words at any width: the block that four words stand for, nibble n at place `place n` of each; its nibbles are columns; and a round on words is the published round
-- if each bit of the words after it is the table's bit from where P takes it, with what key and constant put in.
use mathlib.Core.Path.{◌≡◌, refl, sym, ap, ap₂, ◌∙◌}
use mathlib.Core.Bool.{Bool, true, false, cond, ◌&&◌, ◌||◌}
use Prim.Native.Nat.{ℕ, zero, suc, ◌+◌, ◌-◌, ◌*◌, ◌/◌, ◌%◌, ◌^◌, ◌≤◌, ◌<◌, zero-le}
use native.Mathlib.Nat.{div-add-mod, one-mul, lt_of_lt_of_le}
use native.Mathlib.Decide.{ℕ_discrete, dec_lt}
use native.Mathlib.Omega.{arith}
use lib.Bits.{bit_xor, xor_lt}
use lib.Dec.{eqb, ltb, lit<}
use lib.Pow.{pow_mono}
use borrow.Author.Tests.{eq-eqb, ne_eqb, lt-ltb, le-ltb}
use Rattle.bits.specs.Digit.{digit, bit, ◌⊕◌}
use Rattle.bits.proofs.Digits.{digit_lt, digit_top}
use Rattle.bits.proofs.Bits.{bit-digit, bit_ext, bit_of_bits, bit_out, bit_join_low, bit-xor, of_bits_bit, of_bits_cong, of_bits_lt, ⊕-false, ⊕_assoc, ⊕-twice}
use Rattle.published.specs.Rounds.{Pair, entry, key_bit, constant_bit, round}
use Rattle.published.specs.Inner.{back, unentry}
use Rattle.published.proofs.Steps.{Width, unentry-lt, entry-unentry}
use Rattle.published.proofs.Undone.{round-lt}
use Rattle.published.proofs.OneBit.{source_lt, bit-round}
use Rattle.published.proofs.Words.{four}
use Rattle.primitives.specs.declared.State.{State}
use Rattle.primitives.specs.Packed.{word_of, Words}
use Rattle.primitives.proofs.Blocks.{words_at}
use Rattle.quintuple.specs.Boxes.{column, substituted, boxed}
use Rattle.quintuple.specs.Inner.{block_at, exchanged_of}

-- ---- columns

pub column-lt : (s : State) (i : ℕ) → column s i < 16
unfolding column
column-lt s i = of_bits_lt 4 (λ j. bit (word_of s j) i)

bit-column : (s : State) (i j : ℕ) → j < 4 → bit (column s i) j ≡ bit (word_of s j) i
unfolding column
bit-column s i j h = bit_of_bits 4 (λ k. bit (word_of s k) i) j h

bit-substituted : (f : ℕ → ℕ) (s : State) (j i : ℕ) → i < 32 → bit (substituted f s j) i ≡ bit (f (column s i)) j
unfolding substituted
bit-substituted f s j i h = bit_of_bits 32 (λ k. bit (f (column s k)) j) i h

-- ---- the block that four words stand for

pub low : (n j : ℕ) → j < 4 → (4 * n + j) % 4 ≡ j
low n j h = omega arith

pub high : (n j : ℕ) → j < 4 → (4 * n + j) / 4 ≡ n
high n j h = omega arith

pub block_at_lt : (w : ℕ) (place : ℕ → ℕ) (s : State) → block_at w place s < 2 ^ w
block_at_lt w place s = of_bits_lt w (λ q. bit (word_of s (q % 4)) (place (q / 4)))

module _ (w : ℕ) (ok : Width w) (place : ℕ → ℕ) (s : State) (n : ℕ) (hn : n < w / 4) where
  bit_block_at : (j : ℕ) → j < 4 → bit (block_at w place s) (4 * n + j) ≡ bit (word_of s j) (place n)
  bit_block_at j hj =
      bit_of_bits w (λ q. bit (word_of s (q % 4)) (place (q / 4))) (4 * n + j) (omega (arith, ok.whole))
      ∙ ap₂ (λ (a b : ℕ). bit (word_of s a) (place b)) (low n j hj) (high n j hj)

  -- a nibble of that block is a column of the words
  nibble_column : digit 16 (block_at w place s) n ≡ column s (place n)
  unfolding column
  nibble_column =
      bit_ext 4 (digit 16 (block_at w place s) n) (column s (place n)) (digit_lt 16 (lit< tt) (block_at w place s) n) (of_bits_lt 4 (λ j. bit (word_of s j) (place n)))
      (λ j hj. bit-digit 4 (block_at w place s) n j hj ∙ bit_block_at j hj ∙ sym (bit_of_bits 4 (λ i. bit (word_of s i) (place n)) j hj))

-- ---- what key and constant put into a bit

-- into bit j of nibble n bit n of a word: V at J, U at the next place, the word k of the constant at 3, and nothing else
abbrev pub key_word : ℕ → Pair → ℕ → ℕ → ℕ
key_word J p k j = cond (eqb j (J + 1)) p.u (cond (eqb j J) p.v (cond (eqb j 3) k 0))

top_bit : (m c : ℕ) → c < 2 ^ m → bit (2 ^ m + c) m ≡ true
unfolding bit
top_bit m c h =
    ap (λ (x : ℕ). eqb (digit 2 (x + c) m) 1) (sym (one-mul (2 ^ m))) ∙ ap (λ (d : ℕ). eqb d 1) (digit_top 2 (lit< tt) m 1 c (lit< tt) h)

under_bit : (m c n : ℕ) → n < m → bit (2 ^ m + c) n ≡ bit c n
under_bit m c n h = ap (λ (x : ℕ). bit (x + c) n) (sym (one-mul (2 ^ m))) ∙ bit_join_low m 1 c n h

-- m is the highest nibble
module _ (m : ℕ) (room : 6 ≤ m) (n : ℕ) (hn : n < m + 1) (p : Pair) (c : ℕ) (hc : c < 64) where
  -- the flipped bit and the six bits of the constant
  constant-bit : eqb (4 * n + 3) (4 * m + 3) ⊕ (ltb n 6 && bit c n) ≡ bit (2 ^ m + c) n
  constant-bit =
      elim (ℕ_discrete n m) [
        | yes e ↦ rw (e, eq-eqb (4 * m + 3) (4 * m + 3) refl, le-ltb m 6 room) (sym (top_bit m c (lt_of_lt_of_le hc (pow_mono room))))
        | no ne ↦ ap (λ (x : Bool). x ⊕ (ltb n 6 && bit c n)) (ne_eqb (4 * n + 3) (4 * m + 3) (λ e. ne (omega arith))) ∙ few ∙ sym (under_bit m c n (omega arith))
      ]
    where
      few : (ltb n 6 && bit c n) ≡ bit c n
      few =
          elim (dec_lt n 6) [
            | yes l ↦ ap (λ (x : Bool). x && bit c n) (lt-ltb n 6 l)
            | no l ↦ ap (λ (x : Bool). x && bit c n) (le-ltb n 6 (omega arith)) ∙ sym (bit_out 6 c n hc (omega arith))
          ]

  not_top : (j : ℕ) → j < 3 → eqb (4 * n + j) (4 * m + 3) ≡ false
  not_top j h = ne_eqb (4 * n + j) (4 * m + 3) (λ e. omega arith)

  or-false : (x : Bool) → (x || false) ≡ x
  or-false false = refl
  or-false true = refl

  abbrev put : ℕ → ℕ → Bool
  put J j = (eqb j (J + 1) && bit p.u n || eqb j J && bit p.v n) ⊕ (eqb (4 * n + j) (4 * m + 3) ⊕ (eqb j 3 && ltb n 6 && bit c n))

  -- nothing, V or U, at a place below 3
  nothing : (j : ℕ) → j < 3 → eqb (4 * n + j) (4 * m + 3) ⊕ false ≡ bit 0 n
  nothing j h = ap (λ (x : Bool). x ⊕ false) (not_top j h) ∙ sym (bit_out 0 0 n (lit< tt) zero-le)

  only : (j : ℕ) (x : Bool) → j < 3 → x ⊕ (eqb (4 * n + j) (4 * m + 3) ⊕ false) ≡ x
  only j x h = ap (λ (y : Bool). x ⊕ (y ⊕ false)) (not_top j h) ∙ ⊕-false x

  words-put : (J j : ℕ) → J < 2 → j < 4 → put J j ≡ bit (key_word J p (2 ^ m + c) j) n
  words-put zero j hJ hj =
      four (λ (j : ℕ). put 0 j ≡ bit (key_word 0 p (2 ^ m + c) j) n) (only 0 (bit p.v n) (lit< tt))
      (only 1 (bit p.u n || false) (lit< tt) ∙ or-false (bit p.u n)) (nothing 2 (lit< tt)) constant-bit j hj
  words-put (suc zero) j hJ hj =
      four (λ (j : ℕ). put 1 j ≡ bit (key_word 1 p (2 ^ m + c) j) n) (nothing 0 (lit< tt)) (only 1 (bit p.v n) (lit< tt))
      (only 2 (bit p.u n || false) (lit< tt) ∙ or-false (bit p.u n)) constant-bit j hj
  words-put (suc (suc J)) j hJ hj = absurd (omega arith)

  pub key-bits : (J j : ℕ) → J < 2 → j < 4 → key_bit J p (4 * n + j) ⊕ constant_bit (4 * m + 4) c (4 * n + j) ≡ bit (key_word J p (2 ^ m + c) j) n
  unfolding key_bit constant_bit
  key-bits J j hJ hj =
      let last : 4 * m + 4 - 1 ≡ 4 * m + 3 = omega arith in
      ap₂ (λ (k d : ℕ). (eqb k (J + 1) && bit p.u d || eqb k J && bit p.v d) ⊕ (eqb (4 * n + j) (4 * m + 4 - 1) ⊕ (eqb k 3 && ltb d 6 && bit c d))) (low n j hj) (high n j hj)
      ∙ ap (λ (t : ℕ). (eqb j (J + 1) && bit p.u n || eqb j J && bit p.v n) ⊕ (eqb (4 * n + j) t ⊕ (eqb j 3 && ltb n 6 && bit c n))) last
      ∙ words-put J j hJ hj

-- ---- a round on words is the published round

module _ (w : ℕ) (ok : Width w) (here there : ℕ → ℕ) (inside : (n : ℕ) → n < w / 4 → here n < 32) (s t : State) (J : ℕ) (p : Pair) (c : ℕ)
    (right : (n j : ℕ) → n < w / 4 → j < 4 → bit (word_of t j) (there n) ≡ bit (substituted entry s j) (here (back w (4 * n + j) / 4)) ⊕ (key_bit J p (4 * n + j) ⊕ constant_bit w c (4 * n + j))) where
  abbrev b : ℕ
  b = block_at w here s

  same_bit : (n j : ℕ) → n < w / 4 → j < 4 → bit (block_at w there t) (4 * n + j) ≡ bit (round w J p c b) (4 * n + j)
  same_bit n j hn hj =
      let m : ℕ = back w (4 * n + j) / 4 in
      let hm : m < w / 4 = source_lt w ok n j hn hj in
      bit_block_at w ok there t n hn j hj ∙ right n j hn hj
      ∙ ap (λ (x : Bool). x ⊕ (key_bit J p (4 * n + j) ⊕ constant_bit w c (4 * n + j)))
      (bit-substituted entry s j (here m) (inside m hm) ∙ ap (λ (x : ℕ). bit (entry x) j) (sym (nibble_column w ok here s m hm)))
      ∙ sym (⊕_assoc (bit (entry (digit 16 b m)) j) (key_bit J p (4 * n + j)) (constant_bit w c (4 * n + j)))
      ∙ sym (bit-round w ok n j hn hj J p c b)

  pub sliced_round : block_at w there t ≡ round w J p c b
  sliced_round =
      bit_ext w (block_at w there t) (round w J p c b) (block_at_lt w there t) (round-lt w J ok p c b)
      (λ q h.
      ap (bit (block_at w there t)) (sym (div-add-mod q 4)) ∙ same_bit (q / 4) (q % 4) (omega (arith, ok.whole)) (omega arith)
      ∙ ap (bit (round w J p c b)) (div-add-mod q 4))

-- ---- what undoing asks: the table undoes the inverse table, word by word, and a word xored in twice is gone

module _ (t : State) (h : Words t) where
  abbrev looked : State
  looked = exchanged_of (boxed unentry t)

  looked-word : (j : ℕ) → j < 4 → word_of looked j ≡ substituted unentry t j
  unfolding boxed
  looked-word = four (λ (j : ℕ). word_of looked j ≡ substituted unentry t j) refl refl refl refl

  looked-column : (i : ℕ) → i < 32 → column looked i ≡ unentry (column t i)
  looked-column i hi =
      bit_ext 4 (column looked i) (unentry (column t i)) (column-lt looked i) (unentry-lt (column t i) (column-lt t i))
      (λ j hj. bit-column looked i j hj ∙ ap (λ (w : ℕ). bit w i) (looked-word j hj) ∙ bit-substituted unentry t j i hi)

  pub back_again : (j : ℕ) → j < 4 → substituted entry looked j ≡ word_of t j
  unfolding substituted
  back_again j hj =
      of_bits_cong 32 (λ i. bit (entry (column looked i)) j) (bit (word_of t j))
      (λ i hi.
      ap (λ (x : ℕ). bit (entry x) j) (looked-column i hi) ∙ ap (λ (x : ℕ). bit x j) (entry-unentry (column t i) (column-lt t i)) ∙ bit-column t i j hj)
      ∙ of_bits_bit 32 (word_of t j) (words_at t h j hj)

pub xor-twice : (a b : ℕ) → a < 2 ^ 32 → b < 2 ^ 32 → bit_xor (bit_xor a b) b ≡ a
xor-twice a b ha hb =
    bit_ext 32 (bit_xor (bit_xor a b) b) a (xor_lt 32 (bit_xor a b) b (xor_lt 32 a b ha hb) hb) ha
    (λ i h. bit-xor (bit_xor a b) b i ∙ ap (λ (x : Bool). x ⊕ bit b i) (bit-xor a b i) ∙ ⊕-twice (bit a i) (bit b i))
