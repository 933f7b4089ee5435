-- A block and its two halves: their bits gathered into words and scattered again; and the bytes of a block, and of its words, as the library reads them and as they are written, half by half.
use mathlib.Core.Path.{◌≡◌, sym, ap, ap₂, ◌∙◌}
use mathlib.Core.List.{List, [], ◌∷◌, ◌++◌}
use Prim.Native.Nat.{ℕ, ◌+◌, ◌*◌, ◌/◌, ◌%◌, ◌^◌, ◌<◌}
use native.Mathlib.Nat.{div-one}
use native.Mathlib.Omega.{arith}
use lib.Dec.{T, ltb, lit<}
use lib.ListN.{length}
use Rattle.std.specs.Int.{w128, from_be_bytes}
use Rattle.bits.specs.Digit.{digit, bit}
use Rattle.bits.proofs.Digits.{number_cong, number-digit, digit_lt, digit_top, digit-below, digit-digit}
use Rattle.bits.proofs.Bits.{bit-digit, bit_ext}
use Rattle.bits.proofs.Computed.{agree}
use Rattle.published.specs.Bytes.{from_bytes, to_bytes}
use Rattle.published.specs.Packing.{word}
use Rattle.published.specs.Seen.{write_words}
use Rattle.published.proofs.Listed.{each}
use Rattle.published.proofs.Words.{bit_word, word_lt}
use Rattle.primitives.specs.declared.State.{State}
use Rattle.primitives.specs.Packed.{word_of, block_of, state_of, Words}
use Rattle.primitives.proofs.Blocks.{word_of_state_of, word_block_of}
use Rattle.packing.specs.Inner.{reordered, gathered_from, scattered_from, word_from, half_from}
use Rattle.packing.proofs.Steps.{reordered-lt, bit-reordered}

-- half h of a block, the upper one being 1
abbrev pub half_of : ℕ → ℕ → ℕ
half_of x h = digit (2 ^ 64) x h

-- ---- pieces

-- gathered, piece j of half h is piece h of word j
pieces : (x h j : ℕ) → h < 2 → j < 4 → digit 65536 (reordered gathered_from (half_of x h)) j ≡ digit 65536 (word 128 x j) h
pieces x h j l m =
    bit_ext 16 _ _ (digit_lt 65536 (lit< tt) (reordered gathered_from (half_of x h)) j) (digit_lt 65536 (lit< tt) (word 128 x j) h)
    (λ i k.
    bit-digit 16 (reordered gathered_from (half_of x h)) j i k ∙ bit-reordered _ (half_of x h) (16 * j + i) (omega arith)
    ∙ bit-digit 64 x h (gathered_from (16 * j + i)) (omega arith)
    ∙ ap (bit x) (place i k)
    ∙ sym (bit-digit 16 (word 128 x j) h i k ∙ bit_word x j (16 * h + i) (omega arith)))
  where
    place : (i : ℕ) → i < 16 → 64 * h + gathered_from (16 * j + i) ≡ 4 * (16 * h + i) + j
    place i k = omega arith

two : (w : ℕ) → w < 2 ^ 32 → digit 65536 w 1 * 65536 + digit 65536 w 0 ≡ w
unfolding digit
two w h = omega arith

pub words : (x j : ℕ) → j < 4 → word_from (reordered gathered_from (half_of x 1)) (reordered gathered_from (half_of x 0)) j ≡ word 128 x j
words x j l =
    ap₂ (λ (a b : ℕ). a * 65536 + b) (pieces x 1 j (lit< tt) l) (pieces x 0 j (lit< tt) l) ∙ two (word 128 x j) (word_lt x j)

pub scattered_half : (x h : ℕ) → h < 2 → reordered scattered_from (half_from (state_of x) h) ≡ half_of x h
scattered_half x h l =
    ap (reordered scattered_from)
    (number_cong 65536 4 _ _ (λ j m. ap (λ (w : ℕ). digit 65536 w h) (word_of_state_of x j m) ∙ sym (pieces x h j l m))
    ∙ number-digit 65536 (lit< tt) 4 (reordered gathered_from (half_of x h)) (reordered-lt _ (half_of x h)))
    ∙ bit_ext 64 _ _ (reordered-lt _ (reordered gathered_from (half_of x h))) (digit_lt (2 ^ 64) (lit< tt) x h)
    (λ p m.
    bit-reordered _ (reordered gathered_from (half_of x h)) p m ∙ bit-reordered _ (half_of x h) (scattered_from p) (omega arith)
    ∙ ap (bit (half_of x h)) (agree 64 (λ p. gathered_from (scattered_from p)) (λ p. p) tt p m))

-- ---- bytes

-- what the library reads from sixteen bytes
pub reads : (bs : List ℕ) → length bs ≡ 16 → from_be_bytes w128 bs ≡ from_bytes bs
unfolding from_bytes
reads = each 16 (λ bs. from_be_bytes w128 bs ≡ from_bytes bs) (λ _ _ _ _ _ _ _ _ _ _ _ _ _ _ _ _. omega arith)

pub upper-half : (x : ℕ) → x < 2 ^ 128 → x / 2 ^ 64 ≡ half_of x 1
unfolding digit
upper-half x h = omega arith

pub lower-half : (x : ℕ) → x % 2 ^ 64 ≡ half_of x 0
unfolding digit
lower-half x = rw div-one

-- the bytes of a block are those of its halves
pub halved : (x : ℕ) → to_bytes 8 (half_of x 1) ++ to_bytes 8 (half_of x 0) ≡ to_bytes 16 x
unfolding to_bytes
halved x =
    λ i.
    d 1 7 tt i ∷ d 1 6 tt i ∷ d 1 5 tt i ∷ d 1 4 tt i ∷ d 1 3 tt i ∷ d 1 2 tt i ∷ d 1 1 tt i ∷ d 1 0 tt i
    ∷ d 0 7 tt i ∷ d 0 6 tt i ∷ d 0 5 tt i ∷ d 0 4 tt i ∷ d 0 3 tt i ∷ d 0 2 tt i ∷ d 0 1 tt i ∷ d 0 0 tt i ∷ []
  where
    d : (h m : ℕ) → T (ltb m 8) → digit 256 (half_of x h) m ≡ digit 256 x (8 * h + m)
    d h m t = digit-digit 256 (lit< tt) 8 x h m (lit< t)

-- two words side by side: the upper one and the lower
module _ (a b : ℕ) (ha : a < 2 ^ 32) (hb : b < 2 ^ 32) where
  upper : (m : ℕ) → T (ltb m 4) → digit 256 (a * 2 ^ 32 + b) (4 + m) ≡ digit 256 a m
  upper m t =
      sym (digit-digit 256 (lit< tt) 4 (a * 2 ^ 32 + b) 1 m (lit< t)) ∙ ap (λ (w : ℕ). digit 256 w m) (digit_top (2 ^ 32) (lit< tt) 1 a b ha hb)

  lower : (m : ℕ) → T (ltb m 4) → digit 256 (a * 2 ^ 32 + b) m ≡ digit 256 b m
  lower m t = digit-below 256 (lit< tt) 4 a b m (lit< t)

-- and in order 1 the halves are two words each
pub words-halved : (s : State) → Words s → to_bytes 8 (s.s0 * 2 ^ 32 + s.s1) ++ to_bytes 8 (s.s2 * 2 ^ 32 + s.s3) ≡ write_words (block_of s)
unfolding to_bytes write_words
words-halved s h =
    (λ i.
    u01 3 tt i ∷ u01 2 tt i ∷ u01 1 tt i ∷ u01 0 tt i ∷ l01 3 tt i ∷ l01 2 tt i ∷ l01 1 tt i ∷ l01 0 tt i
    ∷ u23 3 tt i ∷ u23 2 tt i ∷ u23 1 tt i ∷ u23 0 tt i ∷ l23 3 tt i ∷ l23 2 tt i ∷ l23 1 tt i ∷ l23 0 tt i ∷ [])
    ∙ sym (λ i. to_bytes 4 (w 0 tt i) ++ to_bytes 4 (w 1 tt i) ++ to_bytes 4 (w 2 tt i) ++ to_bytes 4 (w 3 tt i))
  where
    w : (j : ℕ) → T (ltb j 4) → word 128 (block_of s) j ≡ word_of s j
    w j t = word_block_of s h j (lit< t)

    u01 : (m : ℕ) → T (ltb m 4) → digit 256 (s.s0 * 2 ^ 32 + s.s1) (4 + m) ≡ digit 256 s.s0 m
    u01 = upper s.s0 s.s1 h.0 h.1

    l01 : (m : ℕ) → T (ltb m 4) → digit 256 (s.s0 * 2 ^ 32 + s.s1) m ≡ digit 256 s.s1 m
    l01 = lower s.s0 s.s1 h.0 h.1

    u23 : (m : ℕ) → T (ltb m 4) → digit 256 (s.s2 * 2 ^ 32 + s.s3) (4 + m) ≡ digit 256 s.s2 m
    u23 = upper s.s2 s.s3 h.2 h.3

    l23 : (m : ℕ) → T (ltb m 4) → digit 256 (s.s2 * 2 ^ 32 + s.s3) m ≡ digit 256 s.s3 m
    l23 = lower s.s2 s.s3 h.2 h.3
