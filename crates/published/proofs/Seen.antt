-- The two orders are orders; what is done and undone through one gives the bytes back; and order 1 is order 0 on bits that have changed places.
use mathlib.Core.Path.{◌≡◌, refl, sym, ap, ap₂, ◌∙◌}
use mathlib.Core.List.{List, [], ◌∷◌, ◌++◌}
use Prim.Native.Nat.{ℕ, zero, suc, ◌+◌, ◌-◌, ◌*◌, ◌/◌, ◌%◌, ◌^◌, ◌<◌}
use native.Mathlib.Omega.{arith}
use lib.Dec.{lit<}
use lib.ListN.{length, get_or}
use Rattle.bits.specs.Digit.{bit, of_bits}
use Rattle.bits.proofs.Bits.{bit_of_bits, bit_ext, of_bits_lt}
use Rattle.bits.proofs.Computed.{agree, bounded}
use Rattle.published.specs.Bytes.{from_bytes, to_bytes, Bytes}
use Rattle.published.specs.Packing.{word}
use Rattle.published.specs.Seen.{Order, word_at, read_words, write_words, read_in, write_in, seen}
use Rattle.published.proofs.Reading.{length_to_bytes, from_to, to_from, from_bytes-lt, bit-from_bytes, no_bytes, bytes_to_bytes, bytes-append}
use Rattle.published.proofs.Listed.{each}
use Rattle.published.proofs.Words.{four, word_lt, from_words-lt, bit-from_words, from_words-word, word-from_words}
use Rattle.published.proofs.Gift128.{block-lt}

-- ---- order 0

number-order : Order (read_in 0) (write_in 0)
number-order =
    record {
      block = block-lt;
      sixteen = length_to_bytes 16;
      bytes = bytes_to_bytes 16;
      written = from_to 16;
      again = λ bytes len h. ap (λ (k : ℕ). to_bytes k (from_bytes bytes)) (sym len) ∙ to_from bytes h;
    }

-- ---- order 1

-- the bytes of a word
abbrev four_at : List ℕ → ℕ → List ℕ
four_at bytes j = let b : ℕ → ℕ = λ k. get_or bytes (4 * j + k) 0 in b 0 ∷ b 1 ∷ b 2 ∷ b 3 ∷ []

four_bytes : (bytes : List ℕ) → Bytes bytes → (j : ℕ) → Bytes (four_at bytes j)
four_bytes bytes h j zero = h (4 * j + 0)
four_bytes bytes h j (suc zero) = h (4 * j + 1)
four_bytes bytes h j (suc (suc zero)) = h (4 * j + 2)
four_bytes bytes h j (suc (suc (suc zero))) = h (4 * j + 3)
four_bytes bytes h j (suc (suc (suc (suc i)))) = no_bytes i

pub word_at_lt : (bytes : List ℕ) → Bytes bytes → (j : ℕ) → word_at bytes j < 2 ^ 32
word_at_lt bytes h j = from_bytes-lt (four_at bytes j) (four_bytes bytes h j)

-- the words that were written are read
word_at_written : (x j : ℕ) → j < 4 → word_at (write_words x) j ≡ word 128 x j
unfolding write_words to_bytes
word_at_written x =
    four (λ (j : ℕ). word_at (write_words x) j ≡ word 128 x j)
    (from_to 4 (word 128 x 0) (word_lt x 0)) (from_to 4 (word 128 x 1) (word_lt x 1)) (from_to 4 (word 128 x 2) (word_lt x 2)) (from_to 4 (word 128 x 3) (word_lt x 3))

words-written : (x : ℕ) → x < 2 ^ 128 → read_words (write_words x) ≡ x
unfolding read_words
words-written x h = from_words-word (word_at (write_words x)) x h (word_at_written x)

-- the words of bytes that were read
pub word_read : (bytes : List ℕ) → Bytes bytes → (j : ℕ) → j < 4 → word 128 (read_words bytes) j ≡ word_at bytes j
unfolding read_words
word_read bytes h = word-from_words (word_at bytes) (λ j l. word_at_lt bytes h j)

four_again : (bytes : List ℕ) → Bytes bytes → (j : ℕ) → j < 4 → to_bytes 4 (word 128 (read_words bytes) j) ≡ four_at bytes j
four_again bytes h j l = ap (to_bytes 4) (word_read bytes h j l) ∙ to_from (four_at bytes j) (four_bytes bytes h j)

words_again : (bytes : List ℕ) → length bytes ≡ 16 → Bytes bytes → write_words (read_words bytes) ≡ bytes
unfolding write_words
words_again bytes len h =
    (λ i. four_again bytes h 0 (lit< tt) i ++ four_again bytes h 1 (lit< tt) i ++ four_again bytes h 2 (lit< tt) i ++ four_again bytes h 3 (lit< tt) i)
    ∙ each 16 (λ l. four_at l 0 ++ four_at l 1 ++ four_at l 2 ++ four_at l 3 ≡ l) (λ _ _ _ _ _ _ _ _ _ _ _ _ _ _ _ _. refl) bytes len

words-bytes : (x : ℕ) → Bytes (write_words x)
unfolding write_words
words-bytes x =
    let w : ℕ → List ℕ = λ j. to_bytes 4 (word 128 x j) in
    let b : (j : ℕ) → Bytes (w j) = λ j. bytes_to_bytes 4 (word 128 x j) in
    bytes-append (w 0 ++ w 1 ++ w 2) (w 3) (bytes-append (w 0 ++ w 1) (w 2) (bytes-append (w 0) (w 1) (b 0) (b 1)) (b 2)) (b 3)

words-order : Order (read_in 1) (write_in 1)
unfolding read_words write_words to_bytes
words-order =
    record {
      block = λ bytes _ _. from_words-lt (word_at bytes);
      sixteen = λ x. refl;
      bytes = words-bytes;
      written = words-written;
      again = words_again;
    }

-- each number is an order's
pub orders : (order : ℕ) → Order (read_in order) (write_in order)
orders zero = number-order
orders (suc _) = words-order

-- ---- what g undoes of f, it undoes of f seen through an order

pub seen_again : (order : ℕ) (f g : ℕ → ℕ) → ((x : ℕ) → x < 2 ^ 128 → f x < 2 ^ 128) → ((x : ℕ) → x < 2 ^ 128 → g (f x) ≡ x)
    → (bytes : List ℕ) → length bytes ≡ 16 → Bytes bytes → seen order g (seen order f bytes) ≡ bytes
seen_again order f g f_lt undone bytes len h =
    let o : Order (read_in order) (write_in order) = orders order in
    let x : ℕ = read_in order bytes in
    ap (λ (y : ℕ). write_in order (g y)) (o.written (f x) (f_lt x (o.block bytes len h)))
    ∙ ap (write_in order) (undone x (o.block bytes len h))
    ∙ o.again bytes len h

-- ---- order 1 by order 0

-- Bit q of a block that order 1 reads is bit `inward q` of what order 0 reads of the same bytes; `outward` is the way back.
abbrev pub inward : ℕ → ℕ
inward q = 32 * (3 - q % 4) + q / 4

abbrev pub outward : ℕ → ℕ
outward p = 4 * (p % 32) + (3 - p / 32)

pub in_out : (p : ℕ) → p < 128 → inward (outward p) ≡ p
in_out = agree 128 (λ p. inward (outward p)) (λ p. p) tt

pub out_in : (q : ℕ) → q < 128 → outward (inward q) ≡ q
out_in = agree 128 (λ q. outward (inward q)) (λ q. q) tt

-- the number whose bit q is bit π q of x; and bytes, read and written in order 0, with their bits so moved
abbrev pub placed : (ℕ → ℕ) → ℕ → ℕ
placed π x = of_bits 128 (λ q. bit x (π q))

abbrev pub permuted : (ℕ → ℕ) → List ℕ → List ℕ
permuted π = seen 0 (placed π)

module _ (bytes : List ℕ) (len : length bytes ≡ 16) (h : Bytes bytes) where
  -- bit i of word j
  bit_word_at : (j i : ℕ) → j < 4 → i < 32 → bit (word_at bytes j) i ≡ bit (from_bytes bytes) (32 * (3 - j) + i)
  bit_word_at j i l m =
      bit-from_bytes (four_at bytes j) (four_bytes bytes h j) i m
      ∙ ap (λ (b : ℕ). bit b (i % 8)) (four (λ (k : ℕ). get_or (four_at bytes j) k 0 ≡ get_or bytes (4 * j + k) 0) refl refl refl refl (3 - i / 8) (omega arith))
      ∙ ap₂ (λ (k r : ℕ). bit (get_or bytes k 0) r) place (omega arith)
      ∙ sym (bit-from_bytes bytes h (32 * (3 - j) + i) (omega arith))
    where
      place : 4 * j + (3 - i / 8) ≡ length bytes - 1 - (32 * (3 - j) + i) / 8
      place = omega arith

  pub inwards : read_words bytes ≡ placed inward (from_bytes bytes)
  unfolding read_words
  inwards =
      bit_ext 128 (read_words bytes) (placed inward (from_bytes bytes)) (from_words-lt (word_at bytes)) (of_bits_lt 128 (λ q. bit (from_bytes bytes) (inward q)))
      (λ q l.
      bit-from_words (word_at bytes) q l ∙ bit_word_at (q % 4) (q / 4) (omega arith) (omega arith)
      ∙ sym (bit_of_bits 128 (λ q. bit (from_bytes bytes) (inward q)) q l))

pub outwards : (x : ℕ) → x < 2 ^ 128 → write_words x ≡ to_bytes 16 (placed outward x)
outwards x h =
    let y : ℕ = from_bytes (write_words x) in
    let len : length (write_words x) ≡ 16 = words-order.sixteen x in
    let b : Bytes (write_words x) = words-order.bytes x in
    sym (number-order.again (write_words x) len b)
    ∙ ap (to_bytes 16)
    (bit_ext 128 y (placed outward x) (number-order.block (write_words x) len b) (of_bits_lt 128 (λ p. bit x (outward p)))
    (λ p l.
    ap (bit y) (sym (in_out p l))
    ∙ sym (ap (λ (z : ℕ). bit z (outward p)) (sym (words-written x h) ∙ inwards (write_words x) len b) ∙ bit_of_bits 128 (λ q. bit y (inward q)) (outward p) (bounded 128 128 outward tt p l))
    ∙ sym (bit_of_bits 128 (λ p. bit x (outward p)) p l)))

-- Bytes of one order, read in the other.
pub read-words-number : (x : ℕ) → x < 2 ^ 128 → read_in 1 (write_in 0 x) ≡ placed inward x
read-words-number x h = inwards (to_bytes 16 x) (length_to_bytes 16 x) (bytes_to_bytes 16 x) ∙ ap (placed inward) (from_to 16 x h)

pub read-number-words : (x : ℕ) → x < 2 ^ 128 → read_in 0 (write_in 1 x) ≡ placed outward x
read-number-words x h = ap from_bytes (outwards x h) ∙ from_to 16 (placed outward x) (of_bits_lt 128 (λ p. bit x (outward p)))

-- Whatever is done to a block: order 1's answer is order 0's answer on the block permuted by one fixed permutation of bits, permuted back.
pub order_1_by_0 : (f : ℕ → ℕ) → ((x : ℕ) → x < 2 ^ 128 → f x < 2 ^ 128) → (bytes : List ℕ) → length bytes ≡ 16 → Bytes bytes
    → seen 1 f bytes ≡ permuted outward (seen 0 f (permuted inward bytes))
order_1_by_0 f f_lt bytes len h =
    let x : ℕ = read_words bytes in
    let x_lt : x < 2 ^ 128 = words-order.block bytes len h in
    let read : from_bytes (permuted inward bytes) ≡ x = from_to 16 (placed inward (from_bytes bytes)) (of_bits_lt 128 (λ q. bit (from_bytes bytes) (inward q))) ∙ sym (inwards bytes len h) in
    outwards (f x) (f_lt x x_lt)
    ∙ ap (λ (y : ℕ). to_bytes 16 (placed outward y)) (sym (ap (λ (y : ℕ). from_bytes (to_bytes 16 (f y))) read ∙ from_to 16 (f x) (f_lt x x_lt)))
