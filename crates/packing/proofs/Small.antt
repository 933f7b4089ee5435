-- A block of GIFT-64 is one half: its pieces, gathered, are its words; and what packing and unpacking answer for eight bytes and for any other length.
use mathlib.Core.Path.{◌≡◌, sym, ap, ◌∙◌}
use mathlib.Core.Bool.{Bool, cond}
use mathlib.Core.List.{List}
use Prim.Native.Nat.{ℕ, ◌+◌, ◌*◌, ◌/◌, ◌%◌, ◌<◌}
use native.Mathlib.Nat.{zero-add}
use native.Mathlib.Omega.{arith}
use lib.Dec.{lit<}
use lib.ListN.{length}
use borrow.Author.Tests.{eq-eqb, ne_eqb}
use Rattle.std.specs.Int.{w64, from_be_bytes}
use Rattle.bits.specs.Digit.{digit, bit}
use Rattle.bits.proofs.Digits.{digit_lt, digit-number}
use Rattle.bits.proofs.Bits.{bit-digit, bit_ext, bit_of_bits, of_bits_lt}
use Rattle.published.specs.Bytes.{from_bytes, to_bytes}
use Rattle.published.specs.Packing.{word}
use Rattle.published.proofs.Listed.{each}
use Rattle.primitives.specs.declared.State.{State}
use Rattle.primitives.specs.Packed.{word_of, block_of64, state_of64}
use Rattle.packing.specs.Inner.{reordered, gathered_from, scattered_from, half_from}
use Rattle.packing.specs.Packing.{no_words, packed64, unpacked64}
use Rattle.packing.proofs.Steps.{reordered-lt, bit-reordered}

-- gathered, piece j is word j
pub piece_is_word : (x j : ℕ) → j < 4 → digit 65536 (reordered gathered_from x) j ≡ word 64 x j
unfolding word
piece_is_word x j l =
    bit_ext 16 _ _ (digit_lt 65536 (lit< tt) (reordered gathered_from x) j) (of_bits_lt 16 (λ i. bit x (4 * i + j)))
    (λ i k.
    bit-digit 16 (reordered gathered_from x) j i k ∙ bit-reordered _ x (16 * j + i) (omega arith) ∙ ap (bit x) (place i k)
    ∙ sym (bit_of_bits 16 (λ i. bit x (4 * i + j)) i k))
  where
    place : (i : ℕ) → i < 16 → gathered_from (16 * j + i) ≡ 4 * i + j
    place i k = omega arith

-- and the low pieces of four words, scattered, are the block that they stand for
pub scattered_words : (s : State) → reordered scattered_from (half_from s 0) ≡ block_of64 s
unfolding block_of64
scattered_words s =
    bit_ext 64 _ _ (reordered-lt _ (half_from s 0)) (of_bits_lt 64 (λ q. bit (word_of s (q % 4)) (q / 4)))
    (λ p h.
    bit-reordered _ (half_from s 0) p h ∙ at (p % 4) (p / 4) (omega arith) (omega arith)
    ∙ sym (bit_of_bits 64 (λ q. bit (word_of s (q % 4)) (q / 4)) p h))
  where
    low : (j : ℕ) → digit 65536 (word_of s j) 0 < 65536
    low j = digit_lt 65536 (lit< tt) (word_of s j) 0

    at : (j i : ℕ) → j < 4 → i < 16 → bit (half_from s 0) (16 * j + i) ≡ bit (word_of s j) i
    at j i hj hi =
        sym (bit-digit 16 (half_from s 0) j i hi)
        ∙ ap (λ (x : ℕ). bit x i) (digit-number 65536 (lit< tt) 4 (λ k. digit 65536 (word_of s k) 0) (λ k l. low k) j hj)
        ∙ bit-digit 16 (word_of s j) 0 i hi ∙ ap (bit (word_of s j)) (zero-add i)

-- ---- bytes, as the library reads them

pub reads-eight : (bs : List ℕ) → length bs ≡ 8 → from_be_bytes w64 bs ≡ from_bytes bs
unfolding from_bytes
reads-eight = each 8 (λ bs. from_be_bytes w64 bs ≡ from_bytes bs) (λ _ _ _ _ _ _ _ _. omega arith)

-- ---- what the two answer

pub packed-eight : (bs : List ℕ) → length bs ≡ 8 → packed64 bs ≡ state_of64 (from_bytes bs)
unfolding packed64
packed-eight bs e = ap (λ (b : Bool). cond b (state_of64 (from_bytes bs)) no_words) (eq-eqb (length bs) 8 e)

pub packed_not_eight : (bs : List ℕ) → (length bs ≡ 8 → ⊥) → packed64 bs ≡ no_words
unfolding packed64
packed_not_eight bs n = ap (λ (b : Bool). cond b (state_of64 (from_bytes bs)) no_words) (ne_eqb (length bs) 8 n)

pub unpacked-eight : (s : State) (out : List ℕ) → length out ≡ 8 → unpacked64 s out ≡ to_bytes 8 (block_of64 s)
unfolding unpacked64
unpacked-eight s out e = ap (λ (b : Bool). cond b (to_bytes 8 (block_of64 s)) out) (eq-eqb (length out) 8 e)

pub unpacked_not_eight : (s : State) (out : List ℕ) → (length out ≡ 8 → ⊥) → unpacked64 s out ≡ out
unfolding unpacked64
unpacked_not_eight s out n = ap (λ (b : Bool). cond b (to_bytes 8 (block_of64 s)) out) (ne_eqb (length out) 8 n)
