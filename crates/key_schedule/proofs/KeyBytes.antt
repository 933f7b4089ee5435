-- The words of the first two rounds: read from four bytes of the key each, they are the published U, V of the key read as one number.
use mathlib.Core.Path.{◌≡◌, refl, sym, ap, ap₂, ◌∙◌}
use mathlib.Core.Bool.{Bool, true, false, cond}
use mathlib.Core.List.{List}
use Prim.Native.Nat.{ℕ, ◌+◌, ◌-◌, ◌*◌, ◌/◌, ◌%◌, ◌^◌, ◌≤◌, ◌<◌}
use native.Mathlib.Omega.{arith}
use lib.Arith.{digits_lt}
use lib.Dec.{ltb, lit<}
use lib.ListN.{length, get_or, take, drop, length-take, length-drop}
use lib.Seq.{get_or-take, get_or-drop}
use borrow.Author.Tests.{ltb-true, ltb-false}
use Rattle.bits.specs.Digit.{digit, bit}
use Rattle.bits.proofs.Digits.{digit_lt}
use Rattle.bits.proofs.Bits.{bit-digit, bit_ext}
use Rattle.published.specs.Bytes.{from_bytes, Bytes}
use Rattle.published.specs.Rounds.{Pair}
use Rattle.published.specs.Key.{◌‖◌}
use Rattle.published.specs.Gift128.{pair_of}
use Rattle.published.proofs.Reading.{bit-from_bytes, from_bytes-lt, bytes_take}
use Rattle.key_schedule.specs.InnerTens.{first_words}
use Rattle.key_schedule.proofs.Halves.{bit_join}
use Rattle.key_schedule.proofs.TenWords.{same_four}
use Rattle.key_schedule.proofs.KeyState.{one_on, four_of}

module _ (key : List ℕ) (len : length key ≡ 16) (bytes : Bytes key) where
  half_lt : (i : ℕ) → digit 65536 (from_bytes key) i < 2 ^ 16
  half_lt i = digit_lt 65536 (lit< tt) (from_bytes key) i

  module _ (i : ℕ) (hi : i < 4) where
    four : List ℕ
    four = take 4 (drop (12 - 4 * i) key)

    four-len : length four ≡ 4
    unfolding four
    four-len = simp (length-take, length-drop) (omega arith)

    four_bytes : Bytes four
    unfolding four
    four_bytes = bytes_take 4 (drop (12 - 4 * i) key) (λ j. rw get_or-drop (bytes (12 - 4 * i + j)))

    -- bit j of the four bytes, and of two of the key's words of 16 bits, is bit 32 * i + j of the key
    bit-four : (j : ℕ) → j < 32 → bit (from_bytes four) j ≡ bit (from_bytes key) (32 * i + j)
    unfolding four
    bit-four j h =
        let byte : 12 - 4 * i + (4 - 1 - j / 8) ≡ length key - 1 - (32 * i + j) / 8 = omega arith in
        let place : j % 8 ≡ (32 * i + j) % 8 = omega arith in
        bit-from_bytes four four_bytes j (omega (arith, four-len))
        ∙ ap₂ bit
        (ap (λ (n : ℕ). get_or four (n - 1 - j / 8) 0) four-len ∙ get_or-take 4 (drop (12 - 4 * i) key) (4 - 1 - j / 8) 0 (omega arith)
        ∙ get_or-drop (12 - 4 * i) key (4 - 1 - j / 8) 0
        ∙ ap (λ (n : ℕ). get_or key n 0) byte)
        place
        ∙ sym (bit-from_bytes key bytes (32 * i + j) (omega arith))

    bit-halves : (j : ℕ) → j < 32
        → bit (digit 65536 (from_bytes key) (2 * i + 1) ‖ digit 65536 (from_bytes key) (2 * i)) j ≡ bit (from_bytes key) (32 * i + j)
    bit-halves j h = bit_join 16 (digit 65536 (from_bytes key) (2 * i + 1)) (digit 65536 (from_bytes key) (2 * i)) j (half_lt (2 * i)) ∙ go (ltb j 16) refl
      where
        go : (t : Bool) → ltb j 16 ≡ t
            → cond t (bit (digit 65536 (from_bytes key) (2 * i)) j) (bit (digit 65536 (from_bytes key) (2 * i + 1)) (j - 16)) ≡ bit (from_bytes key) (32 * i + j)
        go true e =
            let place : 16 * (2 * i) + j ≡ 32 * i + j = omega arith in
            bit-digit 16 (from_bytes key) (2 * i) j (ltb-true j 16 e) ∙ ap (bit (from_bytes key)) place
        go false e =
            let from : 16 ≤ j = ltb-false j 16 e in
            let place : 16 * (2 * i + 1) + (j - 16) ≡ 32 * i + j = omega arith in
            bit-digit 16 (from_bytes key) (2 * i + 1) (j - 16) (omega arith) ∙ ap (bit (from_bytes key)) place

    pub word_is : from_bytes (take 4 (drop (12 - 4 * i) key)) ≡ digit 65536 (from_bytes key) (2 * i + 1) ‖ digit 65536 (from_bytes key) (2 * i)
    unfolding four
    word_is =
        bit_ext 32 (from_bytes four) _ (rw four-len at (from_bytes-lt four four_bytes)) (digits_lt (half_lt (2 * i + 1)) (half_lt (2 * i)))
        (λ j h. bit-four j h ∙ sym (bit-halves j h))

  pub first_words_are : first_words key ≡ four_of (from_bytes key)
  unfolding first_words four_of pair_of
  first_words_are =
      same_four (first_words key) (four_of (from_bytes key)) (word_is 0 (lit< tt)) (word_is 2 (lit< tt))
      (word_is 1 (lit< tt) ∙ sym (ap (λ (p : Pair). p.v) (one_on (from_bytes key))))
      (word_is 3 (lit< tt) ∙ sym (ap (λ (p : Pair). p.u) (one_on (from_bytes key))))
