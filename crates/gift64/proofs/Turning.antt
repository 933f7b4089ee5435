-- Why leaving the turning out is right: a round on words that stand packed or turned is the published round on the block that they stand for, for any round word; and undoing undoes it.
use mathlib.Core.Path.{◌≡◌, refl, sym, ap, ap₂, ◌∙◌}
use mathlib.Core.Bool.{Bool}
use Prim.Native.Nat.{ℕ, suc, ◌+◌, ◌-◌, ◌*◌, ◌/◌, ◌%◌, ◌^◌, ◌<◌, zero-le}
use native.Mathlib.Nat.{mod-lt, lt_of_le_of_lt, lt_of_lt_of_le, div-le_self}
use native.Mathlib.Omega.{arith}
use lib.Bits.{xor_lt}
use lib.Dec.{eqb, eqb→eq, ltb, ltb→lt, lit<, lit≤}
use Rattle.bits.specs.Digit.{bit, ◌⊕◌}
use Rattle.bits.proofs.Bits.{bit_of_bits, bit_out, bit_shr, bit-xor, of_bits_lt, ⊕-false}
use Rattle.bits.proofs.Computed.{below, at}
use Rattle.published.specs.Rounds.{Pair, entry, constant, round, unround}
use Rattle.published.specs.Inner.{back, unentry}
use Rattle.published.proofs.Undone.{unround-round}
use Rattle.published.proofs.Gift64.{width64}
use Rattle.published.proofs.Words.{four}
use Rattle.primitives.specs.declared.State.{State}
use Rattle.primitives.specs.Words.{permuted}
use Rattle.primitives.specs.Packed.{word_of, Words}
use Rattle.primitives.proofs.Moves.{bit-permuted, permuted-lt, permuted-id, permuted_then}
use Rattle.primitives.proofs.Blocks.{same_words}
use Rattle.quintuple.specs.Boxes.{substituted, boxed}
use Rattle.quintuple.specs.Inner.{exchanged_of}
use Rattle.quintuple.proofs.Sliced.{block_at_lt, key_word, key-bits, sliced_round, back_again, xor-twice}
use Rattle.quintuple.proofs.Fixslice.{constant-lt}
use Rattle.gift64.specs.Inner.{place, block_in, move, moved_by, keyed_of, subround, unsubround, pair_in, constant_word}

-- ---- places, by computed tests

place-lt : (k n : ℕ) → k < 2 → n < 16 → place k n < 16
place-lt k n hk hn = ltb→lt (place k n) 16 (at 16 (λ n. ltb (place k n) 16) (at 2 (λ k. below 16 (λ n. ltb (place k n) 16)) tt k hk) n hn)

pub place_twice : (k n : ℕ) → k < 2 → n < 16 → place k (place k n) ≡ n
place_twice k n hk hn = eqb→eq (place k (place k n)) n (at 16 (λ n. eqb (place k (place k n)) n) (at 2 (λ k. below 16 (λ n. eqb (place k (place k n)) n)) tt k hk) n hn)

module _ (k j : ℕ) (hk : k < 2) (hj : j < 4) where
  -- moved to the place of nibble n is what stood at its source's
  moved_from : (n : ℕ) → n < 16 → move k j (place (1 - k) n) ≡ place k (back 64 (4 * n + j) / 4)
  unfolding move
  moved_from n hn =
      eqb→eq (move k j (place (1 - k) n)) (place k (back 64 (4 * n + j) / 4))
      (at 16 (λ n. eqb (move k j (place (1 - k) n)) (place k (back 64 (4 * n + j) / 4)))
      (at 4 (λ j. below 16 (λ n. eqb (move k j (place (1 - k) n)) (place k (back 64 (4 * n + j) / 4))))
      (at 2 (λ k. below 4 (λ j. below 16 (λ n. eqb (move k j (place (1 - k) n)) (place k (back 64 (4 * n + j) / 4))))) tt k hk) j hj) n hn)

  -- a move undoes itself
  move-twice : (i : ℕ) → i < 32 → move k j (move k j i) ≡ i
  unfolding move
  move-twice i hi =
      eqb→eq (move k j (move k j i)) i
      (at 32 (λ i. eqb (move k j (move k j i)) i)
      (at 4 (λ j. below 32 (λ i. eqb (move k j (move k j i)) i)) (at 2 (λ k. below 4 (λ j. below 32 (λ i. eqb (move k j (move k j i)) i))) tt k hk) j hj) i hi)

  move-lt : (i : ℕ) → i < 32 → move k j i < 32
  unfolding move
  move-lt i hi =
      ltb→lt (move k j i) 32
      (at 32 (λ i. ltb (move k j i) 32)
      (at 4 (λ j. below 32 (λ i. ltb (move k j i) 32)) (at 2 (λ k. below 4 (λ j. below 32 (λ i. ltb (move k j i) 32))) tt k hk) j hj) i hi)

  moved_twice : (x : ℕ) → x < 2 ^ 32 → permuted (move k j) (permuted (move k j) x) ≡ x
  moved_twice x h = permuted_then (move k j) (move k j) x move-lt ∙ permuted-id (λ i. move k j (move k j i)) x move-twice h

other_lt : (k : ℕ) → 1 - k < 2
other_lt k = omega arith

-- ---- a round

pub block_in-lt : (k : ℕ) (s : State) → block_in k s < 2 ^ 64
unfolding block_in
block_in-lt k s = block_at_lt 64 (place k) s

module _ (k : ℕ) (hk : k < 2) (s : State) (w c r : ℕ) (hr : r < 64) (carries : (n : ℕ) → n < 16 → bit c (place (1 - k) n) ≡ bit (2 ^ 15 + r) n) where
  abbrev p : Pair
  p = pair_in (1 - k) w

  abbrev t : State
  t = subround k s w c

  moved-bit : (n j : ℕ) → n < 16 → j < 4 → bit (permuted (move k j) (substituted entry s j)) (place (1 - k) n) ≡ bit (substituted entry s j) (place k (back 64 (4 * n + j) / 4))
  moved-bit n j hn hj =
      bit-permuted (move k j) (substituted entry s j) (place (1 - k) n) (lt_of_lt_of_le (place-lt (1 - k) n (other_lt k) hn) (lit≤ tt))
      ∙ ap (bit (substituted entry s j)) (moved_from k j hk hj n hn)

  v-bit : (n : ℕ) → n < 16 → bit w (place (1 - k) n) ≡ bit p.v n
  unfolding pair_in
  v-bit n hn = sym (bit_of_bits 16 (λ n. bit w (place (1 - k) n)) n hn)

  u-bit : (n : ℕ) → n < 16 → bit (w / 2 ^ 16) (place (1 - k) n) ≡ bit p.u n
  unfolding pair_in
  u-bit n hn = bit_shr w 16 (place (1 - k) n) ∙ sym (bit_of_bits 16 (λ n. bit w (16 + place (1 - k) n)) n hn)

  word-bit : (n j : ℕ) → n < 16 → j < 4
      → bit (word_of t j) (place (1 - k) n) ≡ bit (substituted entry s j) (place k (back 64 (4 * n + j) / 4)) ⊕ bit (key_word 0 p (2 ^ 15 + r) j) n
  unfolding subround moved_by boxed
  word-bit n j hn hj =
      four
      (λ (j : ℕ). bit (word_of t j) (place (1 - k) n) ≡ bit (substituted entry s j) (place k (back 64 (4 * n + j) / 4)) ⊕ bit (key_word 0 p (2 ^ 15 + r) j) n)
      (bit-xor (permuted (move k 0) (substituted entry s 0)) w (place (1 - k) n) ∙ ap₂ ◌⊕◌ (moved-bit n 0 hn (lit< tt)) (v-bit n hn))
      (bit-xor (permuted (move k 1) (substituted entry s 1)) (w / 2 ^ 16) (place (1 - k) n) ∙ ap₂ ◌⊕◌ (moved-bit n 1 hn (lit< tt)) (u-bit n hn))
      (moved-bit n 2 hn (lit< tt) ∙ sym (⊕-false _) ∙ ap (λ (x : Bool). bit (substituted entry s 2) (place k (back 64 (4 * n + 2) / 4)) ⊕ x) (sym (bit_out 0 0 n (lit< tt) zero-le)))
      (bit-xor (permuted (move k 3) (substituted entry s 3)) c (place (1 - k) n) ∙ ap₂ ◌⊕◌ (moved-bit n 3 hn (lit< tt)) (carries n hn))
      j hj

  subround_is_round : block_in (1 - k) t ≡ round 64 0 p r (block_in k s)
  unfolding block_in
  subround_is_round =
      sliced_round 64 width64 (place k) (place (1 - k)) (λ n h. lt_of_lt_of_le (place-lt k n hk h) (lit≤ tt)) s t 0 p r
      (λ n j hn hj.
      word-bit n j hn hj
      ∙ ap (λ (x : Bool). bit (substituted entry s j) (place k (back 64 (4 * n + j) / 4)) ⊕ x) (sym (key-bits 15 (lit≤ tt) n hn p r hr 0 j (lit< tt) hj)))

-- ---- and undone

module _ (k : ℕ) (hk : k < 2) where
  moved_again : (s : State) → Words s → moved_by k (moved_by k s) ≡ s
  unfolding moved_by
  moved_again s h =
      same_words _ _ (moved_twice k 0 hk (lit< tt) s.s0 h.0) (moved_twice k 1 hk (lit< tt) s.s1 h.1) (moved_twice k 2 hk (lit< tt) s.s2 h.2)
      (moved_twice k 3 hk (lit< tt) s.s3 h.3)

  moved-words : (s : State) → Words (moved_by k s)
  unfolding moved_by
  moved-words s = (permuted-lt (move k 0) s.s0, permuted-lt (move k 1) s.s1, permuted-lt (move k 2) s.s2, permuted-lt (move k 3) s.s3)

  boxed_again : (m : State) → Words m → exchanged_of (boxed entry (exchanged_of (boxed unentry m))) ≡ m
  unfolding boxed
  boxed_again m h = same_words _ _ (back_again m h 0 (lit< tt)) (back_again m h 1 (lit< tt)) (back_again m h 2 (lit< tt)) (back_again m h 3 (lit< tt))

  module _ (s : State) (w c : ℕ) (hs : Words s) (hw : w < 2 ^ 32) (hc : c < 2 ^ 32) where
    upper_lt : w / 2 ^ 16 < 2 ^ 32
    upper_lt = lt_of_le_of_lt (div-le_self w (2 ^ 16)) hw

    keyed-words : Words (keyed_of s w c)
    keyed-words = (xor_lt 32 s.s0 w hs.0 hw, xor_lt 32 s.s1 (w / 2 ^ 16) hs.1 upper_lt, hs.2, xor_lt 32 s.s3 c hs.3 hc)

    redone : subround k (unsubround k s w c) w c ≡ s
    unfolding subround unsubround
    redone =
        ap (λ (x : State). keyed_of (moved_by k x) w c) (boxed_again (moved_by k (keyed_of s w c)) (moved-words (keyed_of s w c)))
        ∙ ap (λ (x : State). keyed_of x w c) (moved_again (keyed_of s w c) keyed-words)
        ∙ same_words _ _ (xor-twice s.s0 w hs.0 hw) (xor-twice s.s1 (w / 2 ^ 16) hs.1 upper_lt) refl (xor-twice s.s3 c hs.3 hc)

pub undone-words : (k : ℕ) (s : State) (w c : ℕ) {t : State} → t ≡ unsubround k s w c → Words t
unfolding unsubround boxed substituted
undone-words k s w c e = rw e (of_bits_lt 32 _, of_bits_lt 32 _, of_bits_lt 32 _, of_bits_lt 32 _)

-- ---- with the published constants: round r, from 0, leads to arrangement (r + 1) mod 2

constant-carried : (r n : ℕ) → n < 16 → bit (constant_word r) (place (suc r % 2) n) ≡ bit (2 ^ 15 + constant (suc r)) n
unfolding constant_word
constant-carried r n hn =
    let hk : suc r % 2 < 2 = mod-lt (suc r) (lit< tt) in
    bit_of_bits 16 (λ i. bit (2 ^ 15 + constant (suc r)) (place (suc r % 2) i)) (place (suc r % 2) n) (place-lt (suc r % 2) n hk hn)
    ∙ ap (bit (2 ^ 15 + constant (suc r))) (place_twice (suc r % 2) n hk hn)

module _ (k r : ℕ) (hk : k < 2) (leads : suc r % 2 ≡ 1 - k) (s : State) (w : ℕ) where
  carried : (n : ℕ) → n < 16 → bit (constant_word r) (place (1 - k) n) ≡ bit (2 ^ 15 + constant (suc r)) n
  carried n hn = ap (λ (m : ℕ). bit (constant_word r) (place m n)) (sym leads) ∙ constant-carried r n hn

  pub round_on : block_in (1 - k) (subround k s w (constant_word r)) ≡ round 64 0 (pair_in (suc r % 2) w) (constant (suc r)) (block_in k s)
  round_on =
      subround_is_round k hk s w (constant_word r) (constant (suc r)) (constant-lt (suc r)) carried
      ∙ ap (λ (m : ℕ). round 64 0 (pair_in m w) (constant (suc r)) (block_in k s)) (sym leads)

  pub unround_on : Words s → w < 2 ^ 32 → constant_word r < 2 ^ 32
      → block_in k (unsubround k s w (constant_word r)) ≡ unround 64 0 (pair_in (suc r % 2) w) (constant (suc r)) (block_in (1 - k) s)
  unround_on hs hw hc =
      let z : State = unsubround k s w (constant_word r) in
      let q : Pair = pair_in (1 - k) w in
      sym (unround-round 64 0 width64 q (constant (suc r)) (block_in k z) (block_in-lt k z))
      ∙ ap (unround 64 0 q (constant (suc r)))
      (sym (subround_is_round k hk z w (constant_word r) (constant (suc r)) (constant-lt (suc r)) carried) ∙ ap (block_in (1 - k)) (redone k hk s w (constant_word r) hs hw hc))
      ∙ ap (λ (m : ℕ). unround 64 0 (pair_in m w) (constant (suc r)) (block_in (1 - k) s)) (sym leads)
