-- Why fixslicing is right: a round on words that stand in arrangement k is the published round on the block that they stand for there,
-- for any key words at all; and the code's undoing undoes it.
use mathlib.Core.Path.{◌≡◌, refl, sym, ap, ap₂, ◌∙◌}
use mathlib.Core.Bool.{Bool, true}
use Prim.Native.Nat.{ℕ, zero, suc, ◌+◌, ◌-◌, ◌*◌, ◌/◌, ◌%◌, ◌^◌, ◌<◌, zero-le, suc-le-suc}
use native.Mathlib.Nat.{lt_of_le_of_lt, sub-le}
use native.Mathlib.Omega.{arith}
use lib.Bits.{bit_xor, xor_lt}
use lib.Dec.{eqb, eqb→eq, ltb, ltb→lt, lit<, lit≤}
use Rattle.bits.specs.Digit.{bit, ◌⊕◌}
use Rattle.bits.proofs.Bits.{bit_out, bit-xor, of_bits_cong, one_lt, ⊕-false}
use Rattle.bits.proofs.Computed.{below, at}
use Rattle.published.specs.Rounds.{P, Pair, entry, step, constant, round, unround}
use Rattle.published.specs.Inner.{back}
use Rattle.published.proofs.Steps.{width128}
use Rattle.published.proofs.Undone.{unround-round}
use Rattle.published.proofs.Words.{four}
use Rattle.primitives.specs.declared.State.{State}
use Rattle.primitives.specs.Words.{permuted}
use Rattle.primitives.specs.Packed.{word_of, block_of, Words}
use Rattle.primitives.proofs.Moves.{bit-permuted, permuted-lt, permuted-id, permuted_then}
use Rattle.primitives.proofs.Blocks.{same_words}
use Rattle.round_words.specs.Arranged.{N, nibble_at, stands}
use Rattle.round_words.proofs.Arrangements.{nibble_at-lt, there_and_back}
use Rattle.quintuple.specs.Boxes.{substituted}
use Rattle.quintuple.specs.Inner.{block_in, exchanged_of, move, unmove, subround, unmoved, unsubround}
use Rattle.quintuple.proofs.Sliced.{block_at_lt, key_word, key-bits, sliced_round, back_again, xor-twice}

-- ---- the block that four words stand for, k rounds in

pub block_in-lt : (k : ℕ) (s : State) → block_in k s < 2 ^ 128
unfolding block_in
block_in-lt k s = block_at_lt 128 (nibble_at (5 - k)) s

-- five rounds in, and none in, the words are the packed block
pub block_in_five : (s : State) → block_in 5 s ≡ block_of s
unfolding block_in block_of nibble_at
block_in_five s = refl

pub block_in_none : (s : State) → block_in 0 s ≡ block_of s
unfolding block_in block_of nibble_at
block_in_none s =
    of_bits_cong 128 (λ q. bit (word_of s (q % 4)) (nibble_at 5 (q / 4))) (λ q. bit (word_of s (q % 4)) (q / 4))
    (λ q h. ap (bit (word_of s (q % 4))) (there_and_back 0 (q / 4) (lit< tt) (omega arith)))

-- ---- constants

pub step-lt : (c : ℕ) → step c < 64
unfolding step
step-lt c = omega (arith, one_lt (bit c 5 ⊕ bit c 4 ⊕ true))

pub constant-lt : (r : ℕ) → constant r < 64
unfolding constant
constant-lt zero = lit< tt
constant-lt (suc r) = step-lt (constant r)

-- ---- a round on words is the published round

-- the word of bit 3 never moves
bit_3_stays : (k n : ℕ) → k < 5 → n < 32 → nibble_at (5 - suc k) n ≡ nibble_at (5 - k) (back 128 (4 * n + 3) / 4)
unfolding nibble_at N P
bit_3_stays k n hk hn =
    eqb→eq (nibble_at (5 - suc k) n) (nibble_at (5 - k) (back 128 (4 * n + 3) / 4))
    (at 32 (λ n. eqb (nibble_at (5 - suc k) n) (nibble_at (5 - k) (back 128 (4 * n + 3) / 4)))
    (at 5 (λ k. below 32 (λ n. eqb (nibble_at (5 - suc k) n) (nibble_at (5 - k) (back 128 (4 * n + 3) / 4)))) tt k hk) n hn)

module _ (k : ℕ) (hk : k < 5) (s : State) (v u c : ℕ) (r : ℕ) (hr : r < 64) (carries : stands (suc k) c ≡ 2 ^ 31 + r) where
  abbrev pair : Pair
  pair = record { u = stands (suc k) u; v = stands (suc k) v }

  abbrev after : State
  after = exchanged_of (subround k s v u c)

  -- the place, k + 1 rounds in, of nibble n
  abbrev place : ℕ → ℕ
  place n = nibble_at (5 - suc k) n

  place-lt : (n : ℕ) → n < 32 → place n < 32
  place-lt n h = nibble_at-lt (5 - suc k) n (lt_of_le_of_lt (sub-le 5 (suc k)) (lit< tt)) h

  -- moved to that place is what k rounds in stood at the source's
  moved_from : (n j : ℕ) → n < 32 → move k j (place n) ≡ nibble_at (5 - k) (back 128 (4 * n + j) / 4)
  unfolding move
  moved_from n j h = ap (λ (m : ℕ). nibble_at (5 - k) (back 128 (4 * m + j) / 4)) (there_and_back (suc k) n (suc-le-suc hk) h)

  -- a word moved, at that place, and the word that never moves
  moved-bit : (n j : ℕ) → n < 32 → bit (permuted (move k j) (substituted entry s j)) (place n) ≡ bit (substituted entry s j) (nibble_at (5 - k) (back 128 (4 * n + j) / 4))
  moved-bit n j hn = bit-permuted (move k j) (substituted entry s j) (place n) (place-lt n hn) ∙ ap (bit (substituted entry s j)) (moved_from n j hn)

  kept_bit : (n : ℕ) → n < 32 → bit (substituted entry s 3) (place n) ≡ bit (substituted entry s 3) (nibble_at (5 - k) (back 128 (4 * n + 3) / 4))
  kept_bit n hn = ap (bit (substituted entry s 3)) (bit_3_stays k n hk hn)

  -- a key word, at that place
  key-bit : (w n : ℕ) → n < 32 → bit w (place n) ≡ bit (stands (suc k) w) n
  unfolding stands
  key-bit w n h = sym (bit-permuted (nibble_at (5 - suc k)) w n h)

  -- each word of the state after the round
  word-bit : (n j : ℕ) → n < 32 → j < 4
      → bit (word_of after j) (place n) ≡ bit (substituted entry s j) (nibble_at (5 - k) (back 128 (4 * n + j) / 4)) ⊕ bit (key_word 1 pair (2 ^ 31 + r) j) n
  unfolding subround
  word-bit n j hn hj =
      four
      (λ (j : ℕ). bit (word_of after j) (place n) ≡ bit (substituted entry s j) (nibble_at (5 - k) (back 128 (4 * n + j) / 4)) ⊕ bit (key_word 1 pair (2 ^ 31 + r) j) n)
      (moved-bit n 0 hn ∙ sym (⊕-false _) ∙ ap (λ (x : Bool). bit (substituted entry s 0) (nibble_at (5 - k) (back 128 (4 * n + 0) / 4)) ⊕ x) (sym (bit_out 0 0 n (lit< tt) zero-le)))
      (bit-xor (permuted (move k 1) (substituted entry s 1)) v (place n) ∙ ap₂ ◌⊕◌ (moved-bit n 1 hn) (key-bit v n hn))
      (bit-xor (permuted (move k 2) (substituted entry s 2)) u (place n) ∙ ap₂ ◌⊕◌ (moved-bit n 2 hn) (key-bit u n hn))
      (bit-xor (substituted entry s 3) c (place n) ∙ ap₂ ◌⊕◌ (kept_bit n hn) (key-bit c n hn ∙ ap (λ (x : ℕ). bit x n) carries))
      j hj

  pub subround_is_round : block_in (suc k) after ≡ round 128 1 pair r (block_in k s)
  unfolding block_in
  subround_is_round =
      sliced_round 128 width128 (nibble_at (5 - k)) place (λ n h. nibble_at-lt (5 - k) n (lt_of_le_of_lt (sub-le 5 k) (lit< tt)) h) s after 1 pair r
      (λ n j hn hj.
      word-bit n j hn hj
      ∙ ap (λ (x : Bool). bit (substituted entry s j) (nibble_at (5 - k) (back 128 (4 * n + j) / 4)) ⊕ x) (sym (key-bits 31 (lit≤ tt) n hn pair r hr 1 j (lit< tt) hj)))

-- ---- and undone

-- a move and its undoing, each after the other
move-unmove : (k j i : ℕ) → k < 5 → j < 3 → i < 32 → unmove k j (move k j i) ≡ i
unfolding move unmove nibble_at N P
move-unmove k j i hk hj hi =
    eqb→eq (unmove k j (move k j i)) i
    (at 32 (λ i. eqb (unmove k j (move k j i)) i) (at 3 (λ j. below 32 (λ i. eqb (unmove k j (move k j i)) i)) (at 5 (λ k. below 3 (λ j. below 32 (λ i. eqb (unmove k j (move k j i)) i))) tt k hk) j hj) i hi)

move-lt : (k j i : ℕ) → k < 5 → j < 3 → i < 32 → move k j i < 32
unfolding move nibble_at N P
move-lt k j i hk hj hi =
    ltb→lt (move k j i) 32
    (at 32 (λ i. ltb (move k j i) 32) (at 3 (λ j. below 32 (λ i. ltb (move k j i) 32)) (at 5 (λ k. below 3 (λ j. below 32 (λ i. ltb (move k j i) 32))) tt k hk) j hj) i hi)

there_again : (k j x : ℕ) → k < 5 → j < 3 → x < 2 ^ 32 → permuted (move k j) (permuted (unmove k j) x) ≡ x
there_again k j x hk hj h =
    permuted_then (move k j) (unmove k j) x (λ i l. move-lt k j i hk hj l) ∙ permuted-id (λ i. unmove k j (move k j i)) x (λ i l. move-unmove k j i hk hj l) h

module _ (k : ℕ) (hk : k < 5) (s : State) (v u c : ℕ) (hs : Words s) (hv : v < 2 ^ 32) (hu : u < 2 ^ 32) (hc : c < 2 ^ 32) where
  unmoved-words : Words (unmoved k s v u c)
  unmoved-words =
      (permuted-lt (unmove k 0) s.s3, permuted-lt (unmove k 1) (bit_xor s.s1 v), permuted-lt (unmove k 2) (bit_xor s.s2 u), xor_lt 32 s.s0 c hs.0 hc)

  pub redone : subround k (unsubround k s v u c) v u c ≡ s
  unfolding subround unsubround
  redone =
      same_words _ _
      (ap (λ (x : ℕ). bit_xor x c) (back_again (unmoved k s v u c) unmoved-words 3 (lit< tt)) ∙ xor-twice s.s0 c hs.0 hc)
      (ap (λ (x : ℕ). bit_xor (permuted (move k 1) x) v) (back_again (unmoved k s v u c) unmoved-words 1 (lit< tt))
      ∙ ap (λ (x : ℕ). bit_xor x v) (there_again k 1 (bit_xor s.s1 v) hk (lit< tt) (xor_lt 32 s.s1 v hs.1 hv))
      ∙ xor-twice s.s1 v hs.1 hv)
      (ap (λ (x : ℕ). bit_xor (permuted (move k 2) x) u) (back_again (unmoved k s v u c) unmoved-words 2 (lit< tt))
      ∙ ap (λ (x : ℕ). bit_xor x u) (there_again k 2 (bit_xor s.s2 u) hk (lit< tt) (xor_lt 32 s.s2 u hs.2 hu))
      ∙ xor-twice s.s2 u hs.2 hu)
      (ap (permuted (move k 0)) (back_again (unmoved k s v u c) unmoved-words 0 (lit< tt)) ∙ there_again k 0 s.s3 hk (lit< tt) hs.3)

  pub unsubround_is_unround : (r : ℕ) → r < 64 → stands (suc k) c ≡ 2 ^ 31 + r
      → block_in k (unsubround k s v u c) ≡ unround 128 1 (record { u = stands (suc k) u; v = stands (suc k) v }) r (block_in (suc k) (exchanged_of s))
  unsubround_is_unround r hr carries =
      let z : State = unsubround k s v u c in
      let p : Pair = record { u = stands (suc k) u; v = stands (suc k) v } in
      sym (unround-round 128 1 width128 p r (block_in k z) (block_in-lt k z))
      ∙ ap (unround 128 1 p r) (sym (subround_is_round k hk z v u c r hr carries) ∙ ap (λ (x : State). block_in (suc k) (exchanged_of x)) redone)
