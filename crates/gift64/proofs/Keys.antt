-- The round words of a key stand for its published pairs: the key state two rounds at a time, and the words stored so far.
use mathlib.Core.Path.{◌≡◌, refl, sym, ap, ap₂, ◌∙◌}
use mathlib.Core.List.{List, ◌∷◌}
use Prim.Native.Nat.{ℕ, zero, suc, ◌+◌, ◌*◌, ◌/◌, ◌%◌, ◌^◌, ◌≤◌, ◌<◌}
use native.Mathlib.Decide.{ℕ_discrete}
use native.Mathlib.Omega.{arith}
use lib.ListN.{length, get_or, set, length-set}
use lib.Seq.{get_or-set_same, get_or-set_other}
use borrow.Author.Tests.{eq-eqb}
use Rattle.bits.specs.Digit.{digit, bit, of_bits}
use Rattle.bits.proofs.Bits.{bit_shr, bit_join_low, of_bits_bit, of_bits_cong}
use Rattle.bits.proofs.Computed.{agree, bounded, cond-true}
use Rattle.published.specs.Bytes.{from_bytes, Bytes}
use Rattle.published.specs.Rounds.{Pair}
use Rattle.published.specs.Key.{◌‖◌, update, pairs}
use Rattle.published.specs.Gift128.{pair_of}
use Rattle.published.specs.Gift64.{pair_of64, pairs_of64}
use Rattle.primitives.specs.Words.{permuted}
use Rattle.primitives.proofs.Moves.{bit-permuted}
use Rattle.key_schedule.specs.declared.Four.{Four}
use Rattle.key_schedule.specs.InnerTens.{key_words}
use Rattle.key_schedule.proofs.TenWords.{same_four}
use Rattle.key_schedule.proofs.KeyState.{word_lt, four_of, two_on_lem}
use Rattle.key_schedule.proofs.KeyBytes.{first_words_are}
use Rattle.gift64.specs.Inner.{place, pair_in, pairs_in, turn, two_later}

-- ---- the pair of a word

-- a word in which the bits of k1 ‖ k0 stand, packed or turned
module _ (k x a b : ℕ) (ha : a < 2 ^ 16) (hb : b < 2 ^ 16) where
  upper : (a ‖ b) / 2 ^ 16 ≡ a
  upper = omega arith

  halves_are : ((n : ℕ) → n < 16 → bit x (place k n) ≡ bit (a ‖ b) n) → ((n : ℕ) → n < 16 → bit x (16 + place k n) ≡ bit (a ‖ b) (16 + n))
      → pair_in k x ≡ record { u = a; v = b }
  unfolding pair_in
  halves_are low high =
      let u_is : of_bits 16 (λ n. bit x (16 + place k n)) ≡ a =
      of_bits_cong 16 _ (bit a) (λ n h. high n h ∙ sym (bit_shr (a ‖ b) 16 n) ∙ ap (λ (y : ℕ). bit y n) upper) ∙ of_bits_bit 16 a ha in
      let v_is : of_bits 16 (λ n. bit x (place k n)) ≡ b = of_bits_cong 16 _ (bit b) (λ n h. low n h ∙ bit_join_low 16 a b n h) ∙ of_bits_bit 16 b hb in
      λ i. record { u = u_is i; v = v_is i }

-- GIFT-64's pair are the two halves of GIFT-128's V
pub pair-packed : (key : ℕ) → pair_in 0 (pair_of key).v ≡ pair_of64 key
unfolding pair_of pair_of64
pair-packed key = halves_are 0 _ (digit 65536 key 1) (digit 65536 key 0) (word_lt key 1) (word_lt key 0) (λ n h. refl) (λ n h. refl)

pub pair-turned : (key : ℕ) → pair_in 1 (permuted turn (pair_of key).v) ≡ pair_of64 key
unfolding pair_of pair_of64
pair-turned key =
    let w : ℕ = digit 65536 key 1 ‖ digit 65536 key 0 in
    halves_are 1 (permuted turn w) (digit 65536 key 1) (digit 65536 key 0) (word_lt key 1) (word_lt key 0)
    (λ n h. bit-permuted turn w (place 1 n) (bounded 16 32 (place 1) tt n h) ∙ ap (bit w) (agree 16 (λ n. turn (place 1 n)) (λ n. n) tt n h))
    (λ n h. bit-permuted turn w (16 + place 1 n) (bounded 16 32 (λ n. 16 + place 1 n) tt n h) ∙ ap (bit w) (agree 16 (λ n. turn (16 + place 1 n)) (λ n. 16 + n) tt n h))

-- ---- the key state after r rounds

abbrev pub after : ℕ → ℕ → ℕ
after zero key = key
after (suc r) key = update (after r key)

pub two_further : (key i : ℕ) {k next : Four} → k ≡ four_of (after (2 * i) key) → next ≡ two_later k → next ≡ four_of (after (2 * (i + 1)) key)
unfolding four_of
two_further key i {k} {next} e f =
    let s : ℕ = after (2 * i) key in
    let on : suc (suc (2 * i)) ≡ 2 * (i + 1) = omega arith in
    f ∙ ap two_later e
    ∙ sym
    (same_four (four_of (update (update s))) (two_later (four_of s)) (ap (λ (p : Pair). p.v) (two_on_lem s)) (ap (λ (p : Pair). p.u) (two_on_lem s))
    (ap (λ (p : Pair). p.v) (two_on_lem (update s))) (ap (λ (p : Pair). p.u) (two_on_lem (update s))))
    ∙ ap (λ (r : ℕ). four_of (after r key)) on

pub first_four : (key : List ℕ) {k : Four} → length key ≡ 16 → Bytes key → k ≡ key_words key → k ≡ four_of (from_bytes key)
unfolding key_words
first_four key len h e = e ∙ cond-true _ _ _ (eq-eqb (length key) 16 len) ∙ first_words_are key len h

-- ---- the words stored so far

pub record Stored (key i : ℕ) (ws : List ℕ) : Type 0 where
  pub long : length ws ≡ 28
  pub stands : (r : ℕ) → r < 2 * i → pair_in (suc r % 2) (get_or ws r 0) ≡ pair_of64 (after r key)

pub none_stored : (key : ℕ) (ws : List ℕ) → length ws ≡ 28 → Stored key 0 ws
none_stored key ws len = record { long = len; stands = λ r h. absurd (omega arith) }

module _ (key i : ℕ) (ws : List ℕ) (x y : ℕ) (st : Stored key i ws) (room : i < 14) where
  abbrev one : List ℕ
  one = set ws (2 * i) x

  len_one : length one ≡ 28
  len_one = length-set ws (2 * i) x ∙ st.long

  pub two_stored : pair_in 1 x ≡ pair_of64 (after (2 * i) key) → pair_in 0 y ≡ pair_of64 (after (suc (2 * i)) key) → Stored key (i + 1) (set one (2 * i + 1) y)
  two_stored e f = record { long = length-set one (2 * i + 1) y ∙ len_one; stands = there }
    where
      first : suc (2 * i) % 2 ≡ 1
      first = omega arith

      second : suc (suc (2 * i)) % 2 ≡ 0
      second = omega arith

      here : 2 * i + 1 ≡ suc (2 * i)
      here = omega arith

      there : (r : ℕ) → r < 2 * (i + 1) → pair_in (suc r % 2) (get_or (set one (2 * i + 1) y) r 0) ≡ pair_of64 (after r key)
      there r h =
          elim (ℕ_discrete r (2 * i + 1)) [
            | yes d ↦
                rw (d, get_or-set_same one (2 * i + 1) y 0 (omega (arith, len_one)), here, second) f
            | no nd ↦
                ap (pair_in (suc r % 2)) (get_or-set_other one (2 * i + 1) r y 0 nd)
                ∙ elim (ℕ_discrete r (2 * i)) [
                  | yes d ↦ rw (d, get_or-set_same ws (2 * i) x 0 (omega (arith, st.long)), first) e
                  | no nd' ↦ ap (pair_in (suc r % 2)) (get_or-set_other ws (2 * i) r x 0 nd') ∙ st.stands r (omega arith)
                ]
          ]

-- ---- all of them

pairs_by : (key : ℕ) (ws : List ℕ) (n r : ℕ) → ((j : ℕ) → j < r + n → pair_in (suc j % 2) (get_or ws j 0) ≡ pair_of64 (after j key)) → pairs_in n r ws ≡ pairs pair_of64 n (after r key)
unfolding pairs_in pairs
pairs_by key ws zero r h = refl
pairs_by key ws (suc n) r h = ap₂ ◌∷◌ (h r (omega arith)) (pairs_by key ws n (suc r) (λ j l. h j (omega arith)))

pub all_stored : (key : List ℕ) (ws : List ℕ) (i : ℕ) → 14 ≤ i → Stored (from_bytes key) i ws → pairs_in 28 0 ws ≡ pairs_of64 key
unfolding pairs_of64
all_stored key ws i h st = pairs_by (from_bytes key) ws 28 0 (λ j l. st.stands j (omega arith))
