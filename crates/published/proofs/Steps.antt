-- What each step of a round does to a nibble or a bit, that it stays within the width, and that its inverse undoes it and is undone by it.
use mathlib.Core.Path.{◌≡◌, sym, ap, ap₂, ◌∙◌}
use mathlib.Core.Bool.{Bool, ◌&&◌}
use Prim.Native.Nat.{ℕ, zero, suc, ◌+◌, ◌*◌, ◌/◌, ◌%◌, ◌^◌, ◌≤◌, ◌<◌, zero-le}
use native.Mathlib.Nat.{le_refl, le_of_suc-le, mod-lt, div-add-mod', div-lt_iff_lt-mul, mul_comm, mul_left_comm}
use native.Mathlib.Decide.{dec_lt}
use native.Mathlib.Omega.{arith}
use lib.Arith.{digits_lt, digits_div, digits_mod}
use lib.Dec.{ltb, lit<}
use borrow.Author.Tests.{lt-ltb, le-ltb}
use Rattle.bits.specs.Digit.{digit, one, bit, of_bits, ◌⊕◌}
use Rattle.bits.proofs.Digits.{pow-mul, digit_lt, digit-number, number_cong, number-digit, number_lt}
use Rattle.bits.proofs.Bits.{bit-digit, bit_of_bits, of_bits_bit, of_bits_cong, of_bits_lt, of_bits_none, of_bits_put, ⊕-twice}
use Rattle.bits.proofs.Computed.{agree, bounded}
use Rattle.published.specs.Rounds.{entry, sub_cells, P, moved, perm_bits, xored}
use Rattle.published.specs.Inner.{back, unentry, un_perm_bits}

-- ---- what the laws ask of a width, one computed test for each width

pub record Width (n : ℕ) : Type 0 where
  pub whole : 4 * (n / 4) ≡ n
  pub P_lt : (i : ℕ) → i < n → P n i < n
  pub back_lt : (q : ℕ) → q < n → back n q < n
  pub back_P : (i : ℕ) → i < n → back n (P n i) ≡ i
  pub P_back : (q : ℕ) → q < n → P n (back n q) ≡ q

-- every multiple of 16 is such a width: P keeps the place in a nibble, and the nibbles of four quarters change places
module _ (m : ℕ) where
  quarter : 16 * m / 4 ≡ 4 * m
  quarter = omega arith

  -- bit j of nibble 4 a + h goes to bit j of nibble a of a quarter, and comes from there
  P_at : (a h j : ℕ) → h < 4 → j < 4 → P (16 * m) (16 * a + 4 * h + j) ≡ (3 * h + j) % 4 * (4 * m) + (4 * a + j)
  unfolding P
  P_at a h j hh hj =
      let e1 : (16 * a + 4 * h + j) / 16 ≡ a = omega arith in
      let e2 : (16 * a + 4 * h + j) % 16 / 4 ≡ h = omega arith in
      let e3 : (16 * a + 4 * h + j) % 4 ≡ j = omega arith in
      rw (e1, e2, e3, quarter, mul_comm (4 * m)) (omega arith)

  back_at : (k a j : ℕ) → a < m → j < 4 → back (16 * m) (k * (4 * m) + (4 * a + j)) ≡ 16 * a + 4 * ((j + 3 * k) % 4) + j
  back_at k a j ha hj =
      let low : 4 * a + j < 4 * m = omega arith in
      let e1 : (k * (4 * m) + (4 * a + j)) % 4 ≡ j = rw (mul_left_comm k 4 m) (omega arith) in
      let e2 : (4 * a + j) / 4 ≡ a = omega arith in
      rw (quarter, e1, digits_div k low, digits_mod k low, e2)

  -- a place and where it goes, by their parts
  place : (i : ℕ) → i ≡ 16 * (i / 16) + 4 * (i % 16 / 4) + i % 4
  place i = omega arith

  quarter_of : ℕ → ℕ
  quarter_of i = (3 * (i % 16 / 4) + i % 4) % 4

  goes : (i : ℕ) → P (16 * m) i ≡ quarter_of i * (4 * m) + (4 * (i / 16) + i % 4)
  unfolding quarter_of
  goes i = ap (P (16 * m)) (place i) ∙ P_at (i / 16) (i % 16 / 4) (i % 4) (omega arith) (omega arith)

  goes_lt : (i : ℕ) → i < 16 * m → P (16 * m) i < 16 * m
  unfolding quarter_of
  goes_lt i h =
      let low : 4 * (i / 16) + i % 4 < 4 * m = omega arith in
      let lt : quarter_of i * (4 * m) + (4 * (i / 16) + i % 4) < 4 * (4 * m) = digits_lt (mod-lt (3 * (i % 16 / 4) + i % 4) (lit< tt)) low in
      rw (goes i) (omega arith)

  comes_back : (i : ℕ) → i < 16 * m → back (16 * m) (P (16 * m) i) ≡ i
  unfolding quarter_of
  comes_back i h =
      let column : (i % 4 + 3 * ((3 * (i % 16 / 4) + i % 4) % 4)) % 4 ≡ i % 16 / 4 = omega arith in
      ap (back (16 * m)) (goes i) ∙ back_at (quarter_of i) (i / 16) (i % 4) (omega arith) (omega arith)
      ∙ ap (λ (h : ℕ). 16 * (i / 16) + 4 * h + i % 4) column
      ∙ sym (place i)

  -- a place's quarter, its nibble there and its bit in that
  module _ (q : ℕ) (h : q < 16 * m) where
    k : ℕ
    k = q / (4 * m)

    r : ℕ
    r = q % (4 * m)

    r-lt : r < 4 * m
    unfolding r
    r-lt = mod-lt q (omega arith)

    parts : q ≡ k * (4 * m) + (4 * (r / 4) + r % 4)
    unfolding k r
    parts = let in_nibble : r ≡ 4 * (r / 4) + r % 4 = omega arith in sym (div-add-mod' q (4 * m)) ∙ ap (λ (x : ℕ). k * (4 * m) + x) in_nibble

    k_lt : k < 4
    unfolding k
    k_lt = let lt : q < 4 * (4 * m) = omega arith in let pos : zero < 4 * m = omega arith in (div-lt_iff_lt-mul pos).1 lt

    came : back (16 * m) q ≡ 16 * (r / 4) + 4 * ((r % 4 + 3 * k) % 4) + r % 4
    came = ap (back (16 * m)) parts ∙ back_at k (r / 4) (r % 4) (omega (arith, r-lt)) (omega arith)

    came-lt : back (16 * m) q < 16 * m
    came-lt = rw came (omega (arith, r-lt))

    goes_again : P (16 * m) (back (16 * m) q) ≡ q
    goes_again =
        let again : (3 * ((r % 4 + 3 * k) % 4) + r % 4) % 4 ≡ k = omega (arith, k_lt) in
        ap (P (16 * m)) came ∙ P_at (r / 4) ((r % 4 + 3 * k) % 4) (r % 4) (omega arith) (omega arith)
        ∙ ap (λ (x : ℕ). x * (4 * m) + (4 * (r / 4) + r % 4)) again
        ∙ sym parts

  pub width : Width (16 * m)
  width = record { whole = omega arith; P_lt = goes_lt; back_lt = came-lt; back_P = comes_back; P_back = goes_again }

pub width128 : Width 128
width128 = width 8

-- ---- the tables

base : zero < 16
base = lit< tt

pub entry_lt : (x : ℕ) → x < 16 → entry x < 16
unfolding entry
entry_lt = bounded 16 16 entry tt

pub unentry-lt : (x : ℕ) → x < 16 → unentry x < 16
unfolding unentry
unentry-lt = bounded 16 16 unentry tt

pub unentry-entry : (x : ℕ) → x < 16 → unentry (entry x) ≡ x
unfolding entry unentry
unentry-entry = agree 16 (λ x. unentry (entry x)) (λ x. x) tt

pub entry-unentry : (x : ℕ) → x < 16 → entry (unentry x) ≡ x
unfolding entry unentry
entry-unentry = agree 16 (λ x. entry (unentry x)) (λ x. x) tt

module _ (n : ℕ) (ok : Width n) where
  -- ---- 1. the nibbles

  nibbles : 16 ^ (n / 4) ≡ 2 ^ n
  nibbles = pow-mul 2 4 (n / 4) ∙ ap (λ (m : ℕ). 2 ^ m) ok.whole

  -- each nibble through a table, and back through the table that undoes it
  module _ (f : ℕ → ℕ) (f_lt : (x : ℕ) → x < 16 → f x < 16) where
    nibble_of : (s i : ℕ) → i < n / 4 → digit 16 (sub_cells f n s) i ≡ f (digit 16 s i)
    unfolding sub_cells
    nibble_of s i h = digit-number 16 base (n / 4) (λ k. f (digit 16 s k)) (λ k l. f_lt (digit 16 s k) (digit_lt 16 base s k)) i h

    pub sub_cells-lt : (s : ℕ) → sub_cells f n s < 2 ^ n
    unfolding sub_cells
    sub_cells-lt s = rw (← nibbles) (number_lt 16 base (n / 4) (λ k. f (digit 16 s k)) (λ k l. f_lt (digit 16 s k) (digit_lt 16 base s k)))

    pub sub_cells_undo : (g : ℕ → ℕ) → ((x : ℕ) → x < 16 → g (f x) ≡ x) → (s : ℕ) → s < 2 ^ n → sub_cells g n (sub_cells f n s) ≡ s
    unfolding sub_cells
    sub_cells_undo g undo s h =
        number_cong 16 (n / 4) (λ i. g (digit 16 (sub_cells f n s) i)) (digit 16 s)
        (λ i l. ap g (nibble_of s i l) ∙ undo (digit 16 s i) (digit_lt 16 base s i))
        ∙ number-digit 16 base (n / 4) s (rw nibbles h)

    -- bit j of nibble i is that bit of the table's entry
    pub bit-sub_cells : (s i j : ℕ) → i < n / 4 → j < 4 → bit (sub_cells f n s) (4 * i + j) ≡ bit (f (digit 16 s i)) j
    bit-sub_cells s i j hi hj = sym (bit-digit 4 (sub_cells f n s) i j hj) ∙ ap (λ (x : ℕ). bit x j) (nibble_of s i hi)

  -- ---- 2. the places

  ltb_next : (m k : ℕ) → (m ≡ k → ⊥) → ltb m (suc k) ≡ ltb m k
  ltb_next m k ne =
      elim (dec_lt m k) [
        | yes h ↦ lt-ltb m (suc k) (omega arith) ∙ sym (lt-ltb m k h)
        | no h ↦ le-ltb m (suc k) (omega arith) ∙ sym (le-ltb m k (omega arith))
      ]

  -- the k low bits, moved: bit q is set if it came from a place below k and was set there
  pub moved-low : (k s : ℕ) → k ≤ n → moved (P n) k s ≡ of_bits n (λ q. ltb (back n q) k && bit s (back n q))
  unfolding moved
  moved-low zero s h = sym (of_bits_none n (λ q. ltb (back n q) 0 && bit s (back n q)) (λ q l. ap (λ (t : Bool). t && bit s (back n q)) (le-ltb (back n q) 0 zero-le)))
  moved-low (suc k) s h =
      let came : back n (P n k) ≡ k = ok.back_P k h in
      ap₂ (λ (b : Bool) (m : ℕ). one b * 2 ^ P n k + m)
      (sym (ap₂ ◌&&◌ (ap (λ (m : ℕ). ltb m (suc k)) came ∙ lt-ltb k (suc k) (le_refl (suc k))) (ap (bit s) came)))
      (moved-low k s (le_of_suc-le h))
      ∙ sym
      (of_bits_put n (P n k) (λ q. ltb (back n q) (suc k) && bit s (back n q)) (λ q. ltb (back n q) k && bit s (back n q)) (ok.P_lt k h)
      (ap (λ (t : Bool). t && bit s (back n (P n k))) (ap (λ (m : ℕ). ltb m k) came ∙ le-ltb k k (le_refl k)))
      (λ q l ne. ap (λ (t : Bool). t && bit s (back n q)) (ltb_next (back n q) k (λ e. ne (sym (ok.P_back q l) ∙ ap (P n) e)))))

  -- bit q of the permuted state is the bit that P sends there
  pub perm_bits_is : (s : ℕ) → perm_bits n s ≡ of_bits n (λ q. bit s (back n q))
  unfolding perm_bits
  perm_bits_is s =
      moved-low n s (le_refl n)
      ∙ of_bits_cong n (λ q. ltb (back n q) n && bit s (back n q)) (λ q. bit s (back n q))
      (λ q h. ap (λ (t : Bool). t && bit s (back n q)) (lt-ltb (back n q) n (ok.back_lt q h)))

  pub perm_bits-lt : (s : ℕ) → perm_bits n s < 2 ^ n
  perm_bits-lt s = rw perm_bits_is (of_bits_lt n (λ q. bit s (back n q)))

  pub un_perm_bits-lt : (s : ℕ) → un_perm_bits n s < 2 ^ n
  unfolding un_perm_bits
  un_perm_bits-lt s = of_bits_lt n (λ i. bit s (P n i))

  pub bit-perm_bits : (s q : ℕ) → q < n → bit (perm_bits n s) q ≡ bit s (back n q)
  bit-perm_bits s q h = ap (λ (x : ℕ). bit x q) (perm_bits_is s) ∙ bit_of_bits n (λ i. bit s (back n i)) q h

  pub un_perm_perm : (s : ℕ) → s < 2 ^ n → un_perm_bits n (perm_bits n s) ≡ s
  unfolding un_perm_bits
  un_perm_perm s h =
      of_bits_cong n (λ i. bit (perm_bits n s) (P n i)) (bit s) (λ i l. bit-perm_bits s (P n i) (ok.P_lt i l) ∙ ap (bit s) (ok.back_P i l))
      ∙ of_bits_bit n s h

  pub perm_un_perm : (s : ℕ) → s < 2 ^ n → perm_bits n (un_perm_bits n s) ≡ s
  unfolding un_perm_bits
  perm_un_perm s h =
      perm_bits_is (of_bits n (λ i. bit s (P n i)))
      ∙ of_bits_cong n (λ q. bit (of_bits n (λ i. bit s (P n i))) (back n q)) (bit s)
      (λ q l. bit_of_bits n (λ i. bit s (P n i)) (back n q) (ok.back_lt q l) ∙ ap (bit s) (ok.P_back q l))
      ∙ of_bits_bit n s h

-- ---- 3 and 4. what is xored in

pub xored-lt : (n : ℕ) (k : ℕ → Bool) (s : ℕ) → xored n k s < 2 ^ n
unfolding xored
xored-lt n k s = of_bits_lt n (λ q. bit s q ⊕ k q)

pub bit-xored : (n : ℕ) (k : ℕ → Bool) (s q : ℕ) → q < n → bit (xored n k s) q ≡ bit s q ⊕ k q
unfolding xored
bit-xored n k s q h = bit_of_bits n (λ i. bit s i ⊕ k i) q h

pub xored-twice : (n : ℕ) (k : ℕ → Bool) (s : ℕ) → s < 2 ^ n → xored n k (xored n k s) ≡ s
unfolding xored
xored-twice n k s h =
    of_bits_cong n (λ q. bit (xored n k s) q ⊕ k q) (bit s) (λ q l. ap (λ (b : Bool). b ⊕ k q) (bit-xored n k s q l) ∙ ⊕-twice (bit s q) (k q))
    ∙ of_bits_bit n s h
