-- The laws of bits: numbers and their bits are each other's inverse, and what and, or, xor, shifts and remainders do to a bit.
use mathlib.Core.Path.{◌≡◌, refl, sym, ap, ap₂, ◌∙◌}
use mathlib.Core.Bool.{Bool, true, false, ◌&&◌, ◌||◌}
use mathlib.Core.Logic.{⊎_elim}
use Prim.Native.Nat.{ℕ, zero, suc, ◌+◌, ◌-◌, ◌*◌, ◌/◌, ◌%◌, ◌^◌, ◌≤◌, ◌<◌}
use native.Mathlib.Nat.{le_refl, le_step, zero-lt-suc, le_of_suc-le-suc, not-suc-le-zero, eq-or-lt_of_le, ne_of_lt, zero-add, zero-mul, add_left_comm, add-sub_of_le, mod-lt}
use lib.Bits.{bit_and, bit_or, bit_xor, and_shr, or_shr, xor_shr, and_mod, or_mod, xor_mod}
use lib.Dec.{eqb, leb, lit<}
use lib.Pow.{pow_pos}
use borrow.Author.Tests.{leb-true, leb-false}
use Rattle.bits.specs.Digit.{digit, number, one, bit, of_bits, ◌⊕◌}
use Rattle.bits.proofs.Digits.{number_cong, number_lt, number-digit, digit_lt, digit-number, digit-below, digit_out, digit_shr, digit_shl, digit_shl_low, digit-mod, digit-digit}

two : zero < 2
two = zero-lt-suc 1

abbrev is_one : ℕ → Bool
is_one d = eqb d 1

pub is_one_one : (b : Bool) → eqb (one b) 1 ≡ b
is_one_one false = refl
is_one_one true = refl

pub one_lt : (b : Bool) → one b < 2
one_lt false = lit< tt
one_lt true = lit< tt

one_is_one : (d : ℕ) → d < 2 → one (is_one d) ≡ d
one_is_one zero h = refl
one_is_one (suc zero) h = refl
one_is_one (suc (suc d)) h = absurd (not-suc-le-zero (le_of_suc-le-suc (le_of_suc-le-suc h)))

pub one_bit : (x i : ℕ) → one (bit x i) ≡ digit 2 x i
unfolding bit
one_bit x i = one_is_one (digit 2 x i) (digit_lt 2 two x i)

-- ---- a number and its bits

pub of_bits_lt : (n : ℕ) (f : ℕ → Bool) → of_bits n f < 2 ^ n
unfolding of_bits
of_bits_lt n f = number_lt 2 two n (λ i. one (f i)) (λ i h. one_lt (f i))

pub of_bits_cong : (n : ℕ) (f g : ℕ → Bool) → ((i : ℕ) → i < n → f i ≡ g i) → of_bits n f ≡ of_bits n g
unfolding of_bits
of_bits_cong n f g e = number_cong 2 n (λ i. one (f i)) (λ i. one (g i)) (λ i h. ap one (e i h))

pub bit_of_bits : (n : ℕ) (f : ℕ → Bool) (i : ℕ) → i < n → bit (of_bits n f) i ≡ f i
unfolding bit of_bits
bit_of_bits n f i h = ap is_one (digit-number 2 two n (λ j. one (f j)) (λ j l. one_lt (f j)) i h) ∙ is_one_one (f i)

pub of_bits_bit : (n x : ℕ) → x < 2 ^ n → of_bits n (bit x) ≡ x
unfolding of_bits
of_bits_bit n x h = number_cong 2 n (λ i. one (bit x i)) (digit 2 x) (λ i l. one_bit x i) ∙ number-digit 2 two n x h

pub bit_ext : (n x y : ℕ) → x < 2 ^ n → y < 2 ^ n → ((i : ℕ) → i < n → bit x i ≡ bit y i) → x ≡ y
bit_ext n x y hx hy e = sym (of_bits_bit n x hx) ∙ of_bits_cong n (bit x) (bit y) e ∙ of_bits_bit n y hy

pub of_bits_none : (n : ℕ) (f : ℕ → Bool) → ((i : ℕ) → i < n → f i ≡ false) → of_bits n f ≡ 0
unfolding of_bits number
of_bits_none zero f e = refl
of_bits_none (suc n) f e =
    ap₂ (λ (b : Bool) (m : ℕ). one b * 2 ^ n + m) (e n (le_refl (suc n))) (of_bits_none n f (λ i h. e i (le_step h)))
    ∙ ap (λ (m : ℕ). m + 0) (zero-mul (2 ^ n))

-- a number with bit j set or not, where it was not set before
pub of_bits_put : (n j : ℕ) (g h : ℕ → Bool) → j < n → h j ≡ false → ((i : ℕ) → i < n → (i ≡ j → ⊥) → g i ≡ h i)
    → of_bits n g ≡ one (g j) * 2 ^ j + of_bits n h
unfolding of_bits number
of_bits_put zero j g h l z e = absurd (not-suc-le-zero l)
of_bits_put (suc n) j g h l z e =
    ⊎_elim
    (λ q.
    rw q
    (ap (λ (m : ℕ). one (g n) * 2 ^ n + m)
    (of_bits_cong n g h (λ i k. e i (le_step k) (λ same. ne_of_lt k (same ∙ q)))
    ∙ sym (ap (λ (b : Bool). one b * 2 ^ n + of_bits n h) (rw q at z) ∙ ap (λ (m : ℕ). m + of_bits n h) (zero-mul (2 ^ n)) ∙ zero-add (of_bits n h)))))
    (λ k.
    ap₂ (λ (b : Bool) (m : ℕ). one b * 2 ^ n + m) (e n (le_refl (suc n)) (λ same. ne_of_lt k (sym same)))
    (of_bits_put n j g h k z (λ i m. e i (le_step m)))
    ∙ add_left_comm (one (h n) * 2 ^ n) (one (g j) * 2 ^ j) (of_bits n h))
    (eq-or-lt_of_le (le_of_suc-le-suc l))

-- ---- shifts and remainders

pub bit_out : (n x i : ℕ) → x < 2 ^ n → n ≤ i → bit x i ≡ false
unfolding bit
bit_out n x i h l = ap is_one (digit_out 2 two n x i h l)

pub bit_shr : (x k i : ℕ) → bit (x / 2 ^ k) i ≡ bit x (k + i)
unfolding bit
bit_shr x k i = ap is_one (digit_shr 2 two x k i)

pub bit_shl : (x k i : ℕ) → bit (x * 2 ^ k) (k + i) ≡ bit x i
unfolding bit
bit_shl x k i = ap is_one (digit_shl 2 two x k i)

pub bit_shl_low : (x k i : ℕ) → i < k → bit (x * 2 ^ k) i ≡ false
unfolding bit
bit_shl_low x k i h = ap is_one (digit_shl_low 2 two x k i h)

pub bit-mod : (x n i : ℕ) → i < n → bit (x % 2 ^ n) i ≡ bit x i
unfolding bit
bit-mod x n i h = ap is_one (digit-mod 2 two x n i h)

pub bit_mod_out : (x n i : ℕ) → n ≤ i → bit (x % 2 ^ n) i ≡ false
bit_mod_out x n i l = bit_out n (x % 2 ^ n) i (mod-lt x (pow_pos n)) l

-- a word of w bits shifted left by k places
pub bit_shl_cut : (w x k i : ℕ) → i < w → bit (x * 2 ^ k % 2 ^ w) i ≡ (leb k i && bit x (i - k))
bit_shl_cut w x k i h = bit-mod (x * 2 ^ k) w i h ∙ go (leb k i) refl
  where
    go : (t : Bool) → leb k i ≡ t → bit (x * 2 ^ k) i ≡ (t && bit x (i - k))
    go true e = ap (bit (x * 2 ^ k)) (sym (add-sub_of_le (leb-true k i e))) ∙ bit_shl x k (i - k)
    go false e = bit_shl_low x k i (leb-false k i e)

-- hi ‖ lo, lo being of k bits
pub bit_join_low : (k hi lo i : ℕ) → i < k → bit (hi * 2 ^ k + lo) i ≡ bit lo i
unfolding bit
bit_join_low k hi lo i h = ap is_one (digit-below 2 two k hi lo i h)

-- bit j of digit i to base 2 ^ k is bit k * i + j
pub bit-digit : (k x i j : ℕ) → j < k → bit (digit (2 ^ k) x i) j ≡ bit x (k * i + j)
unfolding bit
bit-digit k x i j h = ap is_one (digit-digit 2 two k x i j h)

-- ---- and, or, xor: what an operation does to digits of 0 and 1, it does to every bit

module _ (op : ℕ → ℕ → ℕ) (on : Bool → Bool → Bool) (shr : (a b k : ℕ) → op a b / 2 ^ k ≡ op (a / 2 ^ k) (b / 2 ^ k))
    (low : (a b k : ℕ) → op a b % 2 ^ k ≡ op (a % 2 ^ k) (b % 2 ^ k)) (digits : (a b : Bool) → is_one (op (one a) (one b)) ≡ on a b) where
  bit_op : (x y i : ℕ) → bit (op x y) i ≡ on (bit x i) (bit y i)
  unfolding digit bit
  bit_op x y i =
      ap is_one
      (ap (λ (m : ℕ). m % 2) (shr x y i) ∙ low (x / 2 ^ i) (y / 2 ^ i) 1 ∙ ap₂ op (sym (one_bit x i)) (sym (one_bit y i)))
      ∙ digits (bit x i) (bit y i)

and-digits : (a b : Bool) → is_one (bit_and (one a) (one b)) ≡ (a && b)
and-digits false false = refl
and-digits false true = refl
and-digits true false = refl
and-digits true true = refl

or_digits : (a b : Bool) → is_one (bit_or (one a) (one b)) ≡ (a || b)
or_digits false false = refl
or_digits false true = refl
or_digits true false = refl
or_digits true true = refl

xor-digits : (a b : Bool) → is_one (bit_xor (one a) (one b)) ≡ a ⊕ b
xor-digits false false = refl
xor-digits false true = refl
xor-digits true false = refl
xor-digits true true = refl

pub bit-and : (x y i : ℕ) → bit (bit_and x y) i ≡ (bit x i && bit y i)
bit-and = bit_op bit_and ◌&&◌ and_shr and_mod and-digits

pub bit-or : (x y i : ℕ) → bit (bit_or x y) i ≡ (bit x i || bit y i)
bit-or = bit_op bit_or ◌||◌ or_shr or_mod or_digits

pub bit-xor : (x y i : ℕ) → bit (bit_xor x y) i ≡ bit x i ⊕ bit y i
bit-xor = bit_op bit_xor ◌⊕◌ xor_shr xor_mod xor-digits

-- ---- xor of truth values

pub ⊕-false : (a : Bool) → a ⊕ false ≡ a
⊕-false false = refl
⊕-false true = refl

pub ⊕-self : (a : Bool) → a ⊕ a ≡ false
⊕-self false = refl
⊕-self true = refl

pub ⊕_comm : (a b : Bool) → a ⊕ b ≡ b ⊕ a
⊕_comm false b = sym (⊕-false b)
⊕_comm true false = refl
⊕_comm true true = refl

pub ⊕_assoc : (a b c : Bool) → a ⊕ b ⊕ c ≡ a ⊕ (b ⊕ c)
⊕_assoc false b c = refl
⊕_assoc true false c = refl
⊕_assoc true true false = refl
⊕_assoc true true true = refl

-- what is xored in twice is gone
pub ⊕-twice : (a b : Bool) → a ⊕ b ⊕ b ≡ a
⊕-twice a b = ⊕_assoc a b b ∙ ap (λ (x : Bool). a ⊕ x) (⊕-self b) ∙ ⊕-false a

pub ⊕_equal : (a b : Bool) → a ⊕ b ≡ false → a ≡ b
⊕_equal a b e = sym (⊕-twice a b) ∙ ap (λ (x : Bool). x ⊕ b) e
