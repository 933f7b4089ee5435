-- The laws of digits, once for every base: digits and numbers are each other's inverse, and what shifts and remainders do to a digit.
use mathlib.Core.Path.{◌≡◌, refl, sym, ap, ap₂, ◌∙◌}
use mathlib.Core.Logic.{⊎_elim}
use Prim.Native.Nat.{ℕ, zero, suc, ◌+◌, ◌*◌, ◌/◌, ◌%◌, ◌^◌, ◌≤◌, ◌<◌}
use native.Mathlib.Nat.{le_refl, le_dest, le_step, le_of_suc-le-suc, not-suc-le-zero, eq-or-lt_of_le, lt_of_lt_of_le, one-le-pow, pow-le-pow_right, pow-zero, pow-suc, pow-succ', mul-zero, mul-suc, mul_assoc, add_comm, add-zero, zero-mod, mod-one, mod-lt, mod-eq_of_lt, div-eq_of_lt, div-add-mod', div-div-eq-div-mul, mul-add-div_right, mul-add-mod_self_right, mul-div_cancel}
use lib.Arith.{digits_lt, digits_div, mod-mul}
use lib.Pow.{pow-add}
use Rattle.bits.specs.Digit.{digit, number}

pub pow-mul : (b k i : ℕ) → (b ^ k) ^ i ≡ b ^ (k * i)
pow-mul b k zero = pow-zero (b ^ k) ∙ sym (ap (λ (m : ℕ). b ^ m) (mul-zero k) ∙ pow-zero b)
pow-mul b k (suc i) =
    pow-suc (b ^ k) i ∙ ap (λ (m : ℕ). m * b ^ k) (pow-mul b k i) ∙ sym (ap (λ (m : ℕ). b ^ m) (mul-suc k i) ∙ pow-add b (k * i) k)

-- two numbers of the same digits are the same
pub number_cong : (b n : ℕ) (f g : ℕ → ℕ) → ((i : ℕ) → i < n → f i ≡ g i) → number b n f ≡ number b n g
unfolding number
number_cong b zero f g e = refl
number_cong b (suc n) f g e =
    ap₂ (λ (x y : ℕ). x * b ^ n + y) (e n (le_refl (suc n))) (number_cong b n f g (λ i h. e i (le_step h)))

module _ (b : ℕ) (pos : zero < b) where
  power : (k : ℕ) → zero < b ^ k
  power k = one-le-pow k b pos

  pub digit_lt : (x i : ℕ) → digit b x i < b
  unfolding digit
  digit_lt x i = mod-lt (x / b ^ i) pos

  pub number_lt : (n : ℕ) (f : ℕ → ℕ) → ((i : ℕ) → i < n → f i < b) → number b n f < b ^ n
  unfolding number
  number_lt zero f h = rw pow-zero (le_refl 1)
  number_lt (suc n) f h = rw pow-succ' (digits_lt (h n (le_refl (suc n))) (number_lt n f (λ i l. h i (le_step l))))

  -- a digit on top of lower ones, and the ones below it
  pub digit_top : (n d r : ℕ) → d < b → r < b ^ n → digit b (d * b ^ n + r) n ≡ d
  unfolding digit
  digit_top n d r hd hr = ap (λ (x : ℕ). x % b) (digits_div d hr) ∙ mod-eq_of_lt hd

  pub digit-below : (n d r i : ℕ) → i < n → digit b (d * b ^ n + r) i ≡ digit b r i
  unfolding digit
  digit-below n d r i h =
      let (k, e) = le_dest h in
      let power-of : b ^ n ≡ b ^ k * b * b ^ i =
      ap (λ (m : ℕ). b ^ m) (sym e ∙ add_comm (suc i) k) ∙ pow-add b k (suc i) ∙ ap (λ (m : ℕ). b ^ k * m) (pow-succ' b i) ∙ sym (mul_assoc (b ^ k) b (b ^ i)) in
      ap (λ (m : ℕ). (m + r) / b ^ i % b)
      (ap (λ (m : ℕ). d * m) power-of ∙ sym (mul_assoc d (b ^ k * b) (b ^ i)) ∙ ap (λ (m : ℕ). m * b ^ i) (sym (mul_assoc d (b ^ k) b)))
      ∙ ap (λ (m : ℕ). m % b) (mul-add-div_right (power i) (d * b ^ k * b) r)
      ∙ mul-add-mod_self_right (d * b ^ k) b (r / b ^ i)

  -- the digits of a number are those that it was made of
  pub digit-number : (n : ℕ) (f : ℕ → ℕ) → ((i : ℕ) → i < n → f i < b) → (i : ℕ) → i < n → digit b (number b n f) i ≡ f i
  unfolding number
  digit-number zero f h i l = absurd (not-suc-le-zero l)
  digit-number (suc n) f h i l =
      ⊎_elim
      (λ e. rw e (digit_top n (f n) (number b n f) (h n (le_refl (suc n))) (number_lt n f (λ j m. h j (le_step m)))))
      (λ m. digit-below n (f n) (number b n f) i m ∙ digit-number n f (λ j k. h j (le_step k)) i m)
      (eq-or-lt_of_le (le_of_suc-le-suc l))

  -- the n low digits make the remainder by b ^ n, and so the number itself where it has no more
  pub number-mod : (n x : ℕ) → number b n (digit b x) ≡ x % b ^ n
  unfolding number digit
  number-mod zero x = sym (ap (λ (m : ℕ). x % m) (pow-zero b) ∙ mod-one x)
  number-mod (suc n) x =
      ap (λ (m : ℕ). x / b ^ n % b * b ^ n + m) (number-mod n x)
      ∙ sym (ap (λ (m : ℕ). x % m) (pow-succ' b n) ∙ mod-mul x pos (power n))

  pub number-digit : (n x : ℕ) → x < b ^ n → number b n (digit b x) ≡ x
  number-digit n x h = number-mod n x ∙ mod-eq_of_lt h

  -- past the end there are only zeros
  pub digit_out : (n x i : ℕ) → x < b ^ n → n ≤ i → digit b x i ≡ 0
  unfolding digit
  digit_out n x i h l = ap (λ (m : ℕ). m % b) (div-eq_of_lt (lt_of_lt_of_le h (pow-le-pow_right pos l))) ∙ zero-mod b

  -- a quotient by b ^ k, a multiple of b ^ k, a remainder by b ^ n
  pub digit_shr : (x k i : ℕ) → digit b (x / b ^ k) i ≡ digit b x (k + i)
  unfolding digit
  digit_shr x k i = ap (λ (m : ℕ). m % b) (div-div-eq-div-mul x (b ^ k) (b ^ i) ∙ ap (λ (m : ℕ). x / m) (sym (pow-add b k i)))

  pub digit_shl : (x k i : ℕ) → digit b (x * b ^ k) (k + i) ≡ digit b x i
  digit_shl x k i = sym (digit_shr (x * b ^ k) k i) ∙ ap (λ (m : ℕ). digit b m i) (mul-div_cancel x (power k))

  pub digit_shl_low : (x k i : ℕ) → i < k → digit b (x * b ^ k) i ≡ 0
  digit_shl_low x k i h = ap (λ (m : ℕ). digit b m i) (sym (add-zero (x * b ^ k))) ∙ digit-below k x 0 i h ∙ digit_out 0 0 i (power 0) Prim.Native.Nat.zero-le

  pub digit-mod : (x n i : ℕ) → i < n → digit b (x % b ^ n) i ≡ digit b x i
  digit-mod x n i h = sym (digit-below n (x / b ^ n) (x % b ^ n) i h) ∙ ap (λ (m : ℕ). digit b m i) (div-add-mod' x (b ^ n))

  -- digit j of digit i to base b ^ k is digit k * i + j to base b
  pub digit-digit : (k x i j : ℕ) → j < k → digit b (digit (b ^ k) x i) j ≡ digit b x (k * i + j)
  unfolding digit
  digit-digit k x i j h =
      digit-mod (x / (b ^ k) ^ i) k j h ∙ ap (λ (m : ℕ). digit b (x / m) j) (pow-mul b k i) ∙ digit_shr x (k * i) j
