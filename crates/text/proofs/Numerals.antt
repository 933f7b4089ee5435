-- Digits of text: the rule of a hex digit by a test over all sixteen, and the step of a decimal number.
use mathlib.Core.Path.{◌≡◌, refl, ap}
use mathlib.Core.Bool.{Bool, true, false, cond}
use mathlib.Core.List.{List, [], ◌∷◌, ◌++◌}
use Prim.Native.Nat.{ℕ, zero, suc, ◌+◌, ◌/◌, ◌%◌, ◌≤◌, ◌<◌}
use native.Mathlib.Nat.{not-suc-le-zero}
use native.Mathlib.Omega.{arith}
use lib.Dec.{ltb}
use lib.ListN.{get_or}
use borrow.Author.Tests.{ltb-false, lt-ltb, le-ltb}
use Rattle.bits.proofs.Computed.{agree}
use Rattle.text.specs.Hex.{hex_digits, place_of, value_of, hex_of}
use Rattle.text.specs.Decimal.{last_digits, decimal_of}

-- a digit written and read
pub value-digit : (d : ℕ) → d < 16 → value_of (get_or hex_digits d 0) ≡ d
unfolding value_of
value-digit = agree 16 (λ d. place_of (get_or hex_digits d 0) hex_digits) (λ d. d) tt

pub hex_of-append : (a b : List ℕ) → hex_of (a ++ b) ≡ hex_of a ++ hex_of b
unfolding hex_of
hex_of-append [] b = refl
hex_of-append (x ∷ a) b = ap (λ (t : List ℕ). get_or hex_digits (x / 16) 0 ∷ get_or hex_digits (x % 16) 0 ∷ t) (hex_of-append a b)

-- enough digits are all of them
otherwise : (n : ℕ) (a b : List ℕ) → (10 ≤ n → a ≡ b) → cond (ltb n 10) [] a ≡ cond (ltb n 10) [] b
otherwise n a b e = go (ltb n 10) refl
  where
    go : (t : Bool) → ltb n 10 ≡ t → cond t [] a ≡ cond t [] b
    go true p = refl
    go false p = e (ltb-false n 10 p)

enough : (j k n : ℕ) → n < j → n < k → last_digits j n ≡ last_digits k n
unfolding last_digits
enough zero k n h g = absurd (not-suc-le-zero h)
enough (suc j) zero n h g = absurd (not-suc-le-zero g)
enough (suc j) (suc k) n h g =
    ap (λ (front : List ℕ). front ++ ((48 + n % 10) ∷ [])) (otherwise n (last_digits j (n / 10)) (last_digits k (n / 10)) (λ more. enough j k (n / 10) (omega arith) (omega arith)))

pub decimal_short : (n : ℕ) → n < 10 → decimal_of n ≡ (48 + n % 10) ∷ []
unfolding decimal_of last_digits
decimal_short n h = rw (lt-ltb n 10 h)

pub decimal_long : (n : ℕ) → 10 ≤ n → decimal_of n ≡ decimal_of (n / 10) ++ ((48 + n % 10) ∷ [])
unfolding decimal_of last_digits
decimal_long n h = rw (le-ltb n 10 h, enough n (suc (n / 10)) (n / 10) (omega arith) (omega arith))
