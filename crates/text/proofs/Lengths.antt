-- How long digits are.
use mathlib.Core.Path.{◌≡◌, refl}
use mathlib.Core.Bool.{Bool, true, false}
use mathlib.Core.List.{List, [], ◌∷◌}
use Prim.Native.Nat.{ℕ, zero, suc, ◌*◌, ◌/◌, ◌^◌, ◌≤◌, ◌<◌}
use native.Mathlib.Nat.{pow-suc}
use native.Mathlib.Omega.{arith}
use lib.Dec.{ltb}
use lib.ListN.{length, length-append}
use borrow.Author.Tests.{ltb-true, ltb-false}
use Rattle.text.specs.Hex.{hex_of}
use Rattle.text.specs.Decimal.{decimal_of}
use Rattle.text.proofs.Numerals.{decimal_short, decimal_long}

pub length-hex_of : (bs : List ℕ) → length (hex_of bs) ≡ 2 * length bs
unfolding hex_of
length-hex_of [] = refl
length-hex_of (b ∷ bs) = omega (arith, length-hex_of bs)

-- a number below 10 ^ (k + 1) has at most k + 1 digits
digits : (k n : ℕ) → (10 ≤ n → length (decimal_of (n / 10)) ≤ k) → length (decimal_of n) ≤ suc k
digits k n front = go (ltb n 10) refl
  where
    go : (t : Bool) → ltb n 10 ≡ t → length (decimal_of n) ≤ suc k
    go true p = rw (decimal_short n (ltb-true n 10 p)) (omega arith)
    go false p = rw (decimal_long n (ltb-false n 10 p), length-append) (omega (arith, front (ltb-false n 10 p)))

decimal_length : (k n : ℕ) → n < 10 ^ suc k → length (decimal_of n) ≤ suc k
decimal_length zero n h = digits zero n (λ more. omega arith)
decimal_length (suc k) n h = digits (suc k) n (λ more. decimal_length k (n / 10) (omega (arith, pow-suc 10 (suc k))))

pub number-length : (n : ℕ) → n < 2 ^ 64 → length (decimal_of n) ≤ 20
number-length n h = decimal_length 19 n (omega arith)
