-- The digits of a number to any base, and the number that given digits make; bits are the digits to base 2.
use Rattle.std.specs.Prelude.{Bool, cond, not, ℕ, zero, suc, ◌+◌, ◌*◌, ◌/◌, ◌%◌, ◌^◌, eqb}

-- digit i of x to base b, the least significant being digit 0
unfoldable pub digit : ℕ → ℕ → ℕ → ℕ
digit b x i = x / b ^ i % b

-- the number of n digits to base b whose digit i is f i
unfoldable pub number : ℕ → ℕ → (ℕ → ℕ) → ℕ
number b zero f = 0
number b (suc n) f = f n * b ^ n + number b n f

-- bit i of x, as a truth value, and a truth value as a digit to base 2
unfoldable pub bit : ℕ → ℕ → Bool
bit x i = eqb (digit 2 x i) 1

abbrev pub one : Bool → ℕ
one b = cond b 1 0

-- the number of n bits whose bit i is f i
unfoldable pub of_bits : ℕ → (ℕ → Bool) → ℕ
of_bits n f = number 2 n (λ i. one (f i))

-- xor of two bits
infixl 32 ◌⊕◌
abbrev pub ◌⊕◌ : Bool → Bool → Bool
a ⊕ b = cond a (not b) b
