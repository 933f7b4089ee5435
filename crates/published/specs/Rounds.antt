-- The rounds of GIFT as its designers wrote them (IACR ePrint 2017/622), for a block of n bits; GIFT-64 and GIFT-128 share them.
-- A state is a number of n bits, b(n-1)..b0. Nibble i is b(4i+3)..b(4i), its digit i to base 16.
use Rattle.std.specs.Prelude.{Bool, true, cond, ◌&&◌, ◌||◌, List, [], ◌∷◌, ℕ, zero, suc, ◌+◌, ◌-◌, ◌*◌, ◌/◌, ◌%◌, ◌^◌, eqb, ltb, get_or}
use Rattle.bits.specs.Digit.{digit, number, one, bit, of_bits, ◌⊕◌}

-- 1. Each nibble x becomes entry x of 1 a 4 c 6 f 3 9 2 d b 7 5 0 8 e.
unfoldable pub entry : ℕ → ℕ
entry x = get_or (0x1 ∷ 0xa ∷ 0x4 ∷ 0xc ∷ 0x6 ∷ 0xf ∷ 0x3 ∷ 0x9 ∷ 0x2 ∷ 0xd ∷ 0xb ∷ 0x7 ∷ 0x5 ∷ 0x0 ∷ 0x8 ∷ 0xe ∷ []) x 0

-- a state with each nibble x made f x
unfoldable pub sub_cells : (ℕ → ℕ) → ℕ → ℕ → ℕ
sub_cells f n s = number 16 (n / 4) (λ i. f (digit 16 s i))

-- 2. Bit i moves to P(i).
unfoldable pub P : ℕ → ℕ → ℕ
P n i = 4 * (i / 16) + n / 4 * ((3 * (i % 16 / 4) + i % 4) % 4) + i % 4

-- the k low bits of s, bit i put at p i
unfoldable pub moved : (ℕ → ℕ) → ℕ → ℕ → ℕ
moved p zero s = 0
moved p (suc i) s = one (bit s i) * 2 ^ p i + moved p i s

unfoldable pub perm_bits : ℕ → ℕ → ℕ
perm_bits n s = moved (P n) n s

-- a state with k q xored into each bit q
unfoldable pub xored : ℕ → (ℕ → Bool) → ℕ → ℕ
xored n k s = of_bits n (λ q. bit s q ⊕ k q)

-- 3. Bit i of U is xored into b(4i+j+1) and bit i of V into b(4i+j); j is 1 in GIFT-128 and 0 in GIFT-64.
pub record Pair : Type 0 where
  pub u : ℕ
  pub v : ℕ

unfoldable pub key_bit : ℕ → Pair → ℕ → Bool
key_bit j p q = eqb (q % 4) (j + 1) && bit p.u (q / 4) || eqb (q % 4) j && bit p.v (q / 4)

-- 4. The highest bit is flipped; b23, b19, b15, b11, b7, b3 are xored with c5..c0 of the round constant.
unfoldable pub constant_bit : ℕ → ℕ → ℕ → Bool
constant_bit n c q = eqb q (n - 1) ⊕ (eqb (q % 4) 3 && ltb (q / 4) 6 && bit c (q / 4))

-- (c5,c4,c3,c2,c1,c0) becomes (c4,c3,c2,c1,c0, c5 xor c4 xor 1)
unfoldable pub step : ℕ → ℕ
step c = c % 32 * 2 + one (bit c 5 ⊕ bit c 4 ⊕ true)

-- the constant starts at 0 and is stepped before each use: round r, from 1, uses constant r
unfoldable pub constant : ℕ → ℕ
constant zero = 0
constant (suc r) = step (constant r)

-- One round by the pair U, V and the constant c.
unfoldable pub round : ℕ → ℕ → Pair → ℕ → ℕ → ℕ
round n j p c s = xored n (constant_bit n c) (xored n (key_bit j p) (perm_bits n (sub_cells entry n s)))

-- A round for each pair of a list, after r rounds.
unfoldable pub rounds : ℕ → ℕ → List Pair → ℕ → ℕ → ℕ
rounds n j [] r s = s
rounds n j (p ∷ ps) r s = rounds n j ps (suc r) (round n j p (constant (suc r)) s)

-- the number below k that passes a test; 0 if none does
unfoldable pub find : (ℕ → Bool) → ℕ → ℕ
find test zero = 0
find test (suc k) = cond (test k) k (find test k)

-- Undoing: the state of n bits that the round turns into s. (That there is one and no other is proved.)
unfoldable pub unround : ℕ → ℕ → Pair → ℕ → ℕ → ℕ
unround n j p c s = find (λ x. eqb (round n j p c x) s) (2 ^ n)

unfoldable pub unrounds : ℕ → ℕ → List Pair → ℕ → ℕ → ℕ
unrounds n j [] r s = s
unrounds n j (p ∷ ps) r s = unround n j p (constant (suc r)) (unrounds n j ps (suc r) s)
