-- Inner: what the steps of a transposition do to the place of a bit, the word that it is in and its place there.
use Rattle.std.specs.Prelude.{◌≡◌, Bool, cond, ◌||◌, List, [], ◌∷◌, ℕ, zero, suc, ◌+◌, ◌-◌, ◌*◌, ◌/◌, ◌%◌, ◌<◌, eqb, get_or, set}
use Rattle.bits.specs.Digit.{bit, of_bits}
use Rattle.turning.specs.declared.Eight.{Eight}
use Rattle.turning.specs.declared.Two.{Two}

-- how many places apart the bits of a level are
abbrev pub is_level : ℕ → Bool
is_level n = eqb n 1 || eqb n 2 || eqb n 4 || eqb n 8 || eqb n 16 || eqb n 32

-- the places p for which p / n is even
unfoldable pub lower : ℕ → ℕ
lower n = of_bits 64 (λ p. eqb (p / n % 2) 0)

-- Two words, each bit of the first at a place where p / n is odd exchanged with the bit n places below it of the second: where the bit at place p comes from.
pub record Crossed (n a b : ℕ) (r : Two) : Type 0 where
  pub first : (p : ℕ) → p < 64 → bit r.a p ≡ bit (get_or (a ∷ b ∷ []) (p / n % 2) 0) (p - n * (p / n % 2))
  pub second : (p : ℕ) → p < 64 → bit r.b p ≡ bit (get_or (a ∷ b ∷ []) (p / n % 2) 0) (p - n * (p / n % 2) + n)

abbrev pub word_of : Eight → ℕ → ℕ
word_of e k = get_or (e.w0 ∷ e.w1 ∷ e.w2 ∷ e.w3 ∷ e.w4 ∷ e.w5 ∷ e.w6 ∷ e.w7 ∷ []) k 0

-- eight words: place p of word k comes from place `to k p` of word `from p`
pub record EightTurned (from : ℕ → ℕ) (to : ℕ → ℕ → ℕ) (e r : Eight) : Type 0 where
  pub turned : (k p : ℕ) → k < 8 → p < 64 → bit (word_of r k) p ≡ bit (word_of e (from p)) (to k p)

-- and 128 words, from places sixteen apart to eight places side by side
pub record Passed (from : ℕ → ℕ) (to : ℕ → ℕ → ℕ) (x y : List ℕ) : Type 0 where
  pub turned : (r p : ℕ) → r < 128 → p < 64 → bit (get_or y r 0) p ≡ bit (get_or x (r / 8 + 16 * from p) 0) (to (r % 8) p)

-- byte i of word k becomes byte k of word i
abbrev pub byte_from : ℕ → ℕ
byte_from p = p / 8

abbrev pub byte_to : ℕ → ℕ → ℕ
byte_to k p = 8 * k + p % 8

-- in each byte, bit i of word k becomes bit k of word i
abbrev pub bit_from : ℕ → ℕ
bit_from p = p % 8

abbrev pub bit_to : ℕ → ℕ → ℕ
bit_to k p = 8 * (p / 8) + k

-- by steps of 8 places bytes are turned, and by steps of 1 bits
abbrev pub is_step : ℕ → Bool
is_step s = eqb s 8 || eqb s 1

abbrev pub from_in : (step : ℕ) → ℕ → ℕ
from_in s = cond (eqb s 1) bit_from byte_from

abbrev pub to_in : (step : ℕ) → ℕ → ℕ → ℕ
to_in s = cond (eqb s 1) bit_to byte_to

-- eight words sixteen apart, and eight words put side by side
abbrev pub eight_at : List ℕ → ℕ → Eight
eight_at x i =
    record {
      w0 = get_or x i 0;
      w1 = get_or x (i + 16) 0;
      w2 = get_or x (i + 32) 0;
      w3 = get_or x (i + 48) 0;
      w4 = get_or x (i + 64) 0;
      w5 = get_or x (i + 80) 0;
      w6 = get_or x (i + 96) 0;
      w7 = get_or x (i + 112) 0;
    }

unfoldable pub eight_put : List ℕ → ℕ → Eight → List ℕ
eight_put y at t =
    set (set (set (set (set (set (set (set y at t.w0) (at + 1) t.w1) (at + 2) t.w2) (at + 3) t.w3) (at + 4) t.w4) (at + 5) t.w5) (at + 6) t.w6) (at + 7) t.w7

-- both: place b of word q comes from place q % 64 of word 2 b or 2 b + 1
pub record Turned (x y : List ℕ) : Type 0 where
  pub turned : (q b : ℕ) → q < 128 → b < 64 → bit (get_or y q 0) b ≡ bit (get_or x (2 * b + q / 64) 0) (q % 64)

-- the halves of the blocks as they are loaded, the lower of block b at 2 b
pub record Halves (bytes x : List ℕ) : Type 0 where
  pub half : (r p : ℕ) → r < 128 → p < 64 → bit (get_or x r 0) p ≡ bit (get_or bytes (16 * (r / 2) + 8 * (1 - r % 2) + (7 - p / 8)) 0) (p % 8)

-- in which slice of a block that is one number, bit q of a block stands that the order reads, and back
abbrev pub inward_in : (order : ℕ) → ℕ → ℕ
inward_in zero q = q
inward_in (suc _) q = 32 * (3 - q % 4) + q / 4

abbrev pub outward_in : (order : ℕ) → ℕ → ℕ
outward_in zero p = p
outward_in (suc _) p = 4 * (p % 32) + (3 - p / 32)

-- words that come from other places
pub record Placed (from : ℕ → ℕ) (x y : List ℕ) : Type 0 where
  pub placed : (i : ℕ) → i < 128 → get_or y i 0 ≡ get_or x (from i) 0

-- lower halves at even places, upper ones beside them
abbrev pub pairwise : ℕ → ℕ
pairwise i = i / 2 + 64 * (i % 2)
