-- Inner: what the steps of a round do to slices, lane by lane.
use Rattle.std.specs.Prelude.{◌≡◌, Bool, cond, ◌&&◌, List, [], ◌∷◌, ℕ, ◌/◌, ◌%◌, ◌<◌, eqb, ltb, length, get_or}
use Rattle.std.specs.Int.Bits.{bit_and}
use Rattle.bits.specs.Digit.{bit, of_bits, ◌⊕◌}
use Rattle.published.specs.Rounds.{P, entry, sub_cells, perm_bits, xored, key_bit}
use Rattle.published.specs.Inner.{unentry, un_perm_bits}
use Rattle.turning.specs.Slices.{lane}
use Rattle.slices.specs.declared.Nibble.{Nibble}
use Rattle.slices.specs.InnerMasks.{pair_in}

-- every lane of y is made of the same lane of x
pub record Lanes (f : ℕ → ℕ → ℕ) (x y : List ℕ) : Type 0 where
  pub size : length y ≡ 128
  pub lanes : (b : ℕ) → b < 64 → lane y b ≡ f b (lane x b)

-- ---- the boxes

abbrev pub word_of : Nibble → ℕ → ℕ
word_of s j = get_or (s.s0 ∷ s.s1 ∷ s.s2 ∷ s.s3 ∷ []) j 0

-- the nibble in lane b
unfoldable pub nibble_in : Nibble → ℕ → ℕ
nibble_in s b = of_bits 4 (λ j. bit (word_of s j) b)

pub record Boxed (f : ℕ → ℕ) (s r : Nibble) : Type 0 where
  pub through : (j b : ℕ) → j < 4 → b < 64 → bit (word_of r j) b ≡ bit (f (nibble_in s b)) j

-- ---- a round but for its constant: nibbles looked up, each bit put where P moves it, the key's bit there xored in

abbrev pub ScatteredAt : (x key : List ℕ) → ℕ → ℕ → Type 0
ScatteredAt x key i w = (b : ℕ) → b < 64 → bit w b ≡ bit (sub_cells entry 128 (lane x b)) i ⊕ key_bit 1 (pair_in key b) (P 128 i)

-- the first k bits
pub record Scattered (x key : List ℕ) (k : ℕ) (y : List ℕ) : Type 0 where
  pub size : length y ≡ 128
  pub there : (i : ℕ) → i < k → ScatteredAt x key i (get_or y (P 128 i) 0)

abbrev pub keyed : (key : List ℕ) → ℕ → ℕ → ℕ
keyed key b s = xored 128 (key_bit 1 (pair_in key b)) (perm_bits 128 (sub_cells entry 128 s))

-- and undone: each bit fetched from where P moved it, the key's bit there taken off, nibbles looked up backwards
abbrev pub GatheredAt : (x key : List ℕ) → ℕ → ℕ → Type 0
GatheredAt x key i w = (b : ℕ) → b < 64 → bit w b ≡ bit (sub_cells unentry 128 (un_perm_bits 128 (xored 128 (key_bit 1 (pair_in key b)) (lane x b)))) i

pub record Gathered (x key : List ℕ) (k : ℕ) (y : List ℕ) : Type 0 where
  pub size : length y ≡ 128
  pub there : (i : ℕ) → i < k → GatheredAt x key i (get_or y i 0)

abbrev pub unkeyed : (key : List ℕ) → ℕ → ℕ → ℕ
unkeyed key b s = sub_cells unentry 128 (un_perm_bits 128 (xored 128 (key_bit 1 (pair_in key b)) s))

-- ---- the constant

-- its first i bits
abbrev pub constant_bits : ℕ → ℕ → ℕ → Bool
constant_bits i c q = eqb (q % 4) 3 && ltb (q / 4) i && bit c (q / 4)

-- ---- masks

abbrev pub mask_by : (word one : ℕ) → ℕ
mask_by word one = cond (eqb (bit_and word one) 0) 0 0xffffffffffffffff

pub record MasksBy (word : ℕ) (places out : List ℕ) : Type 0 where
  pub masks : (i : ℕ) → i < 32 → get_or out i 0 ≡ mask_by word (get_or places i 0)
