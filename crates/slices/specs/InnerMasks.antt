-- Inner: eighty round words as masks: for each bit of a word a word of 64 bits, all ones or all zeros, so that 64 blocks are keyed at once.
use Rattle.std.specs.Prelude.{Bool, cond, List, [], ◌∷◌, ℕ, zero, suc, ◌+◌, ◌*◌, ◌/◌, ◌%◌, take, drop, get_or}
use Rattle.bits.specs.Digit.{bit, of_bits}
use Rattle.published.specs.Blocks.{joined}
use Rattle.published.specs.Gift128.{rounds_all}
use Rattle.published.specs.Rounds.{Pair}
use Rattle.published.specs.Seen.{seen}
use Rattle.round_words.specs.Arranged.{stands}
use Rattle.turning.specs.Slices.{block_at}

-- a truth value in all 64 places
abbrev pub everywhere : Bool → ℕ
everywhere b = cond b 0xffffffffffffffff 0

-- Mask m is of word m / 32: of bit m % 32 of the word that it stands for. (Words 2 r and 2 r + 1, for V and U of round r + 1, are kept r % 5 + 1 rounds in.)
abbrev pub mask_at : List ℕ → ℕ → ℕ
mask_at words m = everywhere (bit (stands (suc (m / 64 % 5)) (get_or words (m / 32) 0)) (m % 32))

-- n elements, each by its place
unfoldable pub listed : ℕ → (ℕ → ℕ) → List ℕ
listed zero g = []
listed (suc n) g = g 0 ∷ listed n (λ i. g (suc i))

unfoldable pub masks_of : List ℕ → List ℕ
masks_of words = listed 2560 (mask_at words)

-- ---- what any masks are, 64 for a round

-- the pair in lane b: V in the first 32 words, U in the next; lanes may differ

unfoldable pub pair_in : List ℕ → ℕ → Pair
pair_in key b = record { u = of_bits 32 (λ i. bit (get_or key (32 + i) 0) b); v = of_bits 32 (λ i. bit (get_or key i 0) b) }

-- the pair of round r + 1 in lane b, of masks that are 64 for each round; and those of k rounds after r
abbrev pub pair_of : List ℕ → ℕ → ℕ → Pair
pair_of masks r b = pair_in (take 64 (drop (64 * r) masks)) b

unfoldable pub pairs_in : (masks : List ℕ) (b k r : ℕ) → List Pair
pairs_in masks b zero r = []
pairs_in masks b (suc k) r = pair_of masks r b ∷ pairs_in masks b k (suc r)

-- 64 blocks, each by the pairs in its lane
abbrev pub by_masks : (order : ℕ) (back : Bool) (masks input : List ℕ) → List ℕ
by_masks order back masks input = joined 64 (λ b. seen order (rounds_all back (pairs_in masks b 40 0)) (block_at input b))
