-- Four words and the block that they stand for: the words of a block stand for it, at every width; and at 128 bits the block of four words has those words.
use mathlib.Core.Path.{◌≡◌, refl}
use Prim.Native.Nat.{ℕ, ◌*◌, ◌/◌, ◌^◌, ◌<◌}
use native.Mathlib.Omega.{arith}
use Rattle.published.specs.Packing.{word}
use Rattle.published.proofs.Words.{four, block_of_words, from_words-lt, word-from_words}
use Rattle.primitives.specs.declared.State.{State}
use Rattle.primitives.specs.Packed.{word_of, block_from, state_from, block_of, state_of, Words}

pub words_at : (s : State) → Words s → (j : ℕ) → j < 4 → word_of s j < 2 ^ 32
words_at s h = four (λ (j : ℕ). word_of s j < 2 ^ 32) h.0 h.1 h.2 h.3

-- ---- at any width

word_of_state_from : (n x j : ℕ) → j < 4 → word_of (state_from n x) j ≡ word n x j
word_of_state_from n x = four (λ (j : ℕ). word_of (state_from n x) j ≡ word n x j) refl refl refl refl

-- the packed words of a block are the block
pub block_from-state_from : (n : ℕ) → 4 * (n / 4) ≡ n → (x : ℕ) → x < 2 ^ n → block_from n (state_from n x) ≡ x
block_from-state_from n whole x h = block_of_words n whole (word_of (state_from n x)) x h (word_of_state_from n x)

-- ---- at 128 bits

pub word_of_state_of : (x j : ℕ) → j < 4 → word_of (state_of x) j ≡ word 128 x j
unfolding state_of
word_of_state_of = word_of_state_from 128

pub block_of_lt : (s : State) → block_of s < 2 ^ 128
unfolding block_of
block_of_lt s = from_words-lt (word_of s)

pub block_of_state_of : (x : ℕ) → x < 2 ^ 128 → block_of (state_of x) ≡ x
unfolding block_of state_of
block_of_state_of = block_from-state_from 128 refl

-- and the block of four words has those words
pub word_block_of : (s : State) → Words s → (j : ℕ) → j < 4 → word 128 (block_of s) j ≡ word_of s j
unfolding block_of
word_block_of s h = word-from_words (word_of s) (words_at s h)

pub same_words : (s t : State) → s.s0 ≡ t.s0 → s.s1 ≡ t.s1 → s.s2 ≡ t.s2 → s.s3 ≡ t.s3 → s ≡ t
same_words s t p0 p1 p2 p3 = λ i. record { s0 = p0 i; s1 = p1 i; s2 = p2 i; s3 = p3 i }

pub state_of_block_of : (s : State) → Words s → state_of (block_of s) ≡ s
unfolding state_of
state_of_block_of s h =
    same_words (state_of (block_of s)) s (word_block_of s h 0 (omega arith)) (word_block_of s h 1 (omega arith)) (word_block_of s h 2 (omega arith)) (word_block_of s h 3 (omega arith))
