-- The update of a key word is a move of bits, and so is any number of updates of a word that is kept in an arrangement.
use mathlib.Core.Path.{◌≡◌, refl, sym, ap, ap₂, ◌∙◌}
use mathlib.Core.Bool.{Bool, true, false, cond, ◌&&◌}
use mathlib.Core.List.{[], ◌∷◌}
use Prim.Native.Nat.{ℕ, zero, suc, ◌+◌, ◌-◌, ◌*◌, ◌%◌, ◌^◌, ◌≤◌, ◌<◌}
use native.Mathlib.Nat.{mod-lt}
use native.Mathlib.Omega.{arith}
use lib.Arith.{digits_lt}
use lib.Dec.{T, ltb, ltb→lt, lit<}
use borrow.Author.Tests.{ltb-true, ltb-false}
use Rattle.bits.specs.Digit.{digit, bit}
use Rattle.bits.proofs.Bits.{bit-digit, bit_ext, bit_of_bits, of_bits_lt}
use Rattle.bits.proofs.Computed.{and_left, and_right, bounded}
use Rattle.bits.proofs.Reflect.{W, var, lit, and, or, shr, shl, value}
use Rattle.published.specs.Key.{ror16}
use Rattle.primitives.specs.Words.{permuted, ror_in}
use Rattle.primitives.proofs.Moves.{bit-permuted, permuted-lt, permuted_then}
use Rattle.round_words.specs.Arranged.{nibble_at, arranged, stands}
use Rattle.round_words.proofs.Arrangements.{nibble_at-lt, arranged-lt}
use Rattle.key_schedule.specs.InnerUpdate.{updated, updates, later}
use Rattle.key_schedule.specs.InnerHalves.{low_of, high_of, joined, in_both}
use Rattle.key_schedule.proofs.Halves.{bit_join, is_both, moves_both}

-- ---- a word of 16 bits that goes round

pub ror16-lt : (r x : ℕ) → ror16 r x < 2 ^ 16
unfolding ror16
ror16-lt r x = of_bits_lt 16 (λ i. bit x ((i + r) % 16))

bit-ror16 : (r x i : ℕ) → i < 16 → bit (ror16 r x) i ≡ bit x ((i + r) % 16)
unfolding ror16
bit-ror16 r x i h = bit_of_bits 16 (λ j. bit x ((j + r) % 16)) i h

-- ---- the update

-- where bit i of an updated word comes from: each half goes round by itself
abbrev pub turned : ℕ → ℕ
turned i = cond (ltb i 16) (ror_in 16 12 i) (ror_in 16 2 i)

pub updated-lt : (w : ℕ) → updated w < 2 ^ 32
unfolding updated
updated-lt w = digits_lt (ror16-lt 2 (digit 65536 w 1)) (ror16-lt 12 (digit 65536 w 0))

bit-updated : (w i : ℕ) → i < 32 → bit (updated w) i ≡ bit w (turned i)
unfolding updated
bit-updated w i h =
    bit_join 16 (ror16 2 (digit 65536 w 1)) (ror16 12 (digit 65536 w 0)) i (ror16-lt 12 (digit 65536 w 0))
    ∙ go (ltb i 16) refl
  where
    go : (t : Bool) → ltb i 16 ≡ t
        → cond t (bit (ror16 12 (digit 65536 w 0)) i) (bit (ror16 2 (digit 65536 w 1)) (i - 16)) ≡ bit w (cond t (ror_in 16 12 i) (ror_in 16 2 i))
    go true e =
        let l : i < 16 = ltb-true i 16 e in
        let place : 16 * 0 + (i + 12) % 16 ≡ ror_in 16 12 i = omega arith in
        bit-ror16 12 (digit 65536 w 0) i l ∙ bit-digit 16 w 0 ((i + 12) % 16) (mod-lt (i + 12) (lit< tt)) ∙ ap (bit w) place
    go false e =
        let l : 16 ≤ i = ltb-false i 16 e in
        let place : 16 * 1 + (i - 16 + 2) % 16 ≡ ror_in 16 2 i = omega arith in
        bit-ror16 2 (digit 65536 w 1) (i - 16) (omega arith) ∙ bit-digit 16 w 1 ((i - 16 + 2) % 16) (mod-lt (i - 16 + 2) (lit< tt))
        ∙ ap (bit w) place

pub updated-move : (w : ℕ) → updated w ≡ permuted turned w
updated-move w =
    bit_ext 32 (updated w) (permuted turned w) (updated-lt w) (permuted-lt turned w) (λ i h. bit-updated w i h ∙ sym (bit-permuted turned w i h))

-- ---- in an arrangement

abbrev turns : ℕ → ℕ → ℕ
turns zero i = i
turns (suc m) i = turns m (turned i)

updates-move : (m : ℕ) (σ : ℕ → ℕ) (x : ℕ) → updates m (permuted σ x) ≡ permuted (λ i. σ (turns m i)) x
unfolding updates
updates-move zero σ x = refl
updates-move (suc m) σ x =
    ap updated (updates-move m σ x) ∙ updated-move (permuted (λ i. σ (turns m i)) x)
    ∙ permuted_then turned (λ i. σ (turns m i)) x (bounded 32 32 turned tt)

abbrev pub later_place : ℕ → ℕ → ℕ → ℕ
later_place k m i = nibble_at (5 - k) (turns m (nibble_at k i))

pub later-move : (k m x : ℕ) → k < 6 → later k m x ≡ permuted (later_place k m) x
unfolding later arranged stands
later-move k m x h =
    ap (permuted (nibble_at k)) (updates-move m (nibble_at (5 - k)) x)
    ∙ permuted_then (nibble_at k) (λ i. nibble_at (5 - k) (turns m i)) x (λ i l. nibble_at-lt k i h l)

pub later-lt : (k m x : ℕ) → later k m x < 2 ^ 32
unfolding later
later-lt k m x = arranged-lt k (updates m (stands k x))

-- ---- the shapes of the updates in both halves: parts that go down or up under a mask

infixl 30 ◌∣◌
abbrev pub ◌∣◌ : W → W → W
a ∣ b = or a b

-- (x >> k) & m
abbrev pub down : ℕ → ℕ → W
down k m = and (shr (var 0) k) (lit m)

-- (x & m) << k
abbrev pub up : ℕ → ℕ → W
up m k = shl (and (var 0) (lit m)) k

-- an expression makes m updates in arrangement k, in both halves, by the test
pub is_later : (k m : ℕ) (e : W) → T (ltb k 6 && is_both (later_place k m) e) → (x : ℕ) → x < 2 ^ 64 → value 64 (x ∷ []) e ≡ in_both (later k m) x
is_later k m e t x h =
    let hk : k < 6 = ltb→lt k 6 (and_left (ltb k 6) (is_both (later_place k m) e) t) in
    moves_both (later_place k m) e (and_right (ltb k 6) (is_both (later_place k m) e) t) x h
    ∙ ap₂ joined (sym (later-move k m (low_of x) hk)) (sym (later-move k m (high_of x) hk))
