-- The small facts of document 01 that are marked to be proved, and its list of the 40 constants: one table, one claim. And GIFT-64's, of document 02, likewise.
use mathlib.Core.Bool.{Bool, true, false, ◌&&◌}
use mathlib.Core.List.{List, [], ◌∷◌, ◌++◌, map}
use Prim.Native.Nat.{ℕ, zero, suc, ◌+◌, ◌-◌, ◌*◌, ◌/◌, ◌%◌}
use lib.Dec.{T, eqb}
use lib.ListN.{get_or, replicate, set}
use Rattle.bits.specs.Digit.{digit, number, bit, of_bits}
use Rattle.published.specs.Bytes.{from_bytes, to_bytes}
use Rattle.published.specs.Rounds.{Pair, entry, sub_cells, P, moved, perm_bits, xored, key_bit, constant_bit, step, constant, round, rounds}
use Rattle.published.specs.Key.{ror16, update, pairs}
use Rattle.published.specs.Gift128.{pair_of, pairs_of, rounds128}
use Rattle.published.specs.Gift64.{pair_of64, rounds64}
use Rattle.published.specs.Packing.{word}

-- what is looked at, and what it is to be
infix 20 ◌is◌
record Row : Type 0 where
  got : List ℕ
  want : List ℕ

abbrev ◌is◌ : List ℕ → List ℕ → Row
x is y = record { got = x; want = y }

abbrev same : List ℕ → List ℕ → Bool
same [] [] = true
same [] (y ∷ ys) = false
same (x ∷ xs) [] = false
same (x ∷ xs) (y ∷ ys) = eqb x y && same xs ys

abbrev hold : List Row → Bool
hold [] = true
hold (r ∷ rs) = same r.got r.want && hold rs

-- the n numbers from i
abbrev counted : ℕ → ℕ → List ℕ
counted zero i = []
counted (suc n) i = i ∷ counted n (suc i)

-- sixteen bytes of which only byte i is not zero
abbrev only : ℕ → ℕ → List ℕ
only i b = set (replicate 16 0) i b

abbrev words : List ℕ → List ℕ
words block = map (word 128 (from_bytes block)) (0 ∷ 1 ∷ 2 ∷ 3 ∷ [])

-- V, U of round r, from 1, of the key 00 01 .. 0f
abbrev VU : ℕ → List ℕ
VU r =
    let p : Pair = get_or (pairs_of (counted 16 0)) (r - 1) (record { u = 0; v = 0 }) in
    p.v ∷ p.u ∷ []

abbrev facts : List Row
facts =
    (map entry (0x0 ∷ 0x8 ∷ 0xd ∷ 0xf ∷ []) is 0x1 ∷ 0x2 ∷ 0x0 ∷ 0xe ∷ [])
    ∷ (map (P 128) (0 ∷ 1 ∷ 2 ∷ 3 ∷ []) is 0 ∷ 33 ∷ 66 ∷ 99 ∷ [])
    ∷ (map (P 128) (4 ∷ 5 ∷ 16 ∷ 127 ∷ []) is 96 ∷ 1 ∷ 4 ∷ 31 ∷ [])
    ∷ (map constant (1 ∷ 6 ∷ 40 ∷ []) is 0x01 ∷ 0x3E ∷ 0x1A ∷ [])
    ∷ (words (only 15 0x01) is 1 ∷ 0 ∷ 0 ∷ 0 ∷ [])
    ∷ (words (only 15 0x02) is 0 ∷ 1 ∷ 0 ∷ 0 ∷ [])
    ∷ (words (only 0 0x80) is 0 ∷ 0 ∷ 0 ∷ 0x80000000 ∷ [])
    ∷ (VU 1 is 0x0c0d0e0f ∷ 0x04050607 ∷ [])
    ∷ (VU 2 is 0x08090a0b ∷ 0x00010203 ∷ [])
    ∷ (VU 3 is 0x04050607 ∷ 0x4303e0f0 ∷ [])
    ∷ (VU 5 is 0x4303e0f0 ∷ 0x41016070 ∷ [])
    ∷ (to_bytes 16 (rounds128 (pairs pair_of 1 0) 0 0)
    is (0x91 ∷ replicate 14 0x11) ++ (0x19 ∷ []))
    ∷ (map constant (counted 40 1)
    is 0x01 ∷ 0x03 ∷ 0x07 ∷ 0x0F ∷ 0x1F ∷ 0x3E ∷ 0x3D ∷ 0x3B ∷ 0x37 ∷ 0x2F ∷ 0x1E ∷ 0x3C ∷ 0x39 ∷ 0x33 ∷ 0x27 ∷ 0x0E ∷ 0x1D ∷ 0x3A ∷ 0x35 ∷ 0x2B ∷ 0x16 ∷ 0x2C ∷ 0x18 ∷ 0x30 ∷ 0x21 ∷ 0x02 ∷ 0x05 ∷ 0x0B ∷ 0x17 ∷ 0x2E ∷ 0x1C ∷ 0x38 ∷ 0x31 ∷ 0x23 ∷ 0x06 ∷ 0x0D ∷ 0x1B ∷ 0x36 ∷ 0x2D ∷ 0x1A ∷ [])
    ∷ []

pub small-facts : T (hold facts)
unfolding digit number bit of_bits from_bytes to_bytes entry sub_cells P moved perm_bits xored key_bit constant_bit step constant round rounds ror16 update pairs pair_of pairs_of word
small-facts = tt

-- ---- GIFT-64: document 02's P, at all 64 places the rule at width 64, and one round

abbrev P64 : ℕ → ℕ
P64 i = 4 * (i / 16) + 16 * ((3 * (i % 16 / 4) + i % 4) % 4) + i % 4

abbrev facts64 : List Row
facts64 =
    (map (P 64) (counted 64 0) is map P64 (counted 64 0))
    ∷ (to_bytes 8 (rounds64 (pairs pair_of64 1 0) 0 0)
    is (0x91 ∷ replicate 6 0x11) ++ (0x19 ∷ []))
    ∷ []

pub small_facts_64 : T (hold facts64)
unfolding digit number bit of_bits from_bytes to_bytes entry sub_cells P moved perm_bits xored key_bit constant_bit step constant round rounds ror16 update pairs pair_of64
small_facts_64 = tt
