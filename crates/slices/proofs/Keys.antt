-- Masks of round words: each is a bit of the word that stands behind it, and in every lane they are the pairs that the words stand for.
use mathlib.Core.Path.{◌≡◌, refl, sym, ap, ap₂, ◌∙◌}
use mathlib.Core.List.{List, [], ◌∷◌, ◌++◌}
use Prim.Native.Nat.{ℕ, zero, suc, ◌+◌, ◌-◌, ◌*◌, ◌/◌, ◌%◌, ◌^◌, ◌≤◌, ◌<◌}
use native.Mathlib.Decide.{dec_lt}
use native.Mathlib.Omega.{arith}
use lib.Dec.{lit<}
use lib.ListN.{length, take, drop, get_or, get_or-append, drop_of_length-le}
use lib.Seq.{drop-cons, get_or-take, get_or-drop, get_or-append-add, ext_get_or, length-take-le}
use Rattle.bits.specs.Digit.{bit, of_bits}
use Rattle.bits.proofs.Bits.{bit_of_bits, of_bits_bit, of_bits_cong, of_bits_lt}
use Rattle.bits.proofs.Fills.{Fills}
use Rattle.bits.proofs.Computed.{agree}
use Rattle.published.specs.Rounds.{P, Pair}
use Rattle.primitives.specs.Words.{permuted}
use Rattle.round_words.specs.Arranged.{N, nibble_at, stands, pairs_from}
use Rattle.slices.specs.InnerMasks.{everywhere, mask_at, listed, masks_of, pair_in, pairs_in}
use Rattle.slices.specs.Inner.{mask_by, MasksBy}
use Rattle.slices.proofs.Flips.{bit-everywhere, mask_is}

-- ---- lists by their places

length-listed : (n : ℕ) (g : ℕ → ℕ) → length (listed n g) ≡ n
unfolding listed
length-listed zero g = refl
length-listed (suc n) g = ap suc (length-listed n (λ i. g (suc i)))

get_or_listed : (n : ℕ) (g : ℕ → ℕ) (i : ℕ) → i < n → get_or (listed n g) i 0 ≡ g i
unfolding listed
get_or_listed zero g i h = absurd (omega arith)
get_or_listed (suc n) g zero h = refl
get_or_listed (suc n) g (suc i) h = get_or_listed n (λ i. g (suc i)) i (omega arith)

pub mask_of : (words : List ℕ) (m : ℕ) → m < 2560 → get_or (masks_of words) m 0 ≡ mask_at words m
unfolding masks_of
mask_of words m h = get_or_listed 2560 (mask_at words) m h

pub masks-length : (words : List ℕ) → length (masks_of words) ≡ 2560
unfolding masks_of
masks-length words = length-listed 2560 (mask_at words)

-- the masks below k are right, and then all
abbrev pub MaskAt : List ℕ → ℕ → ℕ → Type 0
MaskAt words m w = w ≡ mask_at words m

pub all_masks : (words masks : List ℕ) (k : ℕ) → k ≡ 2560 → length masks ≡ 2560 → Fills (λ i. i) (MaskAt words) k masks → masks ≡ masks_of words
unfolding masks_of
all_masks words masks k e len f =
    ext_get_or 0 masks (listed 2560 (mask_at words)) (len ∙ sym (length-listed 2560 (mask_at words)))
    (λ m h. let inside : m < 2560 = omega arith in let below : m < k = omega arith in f.there m below ∙ sym (get_or_listed 2560 (mask_at words) m inside))

-- a part of k more, put behind those that are right
pub fills_part : {R : ℕ → ℕ → Type 0} (a k n : ℕ) (y new rest : List ℕ) → a ≤ length y → length new ≡ k → n ≡ a + k → ((i : ℕ) → i < k → R (a + i) (get_or new i 0))
    → Fills (λ i. i) R a y → Fills (λ i. i) R n (take a y ++ (new ++ rest))
fills_part {R} a k n y new rest h len e right f =
    record {
      there =
          λ i l.
          elim (dec_lt i a) [
            | yes under ↦ rw (get_or-append (take a y) (new ++ rest) 0 i (omega (arith, front)), get_or-take a y i 0 under) (f.there i under)
            | no over ↦
                let j : ℕ = i - a in
                let at : length (take a y) + j ≡ i = omega (arith, front) in
                let place : a + j ≡ i = omega arith in
                let inside : j < length new = omega arith in
                rw (ap (λ (m : ℕ). get_or (take a y ++ (new ++ rest)) m 0) (sym at) ∙ get_or-append-add (take a y) (new ++ rest) j 0 ∙ get_or-append new rest 0 j inside)
                (rw place at (right j (omega arith)))
          ];
    }
  where
    front : length (take a y) ≡ a
    front = length-take-le a y h

-- ---- the masks of a word

-- the values of the bits' places, a row for each arrangement
abbrev pub Places : List (List ℕ) → Type 0
Places places = (m : ℕ) → m < 160 → get_or (get_or places (m / 32) []) (m % 32) 0 ≡ 2 ^ nibble_at (4 - m / 32) (m % 32)

abbrev table : List (List ℕ)
table =
    (0x00000008 ∷ 0x00000080 ∷ 0x00000800 ∷ 0x00008000 ∷ 0x00080000 ∷ 0x00800000 ∷ 0x08000000 ∷ 0x80000000 ∷ 0x00000004 ∷ 0x00000040 ∷ 0x00000400 ∷ 0x00004000 ∷ 0x00040000 ∷ 0x00400000 ∷ 0x04000000 ∷ 0x40000000 ∷ 0x00000002 ∷ 0x00000020 ∷ 0x00000200 ∷ 0x00002000 ∷ 0x00020000 ∷ 0x00200000 ∷ 0x02000000 ∷ 0x20000000 ∷ 0x00000001 ∷ 0x00000010 ∷ 0x00000100 ∷ 0x00001000 ∷ 0x00010000 ∷ 0x00100000 ∷ 0x01000000 ∷ 0x10000000 ∷ [])
    ∷ (0x00008000 ∷ 0x80000000 ∷ 0x00004000 ∷ 0x40000000 ∷ 0x00002000 ∷ 0x20000000 ∷ 0x00001000 ∷ 0x10000000 ∷ 0x00000800 ∷ 0x08000000 ∷ 0x00000400 ∷ 0x04000000 ∷ 0x00000200 ∷ 0x02000000 ∷ 0x00000100 ∷ 0x01000000 ∷ 0x00000080 ∷ 0x00800000 ∷ 0x00000040 ∷ 0x00400000 ∷ 0x00000020 ∷ 0x00200000 ∷ 0x00000010 ∷ 0x00100000 ∷ 0x00000008 ∷ 0x00080000 ∷ 0x00000004 ∷ 0x00040000 ∷ 0x00000002 ∷ 0x00020000 ∷ 0x00000001 ∷ 0x00010000 ∷ [])
    ∷ (0x40000000 ∷ 0x10000000 ∷ 0x04000000 ∷ 0x01000000 ∷ 0x00400000 ∷ 0x00100000 ∷ 0x00040000 ∷ 0x00010000 ∷ 0x00004000 ∷ 0x00001000 ∷ 0x00000400 ∷ 0x00000100 ∷ 0x00000040 ∷ 0x00000010 ∷ 0x00000004 ∷ 0x00000001 ∷ 0x80000000 ∷ 0x20000000 ∷ 0x08000000 ∷ 0x02000000 ∷ 0x00800000 ∷ 0x00200000 ∷ 0x00080000 ∷ 0x00020000 ∷ 0x00008000 ∷ 0x00002000 ∷ 0x00000800 ∷ 0x00000200 ∷ 0x00000080 ∷ 0x00000020 ∷ 0x00000008 ∷ 0x00000002 ∷ [])
    ∷ (0x01000000 ∷ 0x00010000 ∷ 0x00000100 ∷ 0x00000001 ∷ 0x02000000 ∷ 0x00020000 ∷ 0x00000200 ∷ 0x00000002 ∷ 0x04000000 ∷ 0x00040000 ∷ 0x00000400 ∷ 0x00000004 ∷ 0x08000000 ∷ 0x00080000 ∷ 0x00000800 ∷ 0x00000008 ∷ 0x10000000 ∷ 0x00100000 ∷ 0x00001000 ∷ 0x00000010 ∷ 0x20000000 ∷ 0x00200000 ∷ 0x00002000 ∷ 0x00000020 ∷ 0x40000000 ∷ 0x00400000 ∷ 0x00004000 ∷ 0x00000040 ∷ 0x80000000 ∷ 0x00800000 ∷ 0x00008000 ∷ 0x00000080 ∷ [])
    ∷ (0x00000001 ∷ 0x00000002 ∷ 0x00000004 ∷ 0x00000008 ∷ 0x00000010 ∷ 0x00000020 ∷ 0x00000040 ∷ 0x00000080 ∷ 0x00000100 ∷ 0x00000200 ∷ 0x00000400 ∷ 0x00000800 ∷ 0x00001000 ∷ 0x00002000 ∷ 0x00004000 ∷ 0x00008000 ∷ 0x00010000 ∷ 0x00020000 ∷ 0x00040000 ∷ 0x00080000 ∷ 0x00100000 ∷ 0x00200000 ∷ 0x00400000 ∷ 0x00800000 ∷ 0x01000000 ∷ 0x02000000 ∷ 0x04000000 ∷ 0x08000000 ∷ 0x10000000 ∷ 0x20000000 ∷ 0x40000000 ∷ 0x80000000 ∷ [])
    ∷ []

pub places_right : Places table
unfolding nibble_at N P
places_right = agree 160 (λ m. get_or (get_or table (m / 32) []) (m % 32) 0) (λ m. 2 ^ nibble_at (4 - m / 32) (m % 32)) tt

stands_bit : (k w i : ℕ) → k < 5 → i < 32 → bit (stands (suc k) w) i ≡ bit w (nibble_at (4 - k) i)
unfolding stands permuted
stands_bit k w i hk hi = bit_of_bits 32 (λ i. bit w (nibble_at (5 - suc k) i)) i hi ∙ ap (λ (m : ℕ). bit w (nibble_at m i)) less
  where
    less : 5 - suc k ≡ 4 - k
    less = omega arith

pub word-masks : (words : List ℕ) (places : List (List ℕ)) (new : List ℕ) (r : ℕ) → r < 80 → Places places
    → MasksBy (get_or words r 0) (get_or places (r / 2 % 5) []) new → (i : ℕ) → i < 32 → MaskAt words (32 * r + i) (get_or new i 0)
word-masks words places new r hr rule m i hi =
    m.masks i hi
    ∙ ap (mask_by (get_or words r 0)) place
    ∙ mask_is (get_or words r 0) (nibble_at (4 - k) i)
    ∙ ap everywhere (sym (stands_bit k (get_or words r 0) i (omega arith) hi))
    ∙ (λ t. everywhere (bit (stands (suc (round t % 5)) (get_or words (word t) 0)) (at t)))
  where
    k : ℕ
    k = r / 2 % 5

    row : (32 * k + i) / 32 ≡ k
    row = omega arith

    column : (32 * k + i) % 32 ≡ i
    column = omega arith

    place : get_or (get_or places k []) i 0 ≡ 2 ^ nibble_at (4 - k) i
    place = rw (row, column) at (rule (32 * k + i) (omega arith))

    round : r / 2 ≡ (32 * r + i) / 64
    round = omega arith

    word : r ≡ (32 * r + i) / 32
    word = omega arith

    at : i ≡ (32 * r + i) % 32
    at = omega arith

-- ---- the pairs in a lane

stands_lt : (k w : ℕ) → stands k w < 2 ^ 32
unfolding stands permuted
stands_lt k w = of_bits_lt 32 (λ i. bit w (nibble_at (5 - k) i))

module _ (words masks : List ℕ) (is : masks ≡ masks_of words) (b : ℕ) (hb : b < 64) where
  -- the word that 32 masks are in a lane
  word_in : (r h m : ℕ) → r < 40 → h < 2 → ((i : ℕ) → m + i ≡ 32 * h + i) → of_bits 32 (λ i. bit (get_or (take 64 (drop (64 * r) masks)) (m + i) 0) b) ≡ stands (suc (r % 5)) (get_or words (2 * r + h) 0)
  word_in r h m hr hh e =
      of_bits_cong 32 (λ i. bit (get_or (take 64 (drop (64 * r) masks)) (m + i) 0) b) (bit (stands (suc (r % 5)) (get_or words (2 * r + h) 0)))
      (λ i hi.
      let under : m + i < 64 = omega (arith, e i) in
      let inside : 64 * r + (m + i) < 2560 = omega arith in
      ap (λ (w : ℕ). bit w b) (get_or-take 64 (drop (64 * r) masks) (m + i) 0 under ∙ get_or-drop (64 * r) masks (m + i) 0 ∙ ap (λ (l : List ℕ). get_or l (64 * r + (m + i)) 0) is ∙ mask_of words (64 * r + (m + i)) inside)
      ∙ bit-everywhere (bit (stands (suc ((64 * r + (m + i)) / 64 % 5)) (get_or words ((64 * r + (m + i)) / 32) 0)) ((64 * r + (m + i)) % 32)) b hb
      ∙ (λ t. bit (stands (suc (high i under t % 5)) (get_or words (middle i (e i) hi t) 0)) (low i (e i) hi t)))
      ∙ of_bits_bit 32 (stands (suc (r % 5)) (get_or words (2 * r + h) 0)) (stands_lt (suc (r % 5)) (get_or words (2 * r + h) 0))
    where
      high : (i : ℕ) → m + i < 64 → (64 * r + (m + i)) / 64 ≡ r
      high i u = omega arith

      middle : (i : ℕ) → m + i ≡ 32 * h + i → i < 32 → (64 * r + (m + i)) / 32 ≡ 2 * r + h
      middle i f l = omega arith

      low : (i : ℕ) → m + i ≡ 32 * h + i → i < 32 → (64 * r + (m + i)) % 32 ≡ i
      low i f l = omega arith

  -- from round r on
  pairs_by : length words ≡ 80 → (n r : ℕ) → r + n ≡ 40 → pairs_in masks b n r ≡ pairs_from (r % 5) (drop (2 * r) words)
  unfolding pairs_in pairs_from pair_in
  pairs_by len zero r e = let end : length words ≤ 2 * r = omega arith in ap (pairs_from (r % 5)) (sym (drop_of_length-le words end))
  pairs_by len (suc n) r e =
      let one : drop (2 * r) words ≡ get_or words (2 * r) 0 ∷ drop (suc (2 * r)) words = drop-cons words (2 * r) 0 (omega arith) in
      let two : drop (suc (2 * r)) words ≡ get_or words (suc (2 * r)) 0 ∷ drop (suc (suc (2 * r))) words = drop-cons words (suc (2 * r)) 0 (omega arith) in
      let first : 2 * r + 0 ≡ 2 * r = omega arith in
      let second : 2 * r + 1 ≡ suc (2 * r) = omega arith in
      let after : 2 * suc r ≡ suc (suc (2 * r)) = omega arith in
      let next : suc r % 5 ≡ suc (r % 5) % 5 = omega arith in
      let u : of_bits 32 (λ i. bit (get_or (take 64 (drop (64 * r) masks)) (32 + i) 0) b) ≡ stands (suc (r % 5)) (get_or words (suc (2 * r)) 0) =
      word_in r 1 32 (omega arith) (lit< tt) (λ i. refl) ∙ ap (λ (k : ℕ). stands (suc (r % 5)) (get_or words k 0)) second in
      let v : of_bits 32 (λ i. bit (get_or (take 64 (drop (64 * r) masks)) i 0) b) ≡ stands (suc (r % 5)) (get_or words (2 * r) 0) =
      of_bits_cong 32 (λ i. bit (get_or (take 64 (drop (64 * r) masks)) i 0) b) (λ i. bit (get_or (take 64 (drop (64 * r) masks)) (0 + i) 0) b) (λ i h. ap (λ (k : ℕ). bit (get_or (take 64 (drop (64 * r) masks)) k 0) b) (none i))
      ∙ word_in r 0 0 (omega arith) (lit< tt) (λ i. refl) ∙ ap (λ (k : ℕ). stands (suc (r % 5)) (get_or words k 0)) first in
      ap₂ (λ (p : Pair) (ps : List Pair). p ∷ ps) (λ t. record { u = u t; v = v t })
      (pairs_by len n (suc r) (omega arith) ∙ ap₂ (λ (k m : ℕ). pairs_from k (drop m words)) next after)
      ∙ sym (ap (pairs_from (r % 5)) (one ∙ ap (λ (l : List ℕ). get_or words (2 * r) 0 ∷ l) two))
    where
      none : (i : ℕ) → i ≡ 0 + i
      none i = omega arith

  pub pairs_are : length words ≡ 80 → pairs_in masks b 40 0 ≡ pairs_from 0 words
  pairs_are len = pairs_by len 40 0 refl
