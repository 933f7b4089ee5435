-- Blocks in lanes: what is loaded stands in its lane as the order reads it, and what is saved are the bytes that the order writes.
use mathlib.Core.Path.{◌≡◌, sym, ap, ap₂, ◌∙◌}
use mathlib.Core.List.{List, [], ◌∷◌, ◌++◌}
use mathlib.Core.Bool.{Bool, true, false, ◌&&◌, and-false}
use Prim.Native.Nat.{ℕ, zero, suc, ◌+◌, ◌-◌, ◌*◌, ◌/◌, ◌%◌, ◌^◌, ◌≤◌, ◌<◌, min}
use native.Mathlib.Omega.{arith}
use lib.Dec.{T, eqb, ltb, lit<}
use lib.ListN.{length, take, drop, get_or, length-take, length-drop}
use lib.Seq.{take_all, get_or-take, get_or-drop}
use borrow.Author.Tests.{eq-eqb, ne_eqb}
use borrow.Rule.Slice.PartMut.{put_mid}
use Rattle.bits.specs.Digit.{digit, bit, of_bits}
use Rattle.bits.proofs.Digits.{digit_lt}
use Rattle.bits.proofs.Bits.{bit-digit, bit_ext, bit_of_bits, of_bits_bit, of_bits_cong, of_bits_lt}
use Rattle.published.specs.Bytes.{from_bytes, to_bytes, Bytes}
use Rattle.published.specs.Blocks.{joined}
use Rattle.published.specs.Seen.{read_in, write_in}
use Rattle.published.proofs.Gift128.{block-lt}
use Rattle.published.proofs.Reading.{bit-from_bytes, bytes_take, bytes_drop}
use Rattle.published.proofs.Seen.{inwards, outwards}
use Rattle.published.proofs.Groups.{joined_cong, joined-put}
use Rattle.packing.proofs.Laid as put
use Rattle.turning.specs.Slices.{lane, block_at, whole}
use Rattle.turning.specs.Inner.{Turned, Halves, Placed, inward_in, outward_in, pairwise}
use Rattle.turning.proofs.Crossing.{two}
use Rattle.turning.proofs.Passes.{inward-lt, outward-lt}

-- ---- a lane

pub lane_lt : (x : List ℕ) (b : ℕ) → lane x b < 2 ^ 128
unfolding lane
lane_lt x b = of_bits_lt 128 (λ q. bit (get_or x q 0) b)

pub bit-lane : (x : List ℕ) (b q : ℕ) → q < 128 → bit (lane x b) q ≡ bit (get_or x q 0) b
unfolding lane
bit-lane x b q h = bit_of_bits 128 (λ q. bit (get_or x q 0) b) q h

-- ---- orders, as places of a block that is one number

read_is : (order : ℕ) (block : List ℕ) → length block ≡ 16 → Bytes block → read_in order block ≡ of_bits 128 (λ q. bit (from_bytes block) (inward_in order q))
read_is zero block len h = sym (of_bits_bit 128 (from_bytes block) (block-lt block len h))
read_is (suc o) block len h = inwards block len h

write_is : (order x : ℕ) → x < 2 ^ 128 → write_in order x ≡ to_bytes 16 (of_bits 128 (λ p. bit x (outward_in order p)))
write_is zero x h = ap (to_bytes 16) (sym (of_bits_bit 128 x h))
write_is (suc o) x h = outwards x h

-- ---- loading

module _ (bytes : List ℕ) (len : length bytes ≡ 1024) (all : Bytes bytes) where
  block-length : (b : ℕ) → b < 64 → length (block_at bytes b) ≡ 16
  block-length b h = simp (length-take, length-drop) (omega arith)

  byte_of : (b m : ℕ) → m < 16 → get_or (block_at bytes b) m 0 ≡ get_or bytes (16 * b + m) 0
  byte_of b m h = get_or-take 16 (drop (16 * b) bytes) m 0 h ∙ get_or-drop (16 * b) bytes m 0

  block-bytes : (b : ℕ) → Bytes (block_at bytes b)
  block-bytes b = bytes_take 16 (drop (16 * b) bytes) (bytes_drop (16 * b) bytes all)

  -- bit q of block b, in its half
  bit_of : (b q : ℕ) → b < 64 → q < 128
      → bit (get_or bytes (16 * ((2 * b + q / 64) / 2) + 8 * (1 - (2 * b + q / 64) % 2) + (7 - q % 64 / 8)) 0) (q % 64 % 8) ≡ bit (from_bytes (block_at bytes b)) q
  bit_of b q hb hq =
      let size : length (block_at bytes b) ≡ 16 = block-length b hb in
      let room : q < 8 * length (block_at bytes b) = omega arith in
      let under : 15 - q / 8 < 16 = omega arith in
      sym
      (bit-from_bytes (block_at bytes b) (block-bytes b) q room
      ∙ ap (λ (n : ℕ). bit (get_or (block_at bytes b) (n - 1 - q / 8) 0) (q % 8)) size
      ∙ ap (λ (x : ℕ). bit x (q % 8)) (byte_of b (15 - q / 8) under)
      ∙ ap₂ (λ (n i : ℕ). bit (get_or bytes n 0) i) (place b q hq) (within q))
    where
      within : (q : ℕ) → q % 8 ≡ q % 64 % 8
      within q = omega arith

      place : (b q : ℕ) → q < 128 → 16 * b + (15 - q / 8) ≡ 16 * ((2 * b + q / 64) / 2) + 8 * (1 - (2 * b + q / 64) % 2) + (7 - q % 64 / 8)
      place b q h =
          let parts : q ≡ 64 * (q / 64) + q % 64 = omega arith in
          ap (λ (n : ℕ). 16 * b + (15 - n / 8)) parts
          ∙ two (λ k. 16 * b + (15 - (64 * k + q % 64) / 8) ≡ 16 * ((2 * b + k) / 2) + 8 * (1 - (2 * b + k) % 2) + (7 - q % 64 / 8)) (omega arith) (omega arith) (q / 64) (omega arith)

  pub loads : (order : ℕ) (x y z : List ℕ) → Halves bytes x → Turned x y → Placed (inward_in order) y z → (b : ℕ) → b < 64 → lane z b ≡ read_in order (block_at bytes b)
  unfolding lane
  loads order x y z halves turned placed b hb =
      of_bits_cong 128 (λ q. bit (get_or z q 0) b) (λ q. bit (from_bytes (block_at bytes b)) (inward_in order q))
      (λ q hq.
      let p : ℕ = inward_in order q in
      let hp : p < 128 = inward-lt order q hq in
      ap (λ (w : ℕ). bit w b) (placed.placed q hq)
      ∙ turned.turned p b hp hb
      ∙ halves.half (2 * b + p / 64) (p % 64) (omega arith) (omega arith)
      ∙ bit_of b p hb hp)
      ∙ sym (read_is order (block_at bytes b) (block-length b hb) (block-bytes b))

-- ---- saving

-- two halves are the bytes of a number that has their bits
module _ (x high low : ℕ) (up : (p : ℕ) → p < 64 → bit high p ≡ bit x (64 + p)) (down : (p : ℕ) → p < 64 → bit low p ≡ bit x p) where
  byte_up : (m : ℕ) → T (ltb m 8) → digit 256 high m ≡ digit 256 x (8 + m)
  byte_up m t =
      let h : m < 8 = lit< t in
      bit_ext 8 (digit 256 high m) (digit 256 x (8 + m)) (digit_lt 256 (lit< tt) high m) (digit_lt 256 (lit< tt) x (8 + m))
      (λ j l. bit-digit 8 high m j l ∙ up (8 * m + j) (omega arith) ∙ ap (bit x) (place j) ∙ sym (bit-digit 8 x (8 + m) j l))
    where
      place : (j : ℕ) → 64 + (8 * m + j) ≡ 8 * (8 + m) + j
      place j = omega arith

  byte_down : (m : ℕ) → T (ltb m 8) → digit 256 low m ≡ digit 256 x m
  byte_down m t =
      let h : m < 8 = lit< t in
      bit_ext 8 (digit 256 low m) (digit 256 x m) (digit_lt 256 (lit< tt) low m) (digit_lt 256 (lit< tt) x m)
      (λ j l. bit-digit 8 low m j l ∙ down (8 * m + j) (omega arith) ∙ sym (bit-digit 8 x m j l))

  halves-written : to_bytes 8 high ++ to_bytes 8 low ≡ to_bytes 16 x
  unfolding to_bytes
  halves-written =
      λ i.
      byte_up 7 tt i ∷ byte_up 6 tt i ∷ byte_up 5 tt i ∷ byte_up 4 tt i ∷ byte_up 3 tt i ∷ byte_up 2 tt i ∷ byte_up 1 tt i ∷ byte_up 0 tt i
      ∷ byte_down 7 tt i ∷ byte_down 6 tt i ∷ byte_down 5 tt i ∷ byte_down 4 tt i ∷ byte_down 3 tt i ∷ byte_down 2 tt i ∷ byte_down 1 tt i ∷ byte_down 0 tt i
      ∷ []

module _ (order : ℕ) (x y z : List ℕ) (placed : Placed (λ i. outward_in order (pairwise i)) x y) (turned : Turned y z) where
  -- bit p of half h of block b
  bit-half : (h b p : ℕ) → h < 2 → b < 64 → p < 64 → bit (get_or z (b + 64 * h) 0) p ≡ bit (lane x b) (outward_in order (64 * h + p))
  bit-half h b p hh hb hp =
      turned.turned (b + 64 * h) p (omega arith) hp
      ∙ ap₂ (λ (r q : ℕ). bit (get_or y (2 * p + r) 0) q) row column
      ∙ ap (λ (w : ℕ). bit w b) (placed.placed (2 * p + h) (omega arith))
      ∙ ap (λ (i : ℕ). bit (get_or x (outward_in order i) 0) b) pair
      ∙ sym (bit-lane x b (outward_in order (64 * h + p)) (outward-lt order (64 * h + p) (omega arith)))
    where
      row : (b + 64 * h) / 64 ≡ h
      row = omega arith

      column : (b + 64 * h) % 64 ≡ b
      column = omega arith

      pair : pairwise (2 * p + h) ≡ 64 * h + p
      pair = omega arith

  block_saved : (b : ℕ) → b < 64 → to_bytes 8 (get_or z (b + 64) 0) ++ to_bytes 8 (get_or z b 0) ≡ write_in order (lane x b)
  block_saved b hb =
      halves-written m (get_or z (b + 64) 0) (get_or z b 0)
      (λ p l. bit-half 1 b p (lit< tt) hb l ∙ sym (bit-m (64 + p) (omega arith)))
      (λ p l. ap (λ (k : ℕ). bit (get_or z k 0) p) none ∙ bit-half 0 b p (lit< tt) hb l ∙ ap (λ (k : ℕ). bit (lane x b) (outward_in order k)) (zero_plus p) ∙ sym (bit-m p (omega arith)))
      ∙ sym (write_is order (lane x b) (lane_lt x b))
    where
      m : ℕ
      m = of_bits 128 (λ p. bit (lane x b) (outward_in order p))

      bit-m : (p : ℕ) → p < 128 → bit m p ≡ bit (lane x b) (outward_in order p)
      bit-m p h = bit_of_bits 128 (λ p. bit (lane x b) (outward_in order p)) p h

      none : b ≡ b + 64 * 0
      none = omega arith

      zero_plus : (p : ℕ) → 64 * 0 + p ≡ p
      zero_plus p = omega arith

  pub saves : (out : List ℕ) → out ≡ joined 64 (λ b. to_bytes 8 (get_or z (b + 64) 0) ++ to_bytes 8 (get_or z b 0)) → out ≡ joined 64 (λ b. write_in order (lane x b))
  saves out e = e ∙ joined_cong 64 (λ b. to_bytes 8 (get_or z (b + 64) 0) ++ to_bytes 8 (get_or z b 0)) (λ b. write_in order (lane x b)) block_saved

-- eight bytes and then eight, put into a block
pub laid : (a b block x y : List ℕ) → length a ≡ 8 → length block ≡ 16 → x ≡ a → y ≡ b → put_mid 8 (length (x ++ drop 8 block) - 8) (x ++ drop 8 block) y ≡ a ++ b
laid = put.laid

-- block b was put, and then all are
pub block-put : (g : ℕ → List ℕ) (out new rest : List ℕ) (b : ℕ) → 16 * b ≤ length out → length new ≡ 16 → take (16 * b) out ≡ joined b g → new ≡ g b
    → take (16 * (b + 1)) (take (16 * b) out ++ (new ++ rest)) ≡ joined (b + 1) g
block-put g out new rest b h len before here =
    let at : 16 * (b + 1) ≡ 16 * b + 16 = omega arith in
    let next : suc b ≡ b + 1 = omega arith in
    ap (λ (m : ℕ). take m (take (16 * b) out ++ (new ++ rest))) at ∙ joined-put 16 g out new rest b h len before here ∙ ap (λ (m : ℕ). joined m g) next

pub all_blocks : (g : ℕ → List ℕ) (out : List ℕ) (b : ℕ) → b ≡ 64 → length out ≡ 1024 → take (16 * b) out ≡ joined b g → out ≡ joined 64 g
all_blocks g out b e len done = sym (take_all (16 * b) out (omega arith)) ∙ done ∙ ap (λ (m : ℕ). joined m g) e

-- ---- lengths

pub is_whole : (bytes words : ℕ) → bytes ≡ 1024 → words ≡ 128 → whole bytes words ≡ true
is_whole bytes words e f = simp (eq-eqb bytes 1024 e, eq-eqb words 128 f)

pub other_bytes : (bytes words : ℕ) → (bytes ≡ 1024 → ⊥) → whole bytes words ≡ false
other_bytes bytes words n = simp (ne_eqb bytes 1024 n)

pub other_words : (bytes words : ℕ) → (words ≡ 128 → ⊥) → whole bytes words ≡ false
other_words bytes words n = ap (λ (t : Bool). eqb bytes 1024 && t) (ne_eqb words 128 n) ∙ and-false (eqb bytes 1024)

-- every number above 0 is seen as 1
pub read_as : (n order : ℕ) → n ≡ min order 1 → (block : List ℕ) → read_in n block ≡ read_in order block
read_as n zero e block = let same : n ≡ 0 = omega arith in ap (λ (m : ℕ). read_in m block) same
read_as n (suc o) e block = let same : n ≡ 1 = omega arith in ap (λ (m : ℕ). read_in m block) same

pub write_as : (n order : ℕ) → n ≡ min order 1 → (x : ℕ) → write_in n x ≡ write_in order x
write_as n zero e x = let same : n ≡ 0 = omega arith in ap (λ (m : ℕ). write_in m x) same
write_as n (suc o) e x = let same : n ≡ 1 = omega arith in ap (λ (m : ℕ). write_in m x) same
