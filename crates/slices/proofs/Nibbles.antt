-- Nibbles of 64 blocks: a box on four slices, and a round but for its constant, done (a scattering by P) and undone (a gathering), nibble by nibble.
use mathlib.Core.Path.{◌≡◌, refl, sym, ap, ap₂, ◌∙◌}
use mathlib.Core.Bool.{Bool, true, false, ◌&&◌, ◌||◌}
use mathlib.Core.List.{List, [], ◌∷◌}
use Prim.Native.Nat.{ℕ, ◌+◌, ◌*◌, ◌/◌, ◌%◌, ◌<◌}
use native.Mathlib.Omega.{arith}
use lib.Bits.{bit_xor}
use lib.Dec.{eqb, lit<}
use lib.ListN.{length, get_or, set, length-set}
use Rattle.bits.specs.Digit.{digit, number, bit, of_bits, ◌⊕◌}
use Rattle.bits.proofs.Digits.{digit_lt}
use Rattle.bits.proofs.Bits.{bit-digit, bit_ext, bit_of_bits, bit-xor, of_bits_lt, ⊕-false}
use Rattle.bits.proofs.Columns.{nibble_at_lem}
use Rattle.bits.proofs.Fills.{Fills, fills_put, fills_up, fills_is}
use Rattle.published.specs.Rounds.{P, entry, sub_cells, perm_bits, xored, key_bit}
use Rattle.published.specs.Inner.{back, unentry, un_perm_bits}
use Rattle.published.proofs.Steps.{width128, entry_lt, unentry-lt, sub_cells-lt, bit-sub_cells, bit-perm_bits, bit-xored, xored-lt}
use Rattle.published.proofs.Words.{four}
use Rattle.turning.specs.Slices.{lane}
use Rattle.turning.proofs.Blocks.{lane_lt, bit-lane}
use Rattle.slices.specs.declared.Nibble.{Nibble}
use Rattle.slices.specs.InnerMasks.{pair_in}
use Rattle.slices.specs.Inner.{Lanes, word_of, nibble_in, Boxed, ScatteredAt, Scattered, keyed, GatheredAt, Gathered, unkeyed}

-- ---- a box, told by its four words

module _ (f : ℕ → ℕ) (s r : Nibble) where
  abbrev column : ℕ → ℕ
  column b = nibble_at_lem s.s0 s.s1 s.s2 s.s3 b

  pub boxed_by : ((b : ℕ) → b < 64 → bit r.s0 b ≡ bit (f (column b)) 0) → ((b : ℕ) → b < 64 → bit r.s1 b ≡ bit (f (column b)) 1)
      → ((b : ℕ) → b < 64 → bit r.s2 b ≡ bit (f (column b)) 2) → ((b : ℕ) → b < 64 → bit r.s3 b ≡ bit (f (column b)) 3) → Boxed f s r
  unfolding nibble_in of_bits number
  boxed_by e0 e1 e2 e3 =
      record { through = λ j b hj hb. four (λ j. bit (word_of r j) b ≡ bit (f (nibble_in s b)) j) (e0 b hb) (e1 b hb) (e2 b hb) (e3 b hb) j hj }

-- the nibble in a lane of four slices is nibble n of z, if their bits are
nibble_is : (s : Nibble) (b z n : ℕ) → ((j : ℕ) → j < 4 → bit (word_of s j) b ≡ bit z (4 * n + j)) → nibble_in s b ≡ digit 16 z n
unfolding nibble_in
nibble_is s b z n e =
    bit_ext 4 (nibble_in s b) (digit 16 z n) (of_bits_lt 4 (λ j. bit (word_of s j) b)) (digit_lt 16 (lit< tt) z n)
    (λ j h. bit_of_bits 4 (λ j. bit (word_of s j) b) j h ∙ e j h ∙ sym (bit-digit 4 z n j h))

-- bit j of the box's answer is bit 4 n + j of z with its nibbles looked up
boxed-bit : (f : ℕ → ℕ) → ((x : ℕ) → x < 16 → f x < 16) → (s t : Nibble) → Boxed f s t → (b z n : ℕ) → b < 64 → n < 32
    → ((j : ℕ) → j < 4 → bit (word_of s j) b ≡ bit z (4 * n + j)) → (j : ℕ) → j < 4 → bit (word_of t j) b ≡ bit (sub_cells f 128 z) (4 * n + j)
boxed-bit f f_lt s t boxed b z n hb hn e j hj =
    boxed.through j b hj hb ∙ ap (λ (x : ℕ). bit (f x) j) (nibble_is s b z n e) ∙ sym (bit-sub_cells 128 width128 f f_lt z n j hn hj)

-- ---- the key's bits

or-false : (x : Bool) → (x || false) ≡ x
or-false false = refl
or-false true = refl

module _ (key : List ℕ) (b : ℕ) where
  bit-v : (i : ℕ) → i < 32 → bit (pair_in key b).v i ≡ bit (get_or key i 0) b
  unfolding pair_in
  bit-v i h = bit_of_bits 32 (λ i. bit (get_or key i 0) b) i h

  bit-u : (i : ℕ) → i < 32 → bit (pair_in key b).u i ≡ bit (get_or key (32 + i) 0) b
  unfolding pair_in
  bit-u i h = bit_of_bits 32 (λ i. bit (get_or key (32 + i) 0) b) i h

  -- what the key puts into bit j of nibble a
  abbrev key_at : ℕ → ℕ → Bool
  key_at a j = get_or (false ∷ bit (get_or key a 0) b ∷ bit (get_or key (32 + a) 0) b ∷ false ∷ []) j false

  key_at_lem : (a j : ℕ) → a < 32 → j < 4 → key_bit 1 (pair_in key b) (4 * a + j) ≡ key_at a j
  unfolding key_bit
  key_at_lem a j ha hj =
      let low : (4 * a + j) % 4 ≡ j = omega arith in
      let high : (4 * a + j) / 4 ≡ a = omega arith in
      rw (low, high)
      (four (λ j. (eqb j 2 && bit (pair_in key b).u a || eqb j 1 && bit (pair_in key b).v a) ≡ key_at a j) refl (bit-v a ha) (or-false (bit (pair_in key b).u a) ∙ bit-u a ha) refl j hj)

-- ---- scattering

P-apart : (i k : ℕ) → i < k → k < 128 → P 128 i ≡ P 128 k → ⊥
P-apart i k h l e =
    let same : i ≡ k = sym (width128.back_P i (omega arith)) ∙ ap (back 128) e ∙ width128.back_P k l in
    omega arith

scattered_put : {x key y : List ℕ} {k : ℕ} (at w n : ℕ) → at ≡ P 128 k → n ≡ k + 1 → k < 128 → ScatteredAt x key k w → Scattered x key k y → Scattered x key n (set y at w)
scattered_put {x} {key} {y} {k} at w n e m h right s =
    let room : at < length y = rw (s.size, e) (width128.P_lt k h) in
    let before : Fills (P 128) (ScatteredAt x key) k y = record { there = s.there } in
    let after : Fills (P 128) (ScatteredAt x key) n (set y at w) = fills_is (sym m) (fills_put at w e room (λ i l. P-apart i k l h) right before) in
    record { size = length-set y at w ∙ s.size; there = after.there }

module _ (x key y : List ℕ) (n a b c d : ℕ) (hn : n < 32) (ea : 4 * a ≡ P 128 (4 * n)) (eb : 4 * b + 1 ≡ P 128 (4 * n + 1)) (ec : 4 * c + 2 ≡ P 128 (4 * n + 2))
    (ed : 4 * d + 3 ≡ P 128 (4 * n + 3)) (ha : a < 32) (hb : b < 32) (hc : c < 32) (hd : d < 32) where
  -- bit j of nibble n goes to bit j of one of the four
  abbrev target : ℕ → ℕ
  target j = get_or (a ∷ b ∷ c ∷ d ∷ []) j 0

  target-lt : (j : ℕ) → j < 4 → target j < 32
  target-lt = four (λ j. target j < 32) ha hb hc hd

  places : (j : ℕ) → j < 4 → 4 * target j + j ≡ P 128 (4 * n + j)
  places = four (λ j. 4 * target j + j ≡ P 128 (4 * n + j)) (plus_none ∙ ea ∙ ap (P 128) (sym none)) eb ec ed
    where
      plus_none : 4 * a + 0 ≡ 4 * a
      plus_none = omega arith

      none : 4 * n + 0 ≡ 4 * n
      none = omega arith

  module _ (t : Nibble) where
    abbrev read : Nibble
    read = record { s0 = get_or x (4 * n) 0; s1 = get_or x (4 * n + 1) 0; s2 = get_or x (4 * n + 2) 0; s3 = get_or x (4 * n + 3) 0 }

    read-bit : (l : ℕ) → (j : ℕ) → j < 4 → bit (word_of read j) l ≡ bit (lane x l) (4 * n + j)
    read-bit l j hj =
        four (λ j. bit (word_of read j) l ≡ bit (get_or x (4 * n + j) 0) l) (ap (λ (m : ℕ). bit (get_or x m 0) l) none) refl refl refl j hj ∙ sym (bit-lane x l (4 * n + j) (omega arith))
      where
        none : 4 * n ≡ 4 * n + 0
        none = omega arith

    -- a word with bit j of the box's answer and the key's bit there
    put-bit : Boxed entry read t → (j w : ℕ) → j < 4 → ((l : ℕ) → l < 64 → bit w l ≡ bit (word_of t j) l ⊕ key_at key l (target j) j) → ScatteredAt x key (4 * n + j) w
    put-bit boxed j w hj e l hl =
        e l hl
        ∙ ap₂ ◌⊕◌ (boxed-bit entry entry_lt read t boxed l (lane x l) n hl hn (read-bit l) j hj)
        (sym (key_at_lem key l (target j) j (target-lt j hj) hj) ∙ ap (key_bit 1 (pair_in key l)) (places j hj))

    pub nibble_scattered : Boxed entry read t → Scattered x key (4 * n) y
        → Scattered x key (4 * n + 4)
        (set (set (set (set y (4 * a) t.s0) (4 * b + 1) (bit_xor t.s1 (get_or key b 0))) (4 * c + 2) (bit_xor t.s2 (get_or key (32 + c) 0))) (4 * d + 3) t.s3)
    nibble_scattered boxed s =
        scattered_put (4 * d + 3) t.s3 (4 * n + 4) ed (omega arith) (omega arith) (put-bit boxed 3 t.s3 (lit< tt) (λ l h. sym (⊕-false (bit t.s3 l))))
        (scattered_put (4 * c + 2) (bit_xor t.s2 (get_or key (32 + c) 0)) (4 * n + 3) ec (omega arith) (omega arith) (put-bit boxed 2 (bit_xor t.s2 (get_or key (32 + c) 0)) (lit< tt) (λ l h. bit-xor t.s2 (get_or key (32 + c) 0) l))
        (scattered_put (4 * b + 1) (bit_xor t.s1 (get_or key b 0)) (4 * n + 2) eb (omega arith) (omega arith) (put-bit boxed 1 (bit_xor t.s1 (get_or key b 0)) (lit< tt) (λ l h. bit-xor t.s1 (get_or key b 0) l))
        (scattered_put (4 * a) t.s0 (4 * n + 1) ea (omega arith) (omega arith) (rw none at (put-bit boxed 0 t.s0 (lit< tt) (λ l h. sym (⊕-false (bit t.s0 l))))) s)))
      where
        none : 4 * n + 0 ≡ 4 * n
        none = omega arith

  -- ---- gathering

  module _ (t : Nibble) where
    abbrev fetched : Nibble
    fetched = record { s0 = get_or x (4 * a) 0; s1 = bit_xor (get_or x (4 * b + 1) 0) (get_or key b 0); s2 = bit_xor (get_or x (4 * c + 2) 0) (get_or key (32 + c) 0); s3 = get_or x (4 * d + 3) 0 }

    abbrev off : ℕ → ℕ
    off l = xored 128 (key_bit 1 (pair_in key l)) (lane x l)

    fetched-word : (l j : ℕ) → j < 4 → bit (word_of fetched j) l ≡ bit (get_or x (4 * target j + j) 0) l ⊕ key_at key l (target j) j
    fetched-word l =
        four (λ j. bit (word_of fetched j) l ≡ bit (get_or x (4 * target j + j) 0) l ⊕ key_at key l (target j) j)
        (sym (⊕-false (bit (get_or x (4 * a + 0) 0) l) ∙ ap (λ (m : ℕ). bit (get_or x m 0) l) none)) (bit-xor (get_or x (4 * b + 1) 0) (get_or key b 0) l) (bit-xor (get_or x (4 * c + 2) 0) (get_or key (32 + c) 0) l)
        (sym (⊕-false (bit (get_or x (4 * d + 3) 0) l)))
      where
        none : 4 * a + 0 ≡ 4 * a
        none = omega arith

    fetched-bit : (l j : ℕ) → j < 4 → bit (word_of fetched j) l ≡ bit (un_perm_bits 128 (off l)) (4 * n + j)
    unfolding un_perm_bits
    fetched-bit l j hj =
        let q : ℕ = 4 * target j + j in
        let hq : q < 128 = omega (arith, target-lt j hj) in
        fetched-word l j hj
        ∙ sym
        (bit_of_bits 128 (λ i. bit (off l) (P 128 i)) (4 * n + j) (omega arith) ∙ ap (bit (off l)) (sym (places j hj))
        ∙ bit-xored 128 (key_bit 1 (pair_in key l)) (lane x l) q hq
        ∙ ap₂ ◌⊕◌ (bit-lane x l q hq) (key_at_lem key l (target j) j (target-lt j hj) hj))

    got-bit : Boxed unentry fetched t → (j : ℕ) → j < 4 → GatheredAt x key (4 * n + j) (word_of t j)
    got-bit boxed j hj l hl = boxed-bit unentry unentry-lt fetched t boxed l (un_perm_bits 128 (off l)) n hl hn (fetched-bit l) j hj

    gathered_put : {z : List ℕ} {k : ℕ} (at w m : ℕ) → at ≡ k → m ≡ k + 1 → k < 128 → GatheredAt x key k w → Gathered x key k z → Gathered x key m (set z at w)
    gathered_put {z} {k} at w m e f h right g =
        let room : at < length z = rw (g.size, e) h in
        let before : Fills (λ i. i) (GatheredAt x key) k z = record { there = g.there } in
        let after : Fills (λ i. i) (GatheredAt x key) m (set z at w) = fills_is (sym f) (fills_up at w e room right before) in
        record { size = length-set z at w ∙ g.size; there = after.there }

    pub nibble_gathered : Boxed unentry fetched t → Gathered x key (4 * n) y
        → Gathered x key (4 * n + 4) (set (set (set (set y (4 * n) t.s0) (4 * n + 1) t.s1) (4 * n + 2) t.s2) (4 * n + 3) t.s3)
    nibble_gathered boxed g =
        gathered_put (4 * n + 3) t.s3 (4 * n + 4) refl (omega arith) (omega arith) (got-bit boxed 3 (lit< tt))
        (gathered_put (4 * n + 2) t.s2 (4 * n + 3) refl (omega arith) (omega arith) (got-bit boxed 2 (lit< tt))
        (gathered_put (4 * n + 1) t.s1 (4 * n + 2) refl (omega arith) (omega arith) (got-bit boxed 1 (lit< tt))
        (gathered_put (4 * n) t.s0 (4 * n + 1) refl (omega arith) (omega arith) (rw none at (got-bit boxed 0 (lit< tt))) g)))
      where
        none : 4 * n + 0 ≡ 4 * n
        none = omega arith

-- ---- all of them

pub all_scattered : (x key y : List ℕ) (k : ℕ) → k ≡ 128 → Scattered x key k y → Lanes (keyed key) x y
all_scattered x key y k e s =
    record {
      size = s.size;
      lanes =
          λ b hb.
          let z : ℕ = perm_bits 128 (sub_cells entry 128 (lane x b)) in
          bit_ext 128 (lane y b) (keyed key b (lane x b)) (lane_lt y b) (xored-lt 128 (key_bit 1 (pair_in key b)) z)
          (λ q hq.
          let came : P 128 (back 128 q) ≡ q = width128.P_back q hq in
          let inside : back 128 q < k = rw e (width128.back_lt q hq) in
          bit-lane y b q hq ∙ ap (λ (i : ℕ). bit (get_or y i 0) b) (sym came)
          ∙ s.there (back 128 q) inside b hb
          ∙ ap₂ ◌⊕◌ (sym (bit-perm_bits 128 width128 (sub_cells entry 128 (lane x b)) q hq)) (ap (key_bit 1 (pair_in key b)) came)
          ∙ sym (bit-xored 128 (key_bit 1 (pair_in key b)) z q hq));
    }

pub all_gathered : (x key y : List ℕ) (k : ℕ) → k ≡ 128 → Gathered x key k y → Lanes (unkeyed key) x y
all_gathered x key y k e g =
    record {
      size = g.size;
      lanes =
          λ b hb.
          bit_ext 128 (lane y b) (unkeyed key b (lane x b)) (lane_lt y b) (sub_cells-lt 128 width128 unentry unentry-lt _)
          (λ q hq. let inside : q < k = rw e hq in bit-lane y b q hq ∙ g.there q inside b hb);
    }
