-- Words filled upward, the two passes over 128 words and what they make together, and words that come from other places.
use mathlib.Core.Path.{◌≡◌, refl, sym, ap, ap₂, ◌∙◌}
use mathlib.Core.List.{List, []}
use Prim.Native.Nat.{ℕ, zero, suc, ◌+◌, ◌-◌, ◌*◌, ◌/◌, ◌%◌, ◌<◌}
use native.Mathlib.Omega.{arith}
use lib.Dec.{lit<}
use lib.ListN.{length, get_or, set, length-set, take, drop, length-take, length-drop}
use lib.Seq.{drop-drop, get_or-take, get_or-drop}
use native.Mathlib.Nat.{mul-zero, mul-suc}
use Rattle.std.proofs.Common.{IsTrue}
use Rattle.std.specs.Int.{w64, from_be_bytes}
use Rattle.std.specs.Simd.{first_chunks}
use Rattle.bits.specs.Digit.{bit}
use Rattle.bits.proofs.Fills.{Fills, fills_up, fills_is, fills_none}
use Rattle.published.specs.Bytes.{Bytes}
use Rattle.published.proofs.Reading.{bit-from_bytes, bytes_take, bytes_drop}
use Rattle.packing.proofs.Small.{reads-eight}
use Rattle.turning.specs.declared.Eight.{Eight}
use Rattle.turning.specs.Inner.{word_of, EightTurned, Passed, is_step, from_in, byte_from, byte_to, bit_from, bit_to, eight_at, eight_put, Turned, Halves, Placed, inward_in, outward_in, pairwise}
use Rattle.turning.proofs.Crossing.{eight, steps}

-- ---- 128 words, the first k of them right

abbrev pub Up : (ℕ → ℕ → Type 0) → ℕ → List ℕ → Type 0
Up R k y = (length y ≡ 128) × Fills (λ i. i) R k y

pub up_none : {R : ℕ → ℕ → Type 0} (y : List ℕ) → length y ≡ 128 → Up R 0 y
up_none y e = (e, fills_none)

pub up_more : {R : ℕ → ℕ → Type 0} {k : ℕ} {y : List ℕ} (at w n : ℕ) → at ≡ k → n ≡ k + 1 → at < 128 → R k w → Up R k y → Up R n (set y at w)
up_more {R} {k} {y} at w n e m h right u =
    let room : at < length y = omega (arith, u.0) in
    (length-set y at w ∙ u.0, fills_is (sym m) (fills_up at w e room right u.1))

-- of the same list
pub up_is : {R : ℕ → ℕ → Type 0} {k : ℕ} {y out : List ℕ} → out ≡ y → Up R k y → Up R k out
up_is e u = rw e u

-- eight more
pub eight_more : {R : ℕ → ℕ → Type 0} (i : ℕ) (y : List ℕ) (t : Eight) → i < 16 → ((k : ℕ) → k < 8 → R (8 * i + k) (word_of t k)) → Up R (8 * i) y
    → Up R (8 * (i + 1)) (eight_put y (8 * i) t)
unfolding eight_put
eight_more {R} i y t h right u =
    up_more (8 * i + 7) t.w7 (8 * (i + 1)) refl (omega arith) (omega arith) (right 7 (lit< tt))
    (up_more (8 * i + 6) t.w6 (8 * i + 7) refl (omega arith) (omega arith) (right 6 (lit< tt))
    (up_more (8 * i + 5) t.w5 (8 * i + 6) refl (omega arith) (omega arith) (right 5 (lit< tt))
    (up_more (8 * i + 4) t.w4 (8 * i + 5) refl (omega arith) (omega arith) (right 4 (lit< tt))
    (up_more (8 * i + 3) t.w3 (8 * i + 4) refl (omega arith) (omega arith) (right 3 (lit< tt))
    (up_more (8 * i + 2) t.w2 (8 * i + 3) refl (omega arith) (omega arith) (right 2 (lit< tt))
    (up_more (8 * i + 1) t.w1 (8 * i + 2) refl (omega arith) (omega arith) (right 1 (lit< tt))
    (up_more (8 * i) t.w0 (8 * i + 1) refl (omega arith) (omega arith) (rw here at (right 0 (lit< tt))) u)))))))
  where
    here : 8 * i + 0 ≡ 8 * i
    here = omega arith

-- ---- a pass

abbrev pub PassedAt : (ℕ → ℕ) → (ℕ → ℕ → ℕ) → List ℕ → ℕ → ℕ → Type 0
PassedAt from to x r w = (p : ℕ) → p < 64 → bit w p ≡ bit (get_or x (r / 8 + 16 * from p) 0) (to (r % 8) p)

words_at : (x : List ℕ) (i k : ℕ) → k < 8 → word_of (eight_at x i) k ≡ get_or x (i + 16 * k) 0
words_at x i = eight (λ k. word_of (eight_at x i) k ≡ get_or x (i + 16 * k) 0) (ap (λ (m : ℕ). get_or x m 0) none) refl refl refl refl refl refl refl
  where
    none : i ≡ i + 16 * 0
    none = omega arith

module _ (from : ℕ → ℕ) (to : ℕ → ℕ → ℕ) (small : (p : ℕ) → p < 64 → from p < 8) where
  pub part : (x : List ℕ) (i : ℕ) (t : Eight) → EightTurned from to (eight_at x i) t → (k : ℕ) → k < 8 → PassedAt from to x (8 * i + k) (word_of t k)
  part x i t e k hk p hp =
      e.turned k p hk hp
      ∙ ap (λ (w : ℕ). bit w (to k p)) (words_at x i (from p) (small p hp))
      ∙ ap₂ (λ (a b : ℕ). bit (get_or x (a + 16 * from p) 0) (to b p)) high low
    where
      high : i ≡ (8 * i + k) / 8
      high = omega arith

      low : k ≡ (8 * i + k) % 8
      low = omega arith

  pub passed : (x y : List ℕ) (k : ℕ) → k ≡ 128 → Up (PassedAt from to x) k y → Passed from to x y
  passed x y k e u = record { turned = λ r p hr hp. u.1.there r (omega arith) p hp }

pub from-small : (s : ℕ) → IsTrue (is_step s) → (p : ℕ) → p < 64 → from_in s p < 8
from-small = steps (λ s. (p : ℕ) → p < 64 → from_in s p < 8) (λ p h. omega arith) (λ p h. omega arith)

-- ---- both passes

pub both_passes : (x y z : List ℕ) → Passed byte_from byte_to x y → Passed bit_from bit_to y z → Turned x z
both_passes x y z wide narrow =
    record {
      turned =
          λ q b hq hb.
          narrow.turned q b hq hb
          ∙ wide.turned (q / 8 + 16 * (b % 8)) (8 * (b / 8) + q % 8) (omega arith) (omega arith)
          ∙ ap₂ (λ (r p : ℕ). bit (get_or x r 0) p) (row q b) (column q b);
    }
  where
    row : (q b : ℕ) → (q / 8 + 16 * (b % 8)) / 8 + 16 * ((8 * (b / 8) + q % 8) / 8) ≡ 2 * b + q / 64
    row q b = omega arith

    column : (q b : ℕ) → 8 * ((q / 8 + 16 * (b % 8)) % 8) + (8 * (b / 8) + q % 8) % 8 ≡ q % 64
    column q b = omega arith

-- ---- halves

abbrev pub HalfAt : List ℕ → ℕ → ℕ → Type 0
HalfAt bytes r w = (p : ℕ) → p < 64 → bit w p ≡ bit (get_or bytes (16 * (r / 2) + 8 * (1 - r % 2) + (7 - p / 8)) 0) (p % 8)

-- the chunks of a list
chunk_at : (n m k : ℕ) (xs : List ℕ) → k < m → get_or (first_chunks n m xs) k [] ≡ take n (drop (n * k) xs)
chunk_at n zero k xs h = absurd (omega arith)
chunk_at n (suc m) zero xs h = rw mul-zero refl
chunk_at n (suc m) (suc k) xs h =
    chunk_at n m k (drop n xs) (omega arith) ∙ ap (take n) (drop-drop (n * k) n xs ∙ ap (λ (j : ℕ). drop j xs) next)
  where
    next : n + n * k ≡ n * suc k
    next = sym (rw mul-suc (omega arith))

-- eight bytes read as a half
pub half_read : (bytes : List ℕ) → length bytes ≡ 1024 → Bytes bytes → (r : ℕ) → r < 128
    → HalfAt bytes r (from_be_bytes w64 (get_or (first_chunks 8 (length bytes / 8) bytes) (r / 2 * 2 + (1 - r % 2)) []))
half_read bytes len all r h p hp =
    let k : ℕ = r / 2 * 2 + (1 - r % 2) in
    let bs : List ℕ = take 8 (drop (8 * k) bytes) in
    let size : length bs ≡ 8 = simp (length-take, length-drop) (omega arith) in
    let here : get_or (first_chunks 8 (length bytes / 8) bytes) k [] ≡ bs = chunk_at 8 (length bytes / 8) k bytes (omega arith) in
    let place : 8 * k + (7 - p / 8) ≡ 16 * (r / 2) + 8 * (1 - r % 2) + (7 - p / 8) = omega arith in
    ap (λ (l : List ℕ). bit (from_be_bytes w64 l) p) here
    ∙ ap (λ (x : ℕ). bit x p) (reads-eight bs size)
    ∙ bit-from_bytes bs (bytes_take 8 (drop (8 * k) bytes) (bytes_drop (8 * k) bytes all)) p (omega arith)
    ∙ ap (λ (n : ℕ). bit (get_or bs (n - 1 - p / 8) 0) (p % 8)) size
    ∙ ap (λ (x : ℕ). bit x (p % 8)) (get_or-take 8 (drop (8 * k) bytes) (7 - p / 8) 0 (omega arith) ∙ get_or-drop (8 * k) bytes (7 - p / 8) 0)
    ∙ ap (λ (n : ℕ). bit (get_or bytes n 0) (p % 8)) place

pub all_halves : (bytes x : List ℕ) (k : ℕ) → k ≡ 128 → Up (HalfAt bytes) k x → Halves bytes x
all_halves bytes x k e u = record { half = λ r p hr hp. u.1.there r (omega arith) p hp }

-- ---- places

abbrev pub PlacedAt : (ℕ → ℕ) → List ℕ → ℕ → ℕ → Type 0
PlacedAt from x i w = w ≡ get_or x (from i) 0

pub all_placed : {from : ℕ → ℕ} {x : List ℕ} (y : List ℕ) (k : ℕ) → k ≡ 128 → Up (PlacedAt from x) k y → Placed from x y
all_placed y k e u = record { placed = λ i h. u.1.there i (omega arith) }

pub inward-lt : (order q : ℕ) → q < 128 → inward_in order q < 128
inward-lt zero q h = h
inward-lt (suc o) q h = omega arith

pub outward-lt : (order p : ℕ) → p < 128 → outward_in order p < 128
outward-lt zero p h = h
outward-lt (suc o) p h = omega arith

pub pairwise-lt : (i : ℕ) → i < 128 → pairwise i < 128
pairwise-lt i h = omega arith
