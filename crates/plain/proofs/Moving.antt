-- Step 2 bit by bit: a bit is put where none stands yet, in nibbles that were zero, the bits below i having been moved.
use mathlib.Core.Path.{◌≡◌, refl, sym, ap, ap₂, ◌∙◌}
use mathlib.Core.Bool.{Bool, false, ◌&&◌}
use mathlib.Core.List.{List}
use Prim.Native.Nat.{ℕ, ◌+◌, ◌*◌, ◌^◌, ◌≤◌, ◌<◌}
use native.Mathlib.Nat.{lt_of_lt_of_le, le_refl, le_of_suc-le}
use native.Mathlib.Numerals.{add-one}
use lib.Dec.{eqb, ltb}
use lib.ListN.{replicate}
use lib.Pow.{pow_mono}
use borrow.Author.Tests.{le-ltb, eq-eqb, ne_eqb}
use Rattle.bits.specs.Digit.{digit, number, one, bit, of_bits, ◌⊕◌}
use Rattle.bits.proofs.Bits.{bit_of_bits, bit_out, is_one_one, of_bits_bit, of_bits_lt, of_bits_put, ⊕-false}
use Rattle.published.specs.Rounds.{P, moved, xored}
use Rattle.published.specs.Inner.{back}
use Rattle.published.proofs.Steps.{Width, moved-low}
use Rattle.plain.specs.Inner.{nibbles_of, by, one_at}
use Rattle.plain.proofs.Nibbles.{length-nibbles_of, state_of_nibbles_of}

-- xoring a bit in where none stands adds it
flip_adds : (n q b y : ℕ) (v : Bool) → y < 2 ^ n → q < n → bit y q ≡ false → b ≡ one v → xored n (one_at q b) y ≡ one v * 2 ^ q + y
unfolding xored
flip_adds n q b y v h l z e =
    of_bits_put n q (λ p. bit y p ⊕ one_at q b p) (bit y) l z
    (λ p k ne. ap (λ (t : Bool). bit y p ⊕ (t && eqb b 1)) (ne_eqb p q ne) ∙ ⊕-false (bit y p))
    ∙ ap₂ (λ (g : Bool) (m : ℕ). one g * 2 ^ q + m)
    (ap₂ (λ (x t : Bool). x ⊕ (t && eqb b 1)) z (eq-eqb q q refl) ∙ ap (λ (d : ℕ). eqb d 1) e ∙ is_one_one v)
    (of_bits_bit n y h)

put : {m next : List ℕ} (y q b : ℕ) (v : Bool) → y < 2 ^ 128 → q < 128 → bit y q ≡ false → m ≡ nibbles_of 32 y → b ≡ one v
    → next ≡ by (λ n. xored n (one_at q b)) m → next ≡ nibbles_of 32 (one v * 2 ^ q + y)
put y q b v h l z before e flip =
    flip ∙ ap (by (λ n. xored n (one_at q b))) before
    ∙ ap₂ (λ (k x : ℕ). nibbles_of k (xored (4 * k) (one_at q b) x)) (length-nibbles_of 32 y) (state_of_nibbles_of 32 y h)
    ∙ ap (nibbles_of 32) (flip_adds 128 q b y v h l z e)

pub zeros : replicate 32 0 ≡ nibbles_of 32 0
unfolding nibbles_of digit
zeros = refl

module _ (n : ℕ) (ok : Width n) (most : n ≤ 128) (x : ℕ) where
  wide : {y : ℕ} → y < 2 ^ n → y < 2 ^ 128
  wide h = lt_of_lt_of_le h (pow_mono most)

  -- ---- bit i moves to P(i)

  moved-lt : (i : ℕ) → i ≤ n → moved (P n) i x < 2 ^ 128
  moved-lt i h = wide (rw (moved-low n ok i x h) (of_bits_lt n (λ q. ltb (back n q) i && bit x (back n q))))

  free : (i : ℕ) → i < n → bit (moved (P n) i x) (P n i) ≡ false
  free i h =
      ap (λ (y : ℕ). bit y (P n i)) (moved-low n ok i x (le_of_suc-le h))
      ∙ bit_of_bits n (λ q. ltb (back n q) i && bit x (back n q)) (P n i) (ok.P_lt i h)
      ∙ ap (λ (t : Bool). t && bit x (back n (P n i))) (ap (λ (k : ℕ). ltb k i) (ok.back_P i h) ∙ le-ltb i i (le_refl i))

  pub moved_next : {m next : List ℕ} (i b : ℕ) → i < n → m ≡ nibbles_of 32 (moved (P n) i x) → b ≡ one (bit x i)
      → next ≡ by (λ k. xored k (one_at (P n i) b)) m → next ≡ nibbles_of 32 (moved (P n) (i + 1) x)
  unfolding moved
  moved_next i b h before e flip =
      put (moved (P n) i x) (P n i) b (bit x i) (moved-lt i (le_of_suc-le h)) (lt_of_lt_of_le (ok.P_lt i h) most) (free i h) before e flip
      ∙ ap (λ (k : ℕ). nibbles_of 32 (moved (P n) k x)) (sym (add-one i))

  -- ---- and back

  pub unmoved_next : {m next : List ℕ} (i b : ℕ) → i < n → m ≡ nibbles_of 32 (of_bits i (λ k. bit x (P n k))) → b ≡ one (bit x (P n i))
      → next ≡ by (λ k. xored k (one_at i b)) m → next ≡ nibbles_of 32 (of_bits (i + 1) (λ k. bit x (P n k)))
  unfolding of_bits number
  unmoved_next i b h before e flip =
      let low : of_bits i (λ k. bit x (P n k)) < 2 ^ i = of_bits_lt i (λ k. bit x (P n k)) in
      put (of_bits i (λ k. bit x (P n k))) i b (bit x (P n i)) (wide (lt_of_lt_of_le low (pow_mono (le_of_suc-le h)))) (lt_of_lt_of_le h most)
      (bit_out i (of_bits i (λ k. bit x (P n k))) i low (le_refl i)) before e flip
      ∙ ap (λ (k : ℕ). nibbles_of 32 (of_bits k (λ l. bit x (P n l)))) (sym (add-one i))
