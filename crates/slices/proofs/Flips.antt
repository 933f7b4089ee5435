-- Words that are masks; slices into which a mask is xored; the constant of a round, and the round, in every lane.
use mathlib.Core.Path.{◌≡◌, refl, sym, ap, ap₂, ◌∙◌}
use mathlib.Core.Bool.{Bool, true, false, cond, ◌&&◌}
use mathlib.Core.List.{List}
use Prim.Native.Nat.{ℕ, zero, suc, ◌+◌, ◌-◌, ◌*◌, ◌/◌, ◌%◌, ◌^◌, ◌<◌, zero-le}
use native.Mathlib.Nat.{zero-mul, one-mul}
use native.Mathlib.Decide.{ℕ_discrete, dec_lt}
use native.Mathlib.Omega.{arith}
use lib.Bits.{bit_and, bit_xor, and_high}
use lib.Dec.{T, eqb, ltb, lit<}
use lib.ListN.{length, get_or, set, length-set}
use lib.Pow.{pow_pos, pow-add}
use lib.Seq.{get_or-set_same, get_or-set_other}
use borrow.Author.Tests.{ne_eqb, lt-ltb, le-ltb}
use Rattle.bits.specs.Digit.{digit, bit, ◌⊕◌}
use Rattle.bits.proofs.Bits.{bit_ext, bit-xor, bit_out, ⊕-false, ⊕_assoc, ⊕_comm}
use Rattle.bits.proofs.Computed.{at}
use Rattle.published.specs.Rounds.{xored, constant_bit, round, unround}
use Rattle.published.specs.Inner.{steps_back}
use Rattle.published.proofs.Steps.{width128, bit-xored, xored-lt}
use Rattle.published.proofs.Undone.{unround_is}
use Rattle.turning.specs.Slices.{lane}
use Rattle.turning.proofs.Blocks.{lane_lt, bit-lane}
use Rattle.slices.specs.InnerMasks.{everywhere, pair_in}
use Rattle.slices.specs.Inner.{Lanes, keyed, unkeyed, constant_bits, mask_by}

-- ---- masks

pub bit-everywhere : (t : Bool) (b : ℕ) → b < 64 → bit (everywhere t) b ≡ t
unfolding bit digit
bit-everywhere false b h = bit_out 0 0 b (lit< tt) zero-le
bit-everywhere true b h = is_true (bit 0xffffffffffffffff b) (at 64 (bit 0xffffffffffffffff) tt b h)
  where
    is_true : (x : Bool) → T x → x ≡ true
    is_true true t = refl
    is_true false t = absurd t

one_bit_of : (w p : ℕ) → bit_and w (2 ^ p) ≡ w / 2 ^ p % 2 * 2 ^ p
one_bit_of w p = ap (bit_and w) (sym double) ∙ and_high w 1 p
  where
    double : 2 ^ (1 + p) - 2 ^ p ≡ 2 ^ p
    double = ap (λ (m : ℕ). m - 2 ^ p) (pow-add 2 1 p) ∙ less (2 ^ p)
      where
        less : (m : ℕ) → 2 ^ 1 * m - m ≡ m
        less m = omega arith

-- the mask by a bit's value is that bit in every place
pub mask_is : (w p : ℕ) → mask_by w (2 ^ p) ≡ everywhere (bit w p)
unfolding bit digit
mask_is w p = ap (λ (m : ℕ). cond (eqb m 0) 0 0xffffffffffffffff) (one_bit_of w p) ∙ go (w / 2 ^ p % 2) (small (w / 2 ^ p))
  where
    small : (m : ℕ) → m % 2 < 2
    small m = omega arith

    go : (d : ℕ) → d < 2 → cond (eqb (d * 2 ^ p) 0) 0 0xffffffffffffffff ≡ everywhere (eqb d 1)
    go zero h = ap (λ (m : ℕ). cond (eqb m 0) 0 0xffffffffffffffff) (zero-mul (2 ^ p))
    go (suc zero) h =
        let some : 0 < 2 ^ p = pow_pos p in
        ap (λ (t : Bool). cond t 0 0xffffffffffffffff) (ne_eqb (1 * 2 ^ p) 0 (λ e. let z : 2 ^ p ≡ 0 = sym (one-mul (2 ^ p)) ∙ e in omega arith))
    go (suc (suc d)) h = absurd (omega arith)

-- ---- lanes

pub lanes_then : {f g : ℕ → ℕ → ℕ} {x y z : List ℕ} → Lanes f x y → Lanes g y z → Lanes (λ b s. g b (f b s)) x z
lanes_then {f} {g} k l = record { size = l.size; lanes = λ b h. l.lanes b h ∙ ap (g b) (k.lanes b h) }

pub lanes_are : {f g : ℕ → ℕ → ℕ} {x y : List ℕ} → ((b : ℕ) → b < 64 → f b (lane x b) ≡ g b (lane x b)) → Lanes f x y → Lanes g x y
lanes_are e l = record { size = l.size; lanes = λ b h. l.lanes b h ∙ e b h }

-- nothing xored in
pub flip_none : (k : ℕ → Bool) (y : List ℕ) → length y ≡ 128 → ((q : ℕ) → k q ≡ false) → Lanes (λ b. xored 128 k) y y
flip_none k y len e =
    record {
      size = len;
      lanes =
          λ b h.
          bit_ext 128 (lane y b) (xored 128 k (lane y b)) (lane_lt y b) (xored-lt 128 k (lane y b))
          (λ q l. sym (bit-xored 128 k (lane y b) q l ∙ ap (λ (t : Bool). bit (lane y b) q ⊕ t) (e q) ∙ ⊕-false (bit (lane y b) q)));
    }

-- a mask xored into one more slice
pub flip : {y₀ y : List ℕ} (k k' : ℕ → Bool) (place m : ℕ) (t : Bool) → place < 128 → ((b : ℕ) → b < 64 → bit m b ≡ t)
    → ((q : ℕ) → (q ≡ place → ⊥) → k' q ≡ k q) → k' place ≡ k place ⊕ t → Lanes (λ b. xored 128 k) y₀ y → Lanes (λ b. xored 128 k') y₀ (set y place (bit_xor (get_or y place 0) m))
flip {y₀} {y} k k' place m t room mask others here l =
    record {
      size = length-set y place (bit_xor (get_or y place 0) m) ∙ l.size;
      lanes =
          λ b h.
          bit_ext 128 (lane (set y place (bit_xor (get_or y place 0) m)) b) (xored 128 k' (lane y₀ b)) (lane_lt (set y place (bit_xor (get_or y place 0) m)) b) (xored-lt 128 k' (lane y₀ b))
          (λ q hq. bit-lane (set y place (bit_xor (get_or y place 0) m)) b q hq ∙ new b h q hq ∙ sym (bit-xored 128 k' (lane y₀ b) q hq));
    }
  where
    fits : place < length y
    fits = rw l.size room

    old : (b : ℕ) → b < 64 → (q : ℕ) → q < 128 → bit (get_or y q 0) b ≡ bit (lane y₀ b) q ⊕ k q
    old b h q hq = sym (bit-lane y b q hq) ∙ ap (λ (s : ℕ). bit s q) (l.lanes b h) ∙ bit-xored 128 k (lane y₀ b) q hq

    new : (b : ℕ) → b < 64 → (q : ℕ) → q < 128 → bit (get_or (set y place (bit_xor (get_or y place 0) m)) q 0) b ≡ bit (lane y₀ b) q ⊕ k' q
    new b h q hq =
        elim (ℕ_discrete q place) [
          | yes e ↦
              rw e
              (ap (λ (w : ℕ). bit w b) (get_or-set_same y place (bit_xor (get_or y place 0) m) 0 fits) ∙ bit-xor (get_or y place 0) m b
              ∙ ap₂ ◌⊕◌ (old b h place room) (mask b h)
              ∙ ⊕_assoc (bit (lane y₀ b) place) (k place) t
              ∙ ap (λ (u : Bool). bit (lane y₀ b) place ⊕ u) (sym here))
          | no ne ↦
              ap (λ (w : ℕ). bit w b) (get_or-set_other y place q (bit_xor (get_or y place 0) m) 0 ne) ∙ old b h q hq
              ∙ ap (λ (u : Bool). bit (lane y₀ b) q ⊕ u) (sym (others q ne))
        ]

-- ---- the constant: its bits one after the other, and the highest bit

and-false : (a : Bool) → (a && false) ≡ false
and-false false = refl
and-false true = refl

pub no_bits : (c q : ℕ) → constant_bits 0 c q ≡ false
no_bits c q = ap (λ (t : Bool). eqb (q % 4) 3 && t && bit c (q / 4)) (le-ltb (q / 4) 0 zero-le) ∙ ap (λ (t : Bool). t && bit c (q / 4)) (and-false (eqb (q % 4) 3))

pub next_others : (i c q : ℕ) → (q ≡ 4 * i + 3 → ⊥) → constant_bits (i + 1) c q ≡ constant_bits i c q
next_others i c q ne =
    elim (ℕ_discrete (q % 4) 3) [
      | yes e ↦ ap (λ (t : Bool). eqb (q % 4) 3 && t && bit c (q / 4)) (same (λ f. ne (omega arith)))
      | no f ↦ ap (λ (t : Bool). t && ltb (q / 4) (i + 1) && bit c (q / 4)) (ne_eqb (q % 4) 3 f) ∙ sym (ap (λ (t : Bool). t && ltb (q / 4) i && bit c (q / 4)) (ne_eqb (q % 4) 3 f))
    ]
  where
    same : (q / 4 ≡ i → ⊥) → ltb (q / 4) (i + 1) ≡ ltb (q / 4) i
    same f =
        elim (dec_lt (q / 4) i) [
          | yes l ↦ lt-ltb (q / 4) (i + 1) (omega arith) ∙ sym (lt-ltb (q / 4) i l)
          | no l ↦ le-ltb (q / 4) (i + 1) (omega arith) ∙ sym (le-ltb (q / 4) i (omega arith))
        ]

pub next_here : (i c : ℕ) → constant_bits (i + 1) c (4 * i + 3) ≡ constant_bits i c (4 * i + 3) ⊕ bit c i
next_here i c =
    let low : (4 * i + 3) % 4 ≡ 3 = omega arith in
    let high : (4 * i + 3) / 4 ≡ i = omega arith in
    rw (low, high, lt-ltb i (i + 1) (omega arith), le-ltb i i (omega arith))

pub highest_others : (q : ℕ) → (q ≡ 127 → ⊥) → eqb q 127 ≡ false
highest_others q ne = ne_eqb q 127 ne

both_parts : (c s : ℕ) → xored 128 (λ q. eqb q 127) (xored 128 (constant_bits 6 c) s) ≡ xored 128 (constant_bit 128 c) s
unfolding constant_bit
both_parts c s =
    bit_ext 128 (xored 128 (λ q. eqb q 127) (xored 128 (constant_bits 6 c) s)) (xored 128 (constant_bit 128 c) s) (xored-lt 128 (λ q. eqb q 127) (xored 128 (constant_bits 6 c) s)) (xored-lt 128 (constant_bit 128 c) s)
    (λ q h.
    bit-xored 128 (λ q. eqb q 127) (xored 128 (constant_bits 6 c) s) q h ∙ ap (λ (t : Bool). t ⊕ eqb q 127) (bit-xored 128 (constant_bits 6 c) s q h)
    ∙ ⊕_assoc (bit s q) (constant_bits 6 c q) (eqb q 127)
    ∙ ap (λ (t : Bool). bit s q ⊕ t) (⊕_comm (constant_bits 6 c q) (eqb q 127))
    ∙ sym (bit-xored 128 (constant_bit 128 c) s q h))

pub constant_added : (c : ℕ) {x y z : List ℕ} → Lanes (λ b. xored 128 (constant_bits 6 c)) x y → Lanes (λ b. xored 128 (λ q. eqb q 127)) y z → Lanes (λ b. xored 128 (constant_bit 128 c)) x z
constant_added c {x} k l = lanes_are (λ b h. both_parts c (lane x b)) (lanes_then k l)

-- ---- a round

pub round_made : (key : List ℕ) (c : ℕ) {x y z : List ℕ} → Lanes (keyed key) x y → Lanes (λ b. xored 128 (constant_bit 128 c)) y z → Lanes (λ b. round 128 1 (pair_in key b) c) x z
unfolding round
round_made key c k l = lanes_then k l

pub round-unmade : (key : List ℕ) (c : ℕ) {x y z : List ℕ} → Lanes (λ b. xored 128 (constant_bit 128 c)) x y → Lanes (unkeyed key) y z → Lanes (λ b. unround 128 1 (pair_in key b) c) x z
unfolding steps_back
round-unmade key c {x} k l = lanes_are (λ b h. sym (unround_is 128 1 width128 (pair_in key b) c (lane x b) (lane_lt x b))) (lanes_then k l)
