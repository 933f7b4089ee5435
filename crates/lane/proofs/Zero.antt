-- A record that is all zero: as numbers or-ed together tell it, and that it is the idle one.
use mathlib.Core.Path.{◌≡◌, refl, sym, ap, ◌∙◌}
use mathlib.Core.Bool.{true, ◌&&◌, and-true, and_assoc}
use mathlib.Core.List.{List, [], ◌∷◌}
use Prim.Native.Nat.{ℕ, zero, suc, ◌+◌, ◌≤◌, ◌<◌}
use native.Mathlib.Numerals.{add-one}
use native.Mathlib.Decide.{ℕ_discrete}
use native.Mathlib.Omega.{arith}
use lib.Bits.{bit_or, or_zero_l, or_add_and, and_le_r}
use lib.Dec.{eqb}
use lib.ListN.{length, get_or, drop, replicate, drop_of_length-le}
use lib.Seq.{drop-cons}
use borrow.Author.Tests.{eqb-true, ne_eqb}
use Rattle.bits.proofs.Truth.{both}
use Rattle.lane.specs.declared.Lane.{Lane}
use Rattle.lane.specs.Record.{idle_lane, everything, all_zero}

pub or_nothing : (a b : ℕ) → eqb (bit_or a b) 0 ≡ (eqb a 0 && eqb b 0)
or_nothing a b =
    elim (ℕ_discrete a 0) [
      | yes e ↦ rw e (ap (λ (n : ℕ). eqb n 0) (or_zero_l b))
      | no ne ↦ rw (ne_eqb a 0 ne) (ne_eqb (bit_or a b) 0 (λ z. ne (omega (arith, z, or_add_and a b, and_le_r a b))))
    ]

-- or-ing the words one by one
module _ (ws : List ℕ) (bits i : ℕ) (so_far : (eqb bits 0 && all_zero (drop i ws)) ≡ all_zero ws) where
  pub zero_more : i < length ws → (eqb (bit_or bits (get_or ws i 0)) 0 && all_zero (drop (i + 1) ws)) ≡ all_zero ws
  unfolding all_zero
  zero_more h =
      (λ k. or_nothing bits (get_or ws i 0) k && all_zero (drop (add-one i k) ws)) ∙ and_assoc (eqb bits 0) (eqb (get_or ws i 0) 0) (all_zero (drop (suc i) ws))
      ∙ ap (λ (l : List ℕ). eqb bits 0 && all_zero l) (sym (drop-cons ws i 0 h)) ∙ so_far

  pub zero-end : length ws ≤ i → eqb bits 0 ≡ all_zero ws
  unfolding all_zero
  zero-end h = sym (and-true (eqb bits 0)) ∙ ap (λ (l : List ℕ). eqb bits 0 && all_zero l) (sym (drop_of_length-le ws h)) ∙ so_far

-- or-ing everything in a record
pub zero_or : (l : Lane) (w : ℕ) → eqb w 0 ≡ all_zero l.words
    → eqb (bit_or (bit_or (bit_or (bit_or (bit_or (bit_or l.phase l.direction) l.owner) l.count) l.order) (bit_or (bit_or (bit_or l.state.s0 l.state.s1) l.state.s2) l.state.s3)) w) 0
    ≡ all_zero (everything l)
unfolding everything all_zero
zero_or l w e = simp (or_nothing, and_assoc, e)

-- ---- words that are all zero are zeros, and so is a record

zeros : (ws : List ℕ) → all_zero ws ≡ true → ws ≡ replicate (length ws) 0
unfolding all_zero
zeros [] e = refl
zeros (w ∷ ws) e =
    let p = both (eqb w 0) (all_zero ws) e in
    λ i. eqb-true w 0 p.0 i ∷ zeros ws p.1 i

pub all_zeros : (k : ℕ) → all_zero (replicate k 0) ≡ true
unfolding all_zero
all_zeros zero = refl
all_zeros (suc k) = all_zeros k

pub zero_is_idle : (l : Lane) → length l.words ≡ 80 → all_zero (everything l) ≡ true → l ≡ idle_lane
unfolding idle_lane everything all_zero
zero_is_idle l long e =
    let p1 = both (eqb l.phase 0) _ e in
    let p2 = both (eqb l.direction 0) _ p1.1 in
    let p3 = both (eqb l.owner 0) _ p2.1 in
    let p4 = both (eqb l.count 0) _ p3.1 in
    let p5 = both (eqb l.order 0) _ p4.1 in
    let p6 = both (eqb l.state.s0 0) _ p5.1 in
    let p7 = both (eqb l.state.s1 0) _ p6.1 in
    let p8 = both (eqb l.state.s2 0) _ p7.1 in
    let p9 = both (eqb l.state.s3 0) (all_zero l.words) p8.1 in
    λ i. record {
      phase = eqb-true l.phase 0 p1.0 i;
      direction = eqb-true l.direction 0 p2.0 i;
      owner = eqb-true l.owner 0 p3.0 i;
      count = eqb-true l.count 0 p4.0 i;
      order = eqb-true l.order 0 p5.0 i;
      words = (zeros l.words p9.1 ∙ ap (λ (n : ℕ). replicate n 0) long) i;
      state = record {
        s0 = eqb-true l.state.s0 0 p6.0 i;
        s1 = eqb-true l.state.s1 0 p7.0 i;
        s2 = eqb-true l.state.s2 0 p8.0 i;
        s3 = eqb-true l.state.s3 0 p9.0 i;
      };
    }

pub idle_is_zero : all_zero (everything idle_lane) ≡ true
unfolding idle_lane everything all_zero
idle_is_zero = all_zeros 80
