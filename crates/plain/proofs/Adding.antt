-- Steps 3 and 4 nibble by nibble: what is xored into nibble i, and into those before it.
use mathlib.Core.Path.{◌≡◌, refl, sym, ap, ap₂, ◌∙◌}
use mathlib.Core.Bool.{Bool, true, false, ◌&&◌, ◌||◌}
use Prim.Native.Nat.{ℕ, ◌+◌, ◌-◌, ◌*◌, ◌/◌, ◌%◌, ◌<◌, zero-le}
use native.Mathlib.Decide.{ℕ_discrete, dec_lt}
use native.Mathlib.Omega.{arith}
use lib.Dec.{eqb, ltb, lit<}
use borrow.Author.Tests.{lt-ltb, le-ltb, eq-eqb, ne_eqb, eqb-true}
use Rattle.bits.specs.Digit.{one, bit, ◌⊕◌}
use Rattle.bits.proofs.Bits.{⊕_assoc, ⊕-false, is_one_one}
use Rattle.published.specs.Rounds.{Pair, key_bit, constant_bit}
use Rattle.plain.specs.Inner.{one_at}

-- what f says of the nibbles below i
abbrev pub below : (ℕ → Bool) → ℕ → ℕ → Bool
below f i q = ltb (q / 4) i && f q

pub none_below : (f : ℕ → Bool) (q : ℕ) → below f 0 q ≡ false
none_below f q = ap (λ (t : Bool). t && f q) (le-ltb (q / 4) 0 zero-le)

pub all_below : (f : ℕ → Bool) (l q : ℕ) → q < 4 * l → below f l q ≡ f q
all_below f l q h = ap (λ (t : Bool). t && f q) (lt-ltb (q / 4) l (omega arith))

-- and of one nibble more
below_next : (f : ℕ → Bool) (i q : ℕ) → below f i q ⊕ (eqb (q / 4) i && f q) ≡ below f (i + 1) q
below_next f i q =
    elim (ℕ_discrete (q / 4) i) [
      | yes e ↦ rw (eq-eqb (q / 4) i e, le-ltb (q / 4) i (omega arith), lt-ltb (q / 4) (i + 1) (omega arith))
      | no ne ↦
          elim (dec_lt (q / 4) i) [
            | yes h ↦ rw (ne_eqb (q / 4) i ne, lt-ltb (q / 4) i h, lt-ltb (q / 4) (i + 1) (omega arith)) (⊕-false (f q))
            | no h ↦ rw (ne_eqb (q / 4) i ne, le-ltb (q / 4) i (omega arith), le-ltb (q / 4) (i + 1) (omega arith))
          ]
    ]

-- one bit stands in its nibble and there at its place
in_nibble : (i r b q : ℕ) → r < 4 → one_at (4 * i + r) b q ≡ (eqb (q / 4) i && (eqb (q % 4) r && eqb b 1))
in_nibble i r b q h =
    elim (ℕ_discrete (q / 4) i) [
      | yes e ↦
          elim (ℕ_discrete (q % 4) r) [
            | yes d ↦ rw (eq-eqb q (4 * i + r) (omega arith), eq-eqb (q / 4) i e, eq-eqb (q % 4) r d)
            | no nd ↦ rw (ne_eqb q (4 * i + r) (λ x. nd (omega arith)), eq-eqb (q / 4) i e, ne_eqb (q % 4) r nd)
          ]
      | no ne ↦ rw (ne_eqb q (4 * i + r) (λ x. ne (omega arith)), ne_eqb (q / 4) i ne)
    ]

-- ---- 3. the round key

module _ (j : ℕ) (hj : j < 3) (p : Pair) (i bu bv : ℕ) (eu : bu ≡ one (bit p.u i)) (ev : bv ≡ one (bit p.v i)) where
  one_of_two : (a b u v : Bool) → (a ≡ true → b ≡ true → ⊥) → (a && u) ⊕ (b && v) ≡ (a && u || b && v)
  one_of_two false b u v h = refl
  one_of_two true false false v h = refl
  one_of_two true false true v h = refl
  one_of_two true true u v h = absurd (h refl refl)

  two_bits : (q : ℕ) → one_at (4 * i + j + 1) bu q ⊕ one_at (4 * i + j) bv q ≡ (eqb (q / 4) i && key_bit j p q)
  unfolding key_bit
  two_bits q =
      ap₂ ◌⊕◌ (ap (λ (x : ℕ). one_at x bu q) place ∙ in_nibble i (j + 1) bu q (omega arith)) (in_nibble i j bv q (omega arith))
      ∙ go (eqb (q / 4) i) refl
    where
      place : 4 * i + j + 1 ≡ 4 * i + (j + 1)
      place = omega arith

      told : (w b : ℕ) → b ≡ one (bit w i) → q / 4 ≡ i → eqb b 1 ≡ bit w (q / 4)
      told w b e d = ap (λ (d : ℕ). eqb d 1) e ∙ is_one_one (bit w i) ∙ ap (bit w) (sym d)

      go : (t : Bool) → eqb (q / 4) i ≡ t
          → (t && (eqb (q % 4) (j + 1) && eqb bu 1)) ⊕ (t && (eqb (q % 4) j && eqb bv 1)) ≡ (t && (eqb (q % 4) (j + 1) && bit p.u (q / 4) || eqb (q % 4) j && bit p.v (q / 4)))
      go false e = refl
      go true e =
          let d : q / 4 ≡ i = eqb-true (q / 4) i e in
          ap₂ (λ (x y : Bool). (eqb (q % 4) (j + 1) && x) ⊕ (eqb (q % 4) j && y)) (told p.u bu eu d) (told p.v bv ev d)
          ∙ one_of_two (eqb (q % 4) (j + 1)) (eqb (q % 4) j) (bit p.u (q / 4)) (bit p.v (q / 4)) (λ x y. apart (eqb-true (q % 4) (j + 1) x) (eqb-true (q % 4) j y))
        where
          apart : q % 4 ≡ j + 1 → q % 4 ≡ j → ⊥
          apart x y = omega arith

  pub key_next : (q : ℕ) → below (key_bit j p) i q ⊕ one_at (4 * i + j + 1) bu q ⊕ one_at (4 * i + j) bv q ≡ below (key_bit j p) (i + 1) q
  key_next q =
      ⊕_assoc (below (key_bit j p) i q) (one_at (4 * i + j + 1) bu q) (one_at (4 * i + j) bv q)
      ∙ ap (λ (x : Bool). below (key_bit j p) i q ⊕ x) (two_bits q)
      ∙ below_next (key_bit j p) i q

-- ---- 4. the constant

-- bit i of c is for place 3 of nibble i
abbrev pub constant_at : ℕ → ℕ → Bool
constant_at c q = eqb (q % 4) 3 && bit c (q / 4)

pub constant_next : (c i b : ℕ) → b ≡ one (bit c i) → (q : ℕ) → below (constant_at c) i q ⊕ one_at (4 * i + 3) b q ≡ below (constant_at c) (i + 1) q
constant_next c i b e q =
    ap (λ (x : Bool). below (constant_at c) i q ⊕ x) (in_nibble i 3 b q (lit< tt) ∙ go (eqb (q / 4) i) refl) ∙ below_next (constant_at c) i q
  where
    go : (t : Bool) → eqb (q / 4) i ≡ t → (t && (eqb (q % 4) 3 && eqb b 1)) ≡ (t && (eqb (q % 4) 3 && bit c (q / 4)))
    go false d = refl
    go true d = ap (λ (x : Bool). eqb (q % 4) 3 && x) (ap (λ (d : ℕ). eqb d 1) e ∙ is_one_one (bit c i) ∙ ap (bit c) (sym (eqb-true (q / 4) i d)))

pub constant_whole : (n c q : ℕ) → one_at (n - 1) 1 q ⊕ below (constant_at c) 6 q ≡ constant_bit n c q
unfolding constant_bit
constant_whole n c q = ap₂ ◌⊕◌ (and-true (eqb q (n - 1))) (and-swap (ltb (q / 4) 6) (eqb (q % 4) 3) (bit c (q / 4)))
  where
    and-true : (a : Bool) → (a && true) ≡ a
    and-true false = refl
    and-true true = refl

    and-swap : (a b d : Bool) → (a && (b && d)) ≡ (b && a && d)
    and-swap false false d = refl
    and-swap false true d = refl
    and-swap true false d = refl
    and-swap true true d = refl
