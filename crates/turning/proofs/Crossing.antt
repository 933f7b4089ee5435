-- One exchange between two words, a level of four of them on eight words, and three levels: where the bit at a place comes from.
use mathlib.Core.Path.{subst, ◌≡◌, refl, sym, ap, ap₂, ◌∙◌}
use mathlib.Core.Bool.{Bool, true, false, not, cond, ◌&&◌, ◌||◌}
use mathlib.Core.List.{[], ◌∷◌}
use Prim.Native.Nat.{ℕ, zero, suc, ◌+◌, ◌-◌, ◌*◌, ◌/◌, ◌%◌, ◌^◌, ◌≤◌, ◌<◌}
use native.Mathlib.Nat.{mul-add-div_right, div-eq_of_lt, one-mul, mul-zero, mul-one, add-zero, sub-zero}
use native.Mathlib.Decide.{dec_le}
use native.Mathlib.Omega.{arith}
use lib.Bits.{bit_and, bit_xor}
use lib.Dec.{T, eqb, eqb→eq, ltb, ltb→lt}
use lib.ListN.{get_or}
use borrow.Author.Tests.{le-leb, lt-leb, eqb-true}
use Rattle.std.proofs.Common.{IsTrue, rules}
use Rattle.std.proofs.lemmas.Bool.Decides.{nat_tests}
use Rattle.bits.specs.Digit.{bit, of_bits, number, ◌⊕◌}
use Rattle.bits.proofs.Bits.{bit_of_bits, bit_shr, bit_shl_cut, bit-and, bit-xor, ⊕-false}
use Rattle.bits.proofs.Computed.{below, at, and_left, and_right}
use Rattle.turning.specs.declared.Eight.{Eight}
use Rattle.turning.specs.declared.Two.{Two}
use Rattle.turning.specs.Inner.{is_level, is_step, lower, Crossed, word_of, EightTurned}

pub two : (P : ℕ → Type 0) → P 0 → P 1 → (d : ℕ) → d < 2 → P d
two P a b zero h = a
two P a b (suc zero) h = b
two P a b (suc (suc d)) h = absurd (omega arith)

pub eight : (P : ℕ → Type 0) → P 0 → P 1 → P 2 → P 3 → P 4 → P 5 → P 6 → P 7 → (k : ℕ) → k < 8 → P k
eight P a b c d e f g h zero l = a
eight P a b c d e f g h (suc zero) l = b
eight P a b c d e f g h (suc (suc zero)) l = c
eight P a b c d e f g h (suc (suc (suc zero))) l = d
eight P a b c d e f g h (suc (suc (suc (suc zero)))) l = e
eight P a b c d e f g h (suc (suc (suc (suc (suc zero))))) l = f
eight P a b c d e f g h (suc (suc (suc (suc (suc (suc zero)))))) l = g
eight P a b c d e f g h (suc (suc (suc (suc (suc (suc (suc zero))))))) l = h
eight P a b c d e f g h (suc (suc (suc (suc (suc (suc (suc (suc k)))))))) l = absurd (omega arith)

-- ---- levels and steps

-- the mask of a level, as the code has it
abbrev pub mask_of : ℕ → ℕ
mask_of n = 18446744073709551615 / (1 * 2 ^ n % 18446744073709551616 + 1)

pub level-small : (n : ℕ) → IsTrue (is_level n) → (0 < n) × (n < 33)
level-small n t = grind (arith, nat_tests)

pub mask_is : (n : ℕ) → IsTrue (is_level n) → mask_of n ≡ lower n
unfolding lower of_bits number
mask_is n t = eqb→eq (mask_of n) (lower n) (passed (is_level n) (eqb (mask_of n) (lower n)) t (at 33 (λ m. not (is_level m) || eqb (mask_of m) (lower m)) tt n (level-small n t).1))
  where
    passed : (b c : Bool) → IsTrue b → T (not b || c) → T c
    passed true c e t = t
    passed false c e t = search rules

-- what holds of both steps holds of a step
pub steps : (P : ℕ → Type 0) → P 8 → P 1 → (s : ℕ) → IsTrue (is_step s) → P s
steps P a b s t = go (eqb s 8) (eqb s 1) refl refl t
  where
    go : (u v : Bool) → eqb s 8 ≡ u → eqb s 1 ≡ v → IsTrue (u || v) → P s
    go true v e f h = subst P (sym (eqb-true s 8 e)) a
    go false true e f h = subst P (sym (eqb-true s 1 f)) b
    go false false e f h = search rules

-- ---- one exchange

-- y with x xored in by way of t, if e; and x with y, if not
taken : (x y e : Bool) → y ⊕ ((x ⊕ y) && e) ≡ cond e x y
taken false false false = refl
taken false false true = refl
taken false true false = refl
taken false true true = refl
taken true false false = refl
taken true false true = refl
taken true true false = refl
taken true true true = refl

given : (x y e : Bool) → x ⊕ ((x ⊕ y) && not e) ≡ cond e x y
given false false false = refl
given false false true = refl
given false true false = refl
given false true true = refl
given true false false = refl
given true false true = refl
given true true false = refl
given true true true = refl

-- what a test of a figure picks
picks : (a b n p d : ℕ) → d < 2 → cond (eqb d 0) (bit a p) (bit b (p - n)) ≡ bit (get_or (a ∷ b ∷ []) d 0) (p - n * d)
picks a b n p =
    two (λ d. cond (eqb d 0) (bit a p) (bit b (p - n)) ≡ bit (get_or (a ∷ b ∷ []) d 0) (p - n * d))
    (ap (bit a) (sym (ap (λ (m : ℕ). p - m) (mul-zero n) ∙ sub-zero p))) (ap (λ (m : ℕ). bit b (p - m)) (sym (mul-one n)))

picks_up : (a b n p d : ℕ) → (d ≡ 1 → n ≤ p) → d < 2 → cond (eqb d 0) (bit a (n + p)) (bit b p) ≡ bit (get_or (a ∷ b ∷ []) d 0) (p - n * d + n)
picks_up a b n p zero h l = ap (bit a) (sym (ap (λ (m : ℕ). p - m + n) (mul-zero n) ∙ low))
  where
    low : p - 0 + n ≡ n + p
    low = omega arith
picks_up a b n p (suc zero) h l = let fits : n ≤ p = h refl in ap (bit b) (sym (ap (λ (m : ℕ). p - m + n) (mul-one n) ∙ back fits))
  where
    back : n ≤ p → p - n + n ≡ p
    back f = omega arith
picks_up a b n p (suc (suc d)) h l = absurd (omega arith)

module _ (n : ℕ) (pos : 0 < n) (a b : ℕ) where
  abbrev pub t : ℕ
  t = bit_and (bit_xor (a / 2 ^ n) b) (lower n)

  bit-t : (s : ℕ) → s < 64 → bit t s ≡ (bit a (n + s) ⊕ bit b s) && eqb (s / n % 2) 0
  unfolding lower
  bit-t s h =
      bit-and (bit_xor (a / 2 ^ n) b) (lower n) s
      ∙ ap₂ ◌&&◌ (bit-xor (a / 2 ^ n) b s ∙ ap (λ (x : Bool). x ⊕ bit b s) (bit_shr a n s)) (bit_of_bits 64 (λ p. eqb (p / n % 2) 0) s h)

  -- n places lower the figure is the other one
  less : (p : ℕ) → n ≤ p → p / n ≡ 1 + (p - n) / n
  less p h = ap (λ (m : ℕ). m / n) (again ∙ ap (λ (m : ℕ). m + (p - n)) (sym (one-mul n))) ∙ mul-add-div_right pos 1 (p - n)
    where
      again : p ≡ n + (p - n)
      again = omega arith

  other : (u v : ℕ) → u ≡ 1 + v → eqb (v % 2) 0 ≡ not (eqb (u % 2) 0)
  other u v e = go (v % 2) refl
    where
      go : (d : ℕ) → v % 2 ≡ d → eqb (v % 2) 0 ≡ not (eqb (u % 2) 0)
      go zero f = let g : u % 2 ≡ 1 = omega arith in rw (f, g)
      go (suc zero) f = let g : u % 2 ≡ 0 = omega arith in rw (f, g)
      go (suc (suc d)) f = absurd (omega arith)

  first_bit : (p : ℕ) → p < 64 → bit (bit_xor a (t * 2 ^ n % 2 ^ 64)) p ≡ cond (eqb (p / n % 2) 0) (bit a p) (bit b (p - n))
  first_bit p h =
      bit-xor a (t * 2 ^ n % 2 ^ 64) p ∙ ap (λ (x : Bool). bit a p ⊕ x) (bit_shl_cut 64 t n p h)
      ∙ elim (dec_le n p) [
        | yes l ↦
            ap (λ (e : Bool). bit a p ⊕ (e && bit t (p - n))) (le-leb n p l)
            ∙ ap (λ (x : Bool). bit a p ⊕ x)
            (bit-t (p - n) (omega arith) ∙ ap₂ (λ (m : ℕ) (e : Bool). (bit a m ⊕ bit b (p - n)) && e) (up l) (other (p / n) ((p - n) / n) (less p l)))
            ∙ given (bit a p) (bit b (p - n)) (eqb (p / n % 2) 0)
        | no l ↦
            let under : p < n = omega arith in
            ap (λ (e : Bool). bit a p ⊕ (e && bit t (p - n))) (lt-leb n p under) ∙ ⊕-false (bit a p)
            ∙ sym (ap (λ (m : ℕ). cond (eqb (m % 2) 0) (bit a p) (bit b (p - n))) (div-eq_of_lt under))
      ]
    where
      up : n ≤ p → n + (p - n) ≡ p
      up l = omega arith

  second-bit : (p : ℕ) → p < 64 → bit (bit_xor b t) p ≡ cond (eqb (p / n % 2) 0) (bit a (n + p)) (bit b p)
  second-bit p h = bit-xor b t p ∙ ap (λ (x : Bool). bit b p ⊕ x) (bit-t p h) ∙ taken (bit a (n + p)) (bit b p) (eqb (p / n % 2) 0)

  reaches : (p : ℕ) → p / n % 2 ≡ 1 → n ≤ p
  reaches p e =
      elim (dec_le n p) [
        | yes l ↦ l
        | no l ↦ let under : p < n = omega arith in let none : p / n ≡ 0 = div-eq_of_lt under in absurd (omega arith)
      ]

  figure : (p : ℕ) → p / n % 2 < 2
  figure p = omega arith

  pub crosses : Crossed n a b (record { a = bit_xor a (t * 2 ^ n % 2 ^ 64); b = bit_xor b t })
  crosses =
      record {
        first = λ p h. first_bit p h ∙ picks a b n p (p / n % 2) (figure p);
        second = λ p h. second-bit p h ∙ picks_up a b n p (p / n % 2) (reaches p) (figure p);
      }

-- ---- a level

-- where the bit at place p of word k comes from: the word, and the place in it
abbrev pub from_word : ℕ → ℕ → ℕ → ℕ
from_word n k p = k / 2 + 4 * (p / n % 2)

abbrev pub from_place : ℕ → ℕ → ℕ → ℕ
from_place n k p = p - n * (p / n % 2) + n * (k % 2)

pub record Level (n : ℕ) (e r : Eight) : Type 0 where
  pub moved : (k p : ℕ) → k < 8 → p < 64 → bit (word_of r k) p ≡ bit (word_of e (from_word n k p)) (from_place n k p)

abbrev pub beside : Two → Two → Two → Two → Eight
beside a b c d = record { w0 = a.a; w1 = a.b; w2 = b.a; w3 = b.b; w4 = c.a; w5 = c.b; w6 = d.a; w7 = d.b }

module _ {n : ℕ} {e : Eight} {a b c d : Two} (ca : Crossed n e.w0 e.w4 a) (cb : Crossed n e.w1 e.w5 b) (cc' : Crossed n e.w2 e.w6 c)
    (cd : Crossed n e.w3 e.w7 d) where
  pub level : Level n e (beside a b c d)
  level =
      record {
        moved =
            λ k p hk hp.
            eight (λ k. bit (word_of (beside a b c d) k) p ≡ bit (word_of e (from_word n k p)) (from_place n k p))
            (ca.first p hp ∙ even p 0 (two (λ f. get_or (e.w0 ∷ e.w4 ∷ []) f 0 ≡ word_of e (0 + 4 * f)) refl refl (p / n % 2) (omega arith)))
            (ca.second p hp ∙ odd p 0 (two (λ f. get_or (e.w0 ∷ e.w4 ∷ []) f 0 ≡ word_of e (0 + 4 * f)) refl refl (p / n % 2) (omega arith)))
            (cb.first p hp ∙ even p 1 (two (λ f. get_or (e.w1 ∷ e.w5 ∷ []) f 0 ≡ word_of e (1 + 4 * f)) refl refl (p / n % 2) (omega arith)))
            (cb.second p hp ∙ odd p 1 (two (λ f. get_or (e.w1 ∷ e.w5 ∷ []) f 0 ≡ word_of e (1 + 4 * f)) refl refl (p / n % 2) (omega arith)))
            (cc'.first p hp ∙ even p 2 (two (λ f. get_or (e.w2 ∷ e.w6 ∷ []) f 0 ≡ word_of e (2 + 4 * f)) refl refl (p / n % 2) (omega arith)))
            (cc'.second p hp ∙ odd p 2 (two (λ f. get_or (e.w2 ∷ e.w6 ∷ []) f 0 ≡ word_of e (2 + 4 * f)) refl refl (p / n % 2) (omega arith)))
            (cd.first p hp ∙ even p 3 (two (λ f. get_or (e.w3 ∷ e.w7 ∷ []) f 0 ≡ word_of e (3 + 4 * f)) refl refl (p / n % 2) (omega arith)))
            (cd.second p hp ∙ odd p 3 (two (λ f. get_or (e.w3 ∷ e.w7 ∷ []) f 0 ≡ word_of e (3 + 4 * f)) refl refl (p / n % 2) (omega arith)))
            k hk;
      }
    where
      even : (p i : ℕ) {w : ℕ} → w ≡ word_of e (i + 4 * (p / n % 2)) → bit w (p - n * (p / n % 2)) ≡ bit (word_of e (i + 4 * (p / n % 2))) (p - n * (p / n % 2) + n * 0)
      even p i w = ap₂ bit w (sym (ap (λ (m : ℕ). p - n * (p / n % 2) + m) (mul-zero n) ∙ add-zero (p - n * (p / n % 2))))

      odd : (p i : ℕ) {w : ℕ} → w ≡ word_of e (i + 4 * (p / n % 2)) → bit w (p - n * (p / n % 2) + n) ≡ bit (word_of e (i + 4 * (p / n % 2))) (p - n * (p / n % 2) + n * 1)
      odd p i w = ap₂ bit w (ap (λ (m : ℕ). p - n * (p / n % 2) + m) (sym (mul-one n)))

-- ---- three levels, by a test of their places

-- from the last to the first: l, m, n places apart
abbrev inside : ℕ → ℕ → ℕ → Bool
inside n k p = ltb (from_word n k p) 8 && ltb (from_place n k p) 64

abbrev pub three : (n m l : ℕ) → (ℕ → ℕ) → (ℕ → ℕ → ℕ) → ℕ → ℕ → Bool
three n m l from to k p =
    let k1 : ℕ = from_word l k p in
    let p1 : ℕ = from_place l k p in
    let k2 : ℕ = from_word m k1 p1 in
    let p2 : ℕ = from_place m k1 p1 in
    inside l k p && (inside m k1 p1 && (eqb (from_word n k2 p2) (from p) && eqb (from_place n k2 p2) (to k p)))

pub turned_by : (n m l : ℕ) (from : ℕ → ℕ) (to : ℕ → ℕ → ℕ) → T (below 8 (λ k. below 64 (three n m l from to k))) → {e x y z : Eight} → Level n e x → Level m x y → Level l y z
    → EightTurned from to e z
turned_by n m l from to t {e} {x} {y} {z} first second third =
    record { turned = λ k p hk hp. go k p hk hp (at 64 (three n m l from to k) (at 8 (λ k. below 64 (three n m l from to k)) t k hk) p hp) }
  where
    go : (k p : ℕ) → k < 8 → p < 64 → T (three n m l from to k p) → bit (word_of z k) p ≡ bit (word_of e (from p)) (to k p)
    go k p hk hp s =
        let k1 : ℕ = from_word l k p in
        let p1 : ℕ = from_place l k p in
        let k2 : ℕ = from_word m k1 p1 in
        let p2 : ℕ = from_place m k1 p1 in
        let rest : Bool = eqb (from_word n k2 p2) (from p) && eqb (from_place n k2 p2) (to k p) in
        let s1 : T (inside m k1 p1 && rest) = and_right (inside l k p) (inside m k1 p1 && rest) s in
        let in1 : T (inside l k p) = and_left (inside l k p) (inside m k1 p1 && rest) s in
        let in2 : T (inside m k1 p1) = and_left (inside m k1 p1) rest s1 in
        let s2 : T rest = and_right (inside m k1 p1) rest s1 in
        third.moved k p hk hp
        ∙ second.moved k1 p1 (ltb→lt k1 8 (and_left (ltb k1 8) (ltb p1 64) in1)) (ltb→lt p1 64 (and_right (ltb k1 8) (ltb p1 64) in1))
        ∙ first.moved k2 p2 (ltb→lt k2 8 (and_left (ltb k2 8) (ltb p2 64) in2)) (ltb→lt p2 64 (and_right (ltb k2 8) (ltb p2 64) in2))
        ∙ ap₂ (λ (k p : ℕ). bit (word_of e k) p)
        (eqb→eq (from_word n k2 p2) (from p) (and_left (eqb (from_word n k2 p2) (from p)) (eqb (from_place n k2 p2) (to k p)) s2))
        (eqb→eq (from_place n k2 p2) (to k p) (and_right (eqb (from_word n k2 p2) (from p)) (eqb (from_place n k2 p2) (to k p)) s2))
