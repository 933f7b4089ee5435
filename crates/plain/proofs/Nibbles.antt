-- Nibbles and the number that they make are each other's inverse; a step after a step; the bits of a state.
use mathlib.Core.Path.{◌≡◌, refl, sym, ap, ap₂, ◌∙◌}
use mathlib.Core.List.{List, ◌∷◌}
use Prim.Native.Nat.{ℕ, zero, suc, ◌+◌, ◌*◌, ◌/◌, ◌%◌, ◌^◌, ◌≤◌, ◌<◌}
use native.Mathlib.Nat.{le_of_suc-le-suc, not-suc-le-zero}
use native.Mathlib.Numerals.{one-add}
use native.Mathlib.Omega.{arith}
use lib.Dec.{lit<, lit≤}
use lib.ListN.{length, get_or, take}
use lib.Seq.{ext_get_or}
use Rattle.bits.specs.Digit.{digit, number, bit}
use Rattle.bits.proofs.Digits.{pow-mul, digit_lt, digit-number, digit_shr, number_cong, number-digit, number_lt}
use Rattle.bits.proofs.Bits.{bit-digit}
use Rattle.published.proofs.Steps.{Width, width}
use Rattle.plain.specs.Inner.{state_of, nibbles_of, by, Nibbles}

base : zero < 16
base = lit< tt

-- ---- the nibbles of a number

pub length-nibbles_of : (k s : ℕ) → length (nibbles_of k s) ≡ k
unfolding nibbles_of
length-nibbles_of zero s = refl
length-nibbles_of (suc k) s = ap suc (length-nibbles_of k (s / 16))

pub get_or_nibbles_of : (k s i : ℕ) → i < k → get_or (nibbles_of k s) i 0 ≡ digit 16 s i
unfolding nibbles_of
get_or_nibbles_of zero s i h = absurd (not-suc-le-zero h)
get_or_nibbles_of (suc k) s zero h = refl
get_or_nibbles_of (suc k) s (suc i) h =
    get_or_nibbles_of k (s / 16) i (le_of_suc-le-suc h) ∙ digit_shr 16 base s 1 i ∙ ap (digit 16 s) (one-add i)

pub small-nibbles_of : (k s i : ℕ) → get_or (nibbles_of k s) i 0 < 16
unfolding nibbles_of
small-nibbles_of zero s i = base
small-nibbles_of (suc k) s zero = digit_lt 16 base s 0
small-nibbles_of (suc k) s (suc i) = small-nibbles_of k (s / 16) i

-- a list whose elements are the digits of s
pub nibbles_are : (k s : ℕ) (ns : List ℕ) → length ns ≡ k → ((i : ℕ) → i < k → get_or ns i 0 ≡ digit 16 s i) → ns ≡ nibbles_of k s
nibbles_are k s ns len e =
    ext_get_or 0 ns (nibbles_of k s) (len ∙ sym (length-nibbles_of k s))
    (λ i h. let l : i < k = rw len at h in e i l ∙ sym (get_or_nibbles_of k s i l))

pub take-nibbles_of : (k m s : ℕ) → k ≤ m → take k (nibbles_of m s) ≡ nibbles_of k s
unfolding nibbles_of
take-nibbles_of zero m s h = refl
take-nibbles_of (suc k) zero s h = absurd (not-suc-le-zero h)
take-nibbles_of (suc k) (suc m) s h = ap (λ (l : List ℕ). digit 16 s 0 ∷ l) (take-nibbles_of k m (s / 16) (le_of_suc-le-suc h))

-- ---- the number of nibbles

sixteen : (k : ℕ) → 16 ^ k ≡ 2 ^ (4 * k)
sixteen k = pow-mul 2 4 k

pub state_of_nibbles_of : (k s : ℕ) → s < 2 ^ (4 * k) → state_of (nibbles_of k s) ≡ s
unfolding state_of
state_of_nibbles_of k s h =
    ap (λ (l : ℕ). number 16 l (λ i. get_or (nibbles_of k s) i 0)) (length-nibbles_of k s)
    ∙ number_cong 16 k (λ i. get_or (nibbles_of k s) i 0) (digit 16 s) (get_or_nibbles_of k s)
    ∙ number-digit 16 base k s (rw sixteen h)

module _ (ns : List ℕ) (small : (i : ℕ) → get_or ns i 0 < 16) where
  pub state_of_lt : state_of ns < 2 ^ (4 * length ns)
  unfolding state_of
  state_of_lt = rw (← sixteen (length ns)) (number_lt 16 base (length ns) (λ i. get_or ns i 0) (λ i h. small i))

  pub digit_state_of : (i : ℕ) → i < length ns → digit 16 (state_of ns) i ≡ get_or ns i 0
  unfolding state_of
  digit_state_of i h = digit-number 16 base (length ns) (λ k. get_or ns k 0) (λ k l. small k) i h

  pub nibbles_of_state_of : ns ≡ nibbles_of (length ns) (state_of ns)
  nibbles_of_state_of = nibbles_are (length ns) (state_of ns) ns refl (λ i h. sym (digit_state_of i h))

  -- bit q of the state is bit q % 4 of nibble q / 4
  pub bit_state_of : (q : ℕ) → q < 4 * length ns → bit (state_of ns) q ≡ bit (get_or ns (q / 4) 0) (q % 4)
  bit_state_of q h =
      let place : q ≡ 4 * (q / 4) + q % 4 = omega arith in
      ap (bit (state_of ns)) place ∙ sym (bit-digit 4 (state_of ns) (q / 4) (q % 4) (omega arith)) ∙ ap (λ (x : ℕ). bit x (q % 4)) (digit_state_of (q / 4) (omega arith))

-- ---- steps

pub width_of : (ns : List ℕ) → Nibbles ns → Width (4 * length ns)
width_of ns ok =
    let whole : 16 * (length ns / 4) ≡ 4 * length ns = omega (arith, ok.fours) in
    rw whole at (width (length ns / 4))

-- what a step leaves is as long, and nibbles again
pub same_length : (ns : List ℕ) (x : ℕ) {now : List ℕ} → now ≡ nibbles_of (length ns) x → length now ≡ length ns
same_length ns x e = ap length e ∙ length-nibbles_of (length ns) x

pub again : (ns : List ℕ) (x : ℕ) {now : List ℕ} → now ≡ nibbles_of (length ns) x → Nibbles ns → Nibbles now
again ns x e ok =
    let same = same_length ns x e in
    record {
      small = rw e (small-nibbles_of (length ns) x);
      fours = ap (λ (l : ℕ). l % 4) same ∙ ok.fours;
      least = rw same ok.least;
      most = rw same ok.most;
    }

pub nibbles_of_lem : (n x : ℕ) → n % 4 ≡ 0 → 8 ≤ n → n ≤ 32 → {m : List ℕ} → m ≡ nibbles_of n x → Nibbles m
nibbles_of_lem n x fours least most e =
    let long : length (nibbles_of n x) ≡ n = length-nibbles_of n x in
    rw e (record { small = small-nibbles_of n x; fours = rw long fours; least = rw long least; most = rw long most })

pub nibbles_32 : (x : ℕ) {m : List ℕ} → m ≡ nibbles_of 32 x → Nibbles m
nibbles_32 x e = nibbles_of_lem 32 x refl (lit≤ tt) (lit≤ tt) e

-- a step after a step, where the first stays within the width
pub by_by : (f g : ℕ → ℕ → ℕ) (ns : List ℕ) → g (4 * length ns) (state_of ns) < 2 ^ (4 * length ns) → by f (by g ns) ≡ by (λ n s. f n (g n s)) ns
by_by f g ns h =
    let s : ℕ = g (4 * length ns) (state_of ns) in
    ap₂ (λ (l x : ℕ). nibbles_of l (f (4 * l) x)) (same_length ns s refl) (state_of_nibbles_of (length ns) s h)
