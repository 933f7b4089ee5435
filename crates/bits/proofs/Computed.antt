-- Tests that the checker computes over all places below a number, and the laws that turn a passed test into the fact at each place.
use mathlib.Core.Path.{◌≡◌, ap}
use mathlib.Core.Bool.{Bool, true, false, cond, ◌&&◌}
use mathlib.Core.Logic.{⊎_elim}
use Prim.Native.Nat.{ℕ, zero, suc, ◌<◌}
use native.Mathlib.Nat.{not-suc-le-zero, le_of_suc-le-suc, eq-or-lt_of_le}
use lib.Dec.{T, eqb, eqb→eq, ltb, ltb→lt}

abbrev pub below : ℕ → (ℕ → Bool) → Bool
below zero f = true
below (suc n) f = f n && below n f

pub and_left : (a b : Bool) → T (a && b) → T a
and_left true b t = tt
and_left false b t = t

pub and_right : (a b : Bool) → T (a && b) → T b
and_right true b t = t
and_right false b t = absurd t

pub at : (n : ℕ) (f : ℕ → Bool) → T (below n f) → (i : ℕ) → i < n → T (f i)
at zero f t i h = absurd (not-suc-le-zero h)
at (suc n) f t i h =
    ⊎_elim (λ e. rw e (and_left (f n) (below n f) t)) (λ l. at n f (and_right (f n) (below n f) t) i l) (eq-or-lt_of_le (le_of_suc-le-suc h))

-- two functions that agree below n, and one that stays below m there
pub agree : (n : ℕ) (f g : ℕ → ℕ) → T (below n (λ i. eqb (f i) (g i))) → (i : ℕ) → i < n → f i ≡ g i
agree n f g t i h = eqb→eq (f i) (g i) (at n (λ j. eqb (f j) (g j)) t i h)

pub bounded : (n m : ℕ) (f : ℕ → ℕ) → T (below n (λ i. ltb (f i) m)) → (i : ℕ) → i < n → f i < m
bounded n m f t i h = ltb→lt (f i) m (at n (λ j. ltb (f j) m) t i h)

-- what a test picks
pub cond-true {ℓ} : {A : Type ℓ} (b : Bool) (x y : A) → b ≡ true → cond b x y ≡ x
cond-true b x y e = ap (λ (t : Bool). cond t x y) e

pub cond-false {ℓ} : {A : Type ℓ} (b : Bool) (x y : A) → b ≡ false → cond b x y ≡ y
cond-false b x y e = ap (λ (t : Bool). cond t x y) e
