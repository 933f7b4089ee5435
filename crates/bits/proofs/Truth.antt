-- Tests that held: both sides of an `&&`, a test that a call told, and a choice.
use mathlib.Core.Path.{◌≡◌, refl, sym, ◌∙◌}
use mathlib.Core.Bool.{Bool, true, false, cond, ◌&&◌, false≢true}

pub both : (a b : Bool) → a && b ≡ true → (a ≡ true) × (b ≡ true)
both true b e = (refl, e)
both false b e = absurd (false≢true e)

pub together : (a b : Bool) → a ≡ true → b ≡ true → a && b ≡ true
together true b e h = h
together false b e h = absurd (false≢true e)

-- a test t, of which a call told r, and a branch on `!r`
pub told-false : {r t : Bool} → r ≡ t → r ≡ false → t ≡ false
told-false e h = sym e ∙ h

pub told-true : {r t : Bool} → r ≡ t → r ≡ true → t ≡ true
told-true e h = sym e ∙ h

-- a fact of a choice, from the fact of either
pub cond_either {ℓ κ} : {A : Type ℓ} (P : A → Type κ) (t : Bool) (x y : A) → (t ≡ true → P x) → (t ≡ false → P y) → P (cond t x y)
cond_either P true x y f g = f refl
cond_either P false x y f g = g refl
