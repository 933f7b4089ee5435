-- An order that refused nothing: each of its tests held.
use mathlib.Core.Path.{◌≡◌, refl}
use mathlib.Core.Bool.{Bool, true, false}
use Prim.Native.Nat.{ℕ}
use lib.Dec.{eqb}
use borrow.Author.Tests.{eqb-false}
use Rattle.answers.specs.Order.{unless}

-- one line of an order passed, n being no 0
pub passed : (t : Bool) (n next : ℕ) → eqb n 0 ≡ false → unless t n next ≡ 0 → (t ≡ true) × (next ≡ 0)
passed true n next z e = (refl, e)
passed false n next z e = absurd (eqb-false n 0 z e)
