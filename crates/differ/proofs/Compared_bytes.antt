-- Bytes compared by the library, and as the promise has it.
use mathlib.Core.Path.{◌≡◌, refl, ap}
use mathlib.Core.Bool.{Bool, ◌&&◌}
use mathlib.Core.List.{List, [], ◌∷◌}
use Prim.Native.Nat.{ℕ}
use lib.Dec.{eqb}
use Rattle.std.specs.Cmp.Lexicographic.{pointwise}
use Rattle.cmac.specs.Calls.{same}

pub same_bytes : (x y : List ℕ) → pointwise eqb x y ≡ same x y
unfolding same
same_bytes [] [] = refl
same_bytes [] (b ∷ y) = refl
same_bytes (a ∷ x) [] = refl
same_bytes (a ∷ x) (b ∷ y) = ap (λ (t : Bool). eqb a b && t) (same_bytes x y)
