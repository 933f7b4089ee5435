-- A fact of every list of n elements, from the lists written out.
use mathlib.Core.Path.{◌≡◌}
use mathlib.Core.List.{List, [], ◌∷◌}
use Prim.Native.Nat.{ℕ, zero, suc}
use native.Mathlib.Omega.{arith}
use lib.ListN.{length}

abbrev pub Each : ℕ → (List ℕ → Type 0) → Type 0
Each zero P = P []
Each (suc n) P = (a : ℕ) → Each n (λ l. P (a ∷ l))

pub each : (n : ℕ) (P : List ℕ → Type 0) → Each n P → (l : List ℕ) → length l ≡ n → P l
each zero P p [] e = p
each zero P p (a ∷ l) e = absurd (omega arith)
each (suc n) P p [] e = absurd (omega arith)
each (suc n) P p (a ∷ l) e = each n (λ l. P (a ∷ l)) (p a) l (omega arith)
