-- Comparing has no second outcome.
use mathlib.Core.Path.{◌≡◌, sym, ◌∙◌}
use mathlib.Core.List.{List}
use Prim.Native.Nat.{ℕ}
use Rattle.differ.specs.Difference.{Compares}

pub compares : (key b c rows : List ℕ) (r r' f f' s s' n n' : ℕ) (e e' : List ℕ) → Compares key b c rows r f s n e → Compares key b c rows r' f' s' n' e'
    → (r ≡ r') × (f ≡ f') × (s ≡ s') × (n ≡ n') × (e ≡ e')
compares key b c rows r r' f f' s s' n n' e e' x y =
    (x.is ∙ sym y.is, x.first ∙ sym y.first, x.second ∙ sym y.second, x.counts ∙ sym y.counts, x.leaves ∙ sym y.leaves)
