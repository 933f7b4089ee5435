-- What is done to a page by who lays more in it.
use Rattle.std.specs.Prelude.{◌≡◌, List, ◌++◌, ℕ}
use Rattle.differ_text.specs.declared.Page.{Page}
use Rattle.differ_text.specs.Pieces.{Lays}

-- the second page is the first in the same buffer, with a text behind what was laid there
pub record Puts (x : List ℕ) (p q : Page) : Type 0 where
  pub same_reference : q.out.ghost_name ≡ p.out.ghost_name
  pub laid : (l o : List ℕ) → Lays l o p.at p.out.now → Lays (l ++ x) o q.at q.out.now
