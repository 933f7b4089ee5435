-- Inner: a step from id to id.
use Rattle.std.specs.Prelude.{◌≡◌, List, [], ◌∷◌, ◌++◌, ℕ, ◌+◌, ◌<◌, ◌≤◌}
use Rattle.std.specs.declared.option.Option.{Option}
use Rattle.std.specs.declared.option.Option.TheVariants.{None, Some}
use Rattle.bundle_format.specs.Reader.{ABSENT, bare}
use Rattle.differ.specs.Difference.{Line, told_of, lines_from, ids}
use Rattle.differ.specs.declared.Found.{Found}
use Rattle.differ.specs.declared.Step.{Step}

-- r is the bundle's first id from `low` on: those before it are absent
pub record FirstFrom (b : List ℕ) (low r : ℕ) : Type 0 where
  pub from : low ≤ r
  pub most : r ≤ ids
  pub none : (id : ℕ) → low ≤ id → id < r → told_of b id ≡ bare ABSENT 0

-- the line of an id that was found, and that of a step, if any
unfoldable pub line_in : Option Found → List Line
line_in None = []
line_in (Some f) = record { id = f.id; one = f.one; two = f.two } ∷ []

abbrev pub line_if : Step → List Line
line_if s = line_in s.found

-- the lines from `low` on are the step's, and those from where it ends
pub record Steps (b c : List ℕ) (low : ℕ) (s : Step) : Type 0 where
  pub rises : low < s.low
  pub most : s.low ≤ ids
  pub lines : (n m : ℕ) → low + n ≡ ids → s.low + m ≡ ids → lines_from n low b c ≡ line_if s ++ lines_from m s.low b c
