-- What is proved of comparing, in words of answers.
use Rattle.std.specs.Prelude.{List, [], ◌∷◌, ℕ, ◌+◌, ◌≤◌}
use Rattle.bundle_format.specs.Reader.{Answer, meant}
use Rattle.differ.specs.Difference.{told_of, Line}

-- what the reader of edition 2 answers to an id of an accepted bundle
abbrev pub answer : (b : List ℕ) (id : ℕ) → Answer
answer b id = meant b (told_of b id)

-- a line stands in a list
pub data In (l : Line) : List Line → Type 0 where
  here : {ls : List Line} → In l (l ∷ ls)
  there : {m : Line} {ls : List Line} → In l ls → In l (m ∷ ls)

-- ids rise strictly, from `low` on
pub data Rising : (low : ℕ) → List Line → Type 0 where
  none : {low : ℕ} → Rising low []
  more : {low : ℕ} {l : Line} {ls : List Line} → low ≤ l.id → Rising (l.id + 1) ls → Rising low (l ∷ ls)

-- the same with the sides exchanged
abbrev pub exchanged : Line → Line
exchanged l = record { id = l.id; one = l.two; two = l.one }
