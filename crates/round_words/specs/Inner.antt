-- Inner: exchanges of bits one after the other, and both maps as one over the row, each number put into an arrangement by its place.
use Rattle.std.specs.Prelude.{Bool, cond, List, [], ◌∷◌, ℕ, suc, ◌+◌, ◌-◌, ◌/◌, ◌%◌, fold}
use Rattle.primitives.specs.Words.{swapped_single}
use Rattle.round_words.specs.Arranged.{arranged}

-- bits under a mask exchanged with those so many places above, for each mask of a list
abbrev pub swapped_by : List (ℕ × ℕ) → ℕ → ℕ
swapped_by swaps x = fold (λ w s. swapped_single w s.0 (s.1 % 32)) x swaps

-- the arrangement of the number at place i, and the one that undoes it
unfoldable pub place_in : Bool → ℕ → ℕ
place_in back i = cond back (4 - i / 2 % 5) (i / 2 % 5 + 1)

-- each number x of a list, at place i, made f i x
unfoldable pub mapped : (ℕ → ℕ → ℕ) → ℕ → List ℕ → List ℕ
mapped f i [] = []
mapped f i (x ∷ xs) = f i x ∷ mapped f (suc i) xs

unfoldable pub rearranged : Bool → List ℕ → List ℕ
rearranged back xs = mapped (λ i x. arranged (place_in back i) x) 0 xs
