-- A quintuple round: five published rounds on the block that four words stand for, by the pairs that ten words stand for.
use Rattle.std.specs.Prelude.{Bool, cond, ◌&&◌, List, ℕ, zero, suc, ◌+◌, ◌*◌, ◌%◌, leb, eqb, length, take, drop}
use Rattle.published.specs.Gift128.{rounds128, unrounds128}
use Rattle.primitives.specs.declared.State.{State}
use Rattle.primitives.specs.Packed.{block_of, state_of}
use Rattle.round_words.specs.Arranged.{pairs_from}

-- ten words at least, and an offset that is one of 0, 5, .. 35
abbrev pub good : List ℕ → ℕ → Bool
good ws i = leb 10 (length ws) && (leb i 35 && eqb (i % 5) 0)

-- rounds i + 1 to i + 5 done; the state as it was where there are too few words or no such offset
unfoldable pub quintupled : State → List ℕ → ℕ → State
quintupled s ws i = cond (good ws i) (state_of (rounds128 (pairs_from 0 (take 10 ws)) i (block_of s))) s

-- rounds i + 5 to i + 1 undone
unfoldable pub unquintupled : State → List ℕ → ℕ → State
unquintupled s ws i = cond (good ws i) (state_of (unrounds128 (pairs_from 0 (take 10 ws)) i (block_of s))) s

-- round 1 alone, by the first two words
unfoldable pub first_round : State → List ℕ → State
first_round s ws = cond (leb 2 (length ws)) (state_of (rounds128 (pairs_from 0 (take 2 ws)) 0 (block_of s))) s

-- n quintuples from offset i on, over the words of all forty rounds, of which a quintuple's begin at twice its offset; and undone, the last first
unfoldable pub several : List ℕ → ℕ → ℕ → State → State
several ws zero i s = s
several ws (suc n) i s = several ws n (i + 5) (quintupled s (drop (2 * i) ws) i)

unfoldable pub unseveral : List ℕ → ℕ → ℕ → State → State
unseveral ws zero i s = s
unseveral ws (suc n) i s = unquintupled (unseveral ws n (i + 5) s) (drop (2 * i) ws) i

-- whether eighty words and forty rounds have them
abbrev pub reach : List ℕ → ℕ → ℕ → Bool
reach ws i n = eqb (length ws) 80 && (leb i 40 && (leb n 8 && leb (i + 5 * n) 40))
