-- Whose turn it is: each turn serves the first running lane in cyclic order after the last served one.
use Rattle.std.specs.Prelude.{Bool, cond, List, [], ◌∷◌, ℕ, zero, suc, ◌+◌, eqb, ltb, get_or, set}
use Rattle.packing.specs.Packing.{no_words}
use Rattle.lane.specs.declared.Lane.{Lane}
use Rattle.lane.specs.Record.{idle, running}
use Rattle.lane_turns.specs.Turns.{served}
use Rattle.bench_orders.specs.Orders.{lane_count}
use Rattle.bench_turns.specs.declared.Bench.{Bench}

-- lane i of a list of records
abbrev pub lane_at : List Lane → ℕ → Lane
lane_at ls i = get_or ls i (record { phase = idle; direction = 0; owner = 0; count = 0; order = 0; words = []; state = no_words })

unfoldable pub runs : List Lane → ℕ → Bool
runs ls i = eqb (lane_at ls i).phase running

-- the lane after lane i in cyclic order
unfoldable pub after : ℕ → ℕ
after i = cond (ltb (i + 1) lane_count) (i + 1) 0

-- the first running lane among k lanes from lane i on, in cyclic order; lane_count if none of them runs
unfoldable pub seek : ℕ → List Lane → ℕ → ℕ
seek zero ls i = lane_count
seek (suc k) ls i = cond (runs ls i) i (seek k ls (after i))

unfoldable pub chosen : Bench → ℕ
chosen b = seek lane_count b.lanes (after b.last)

-- whether any lane runs
unfoldable pub any_runs : Bench → Bool
any_runs b = ltb (chosen b) lane_count

-- One turn; none is made where no lane runs.
unfoldable pub turned : Bench → Bench
turned b =
    cond (any_runs b) (record { lanes = set b.lanes (chosen b) (served (lane_at b.lanes (chosen b))); last = chosen b }) b

-- n turns, or fewer where no lane runs any more
unfoldable pub turned_by : ℕ → Bench → Bench
turned_by zero b = b
turned_by (suc n) b = turned_by n (turned b)

-- the lanes that those turns serve, in order
unfoldable pub served_by : ℕ → Bench → List ℕ
served_by zero b = []
served_by (suc n) b = cond (any_runs b) (chosen b ∷ served_by n (turned b)) []

-- a number of each lane, summed over all
unfoldable pub total : (Lane → ℕ) → List Lane → ℕ
total f [] = 0
total f (l ∷ ls) = f l + total f ls
