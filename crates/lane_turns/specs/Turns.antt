-- What an opening, a turn of its own and yielding make of a lane's record.
use Rattle.std.specs.Prelude.{cond, List, ℕ, ◌+◌, ◌-◌, ◌*◌, eqb, ltb, drop}
use Rattle.primitives.specs.declared.State.{State}
use Rattle.packing.specs.Packing.{packed, unpacked}
use Rattle.quintuple.specs.Quintuple.{quintupled, unquintupled}
use Rattle.gift128.specs.Calls.{new_words}
use Rattle.lane.specs.declared.Lane.{Lane}
use Rattle.lane.specs.Record.{running, finished}

-- Opening: the owner's, the key expanded, the block packed as the order has it.
unfoldable pub opened : (owner direction order : ℕ) (key block : List ℕ) → Lane
opened owner direction order key block =
    record { phase = running; direction = direction; owner = owner; count = 0; order = order; words = new_words key; state = packed order block }

-- One quintuple round more: forward at offset 5·count, or back at offset 35 − 5·count, over the words that start at twice the offset.
unfoldable pub advanced : Lane → State
advanced l =
    cond (eqb l.direction 0)
    (quintupled l.state (drop (2 * (5 * l.count)) l.words) (5 * l.count))
    (unquintupled l.state (drop (2 * (35 - 5 * l.count)) l.words) (35 - 5 * l.count))

-- A turn of its own: the count rises by 1, and at 8 the lane is finished. (A count of 8 or more has no quintuple round left.)
unfoldable pub served : Lane → Lane
served l =
    cond (ltb l.count 8)
    (record {
      phase = cond (eqb (l.count + 1) 8) finished running;
      direction = l.direction;
      owner = l.owner;
      count = l.count + 1;
      order = l.order;
      words = l.words;
      state = advanced l;
    })
    l

-- the turns that a lane still lacks: 8 less its count if it runs
unfoldable pub lacks : Lane → ℕ
lacks l = cond (eqb l.phase running) (8 - l.count) 0

-- Yielding: what a lent buffer holds afterwards, the bytes of the lane's block in its own order.
unfoldable pub yielded : Lane → List ℕ → List ℕ
yielded l out = unpacked l.order l.state out
