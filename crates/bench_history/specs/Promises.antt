-- What is promised of every history that starts with a fresh bench: where an opened lane stands after t turns of its own, what it yields and when,
-- that no lane escapes, whose a lane is, what turns do, and what no call does.
use Rattle.std.specs.Prelude.{◌≡◌, true, false, cond, List, [], ◌∷◌, ◌++◌, ◌≢◌, ℕ, ◌+◌, ◌-◌, ◌*◌, ◌≤◌, ◌<◌, min, eqb, leb, length, take, drop, replicate}
use Rattle.answers.specs.Numbers.{DONE, BAD_BLOCK_LENGTH, LANE_NOT_FINISHED, NOT_THE_OWNER}
use Rattle.published.specs.Seen.{seen}
use Rattle.published.specs.Rounds.{Pair}
use Rattle.published.specs.Gift128.{pairs_of, rounds128, unrounds128}
use Rattle.primitives.specs.Packed.{block_of, state_of}
use Rattle.lane.specs.declared.Lane.{Lane}
use Rattle.lane.specs.Record.{idle, running, finished}
use Rattle.lane_turns.specs.Turns.{opened, lacks}
use Rattle.bench_orders.specs.Orders.{lane_count}
use Rattle.bench_turns.specs.declared.Bench.{Bench}
use Rattle.bench_turns.specs.Turning.{lane_at, total}
use Rattle.bench.specs.Calls.{fresh_bench, turn_of, take_of, taken_bytes, close_of}
use Rattle.bench_history.specs.History.{Call, opening, turning, taking, code_of, leaves, tells, asks, serves, run, log, times, last_of, enters, closes, releases, never, names, served_times}

-- ---- what a lane's record is to be

-- the block x after t turns from a count on, by a list of pairs: the rounds 5·count + 1 to 5·(count + t) done, or the rounds 40 − 5·count down to 41 − 5·(count + t) undone
unfoldable pub reached : (direction : ℕ) (ps : List Pair) (count t x : ℕ) → ℕ
reached direction ps count t x =
    cond (eqb direction 0)
    (rounds128 (take (5 * t) (drop (5 * count) ps)) (5 * count) x)
    (unrounds128 (take (5 * t) (drop (40 - 5 * (count + t)) ps)) (40 - 5 * (count + t)) x)

-- the whole record then: running until its count is 8, and finished with it
unfoldable pub onward : List Pair → ℕ → Lane → Lane
onward ps t l =
    record {
      phase = cond (leb 8 (l.count + t)) finished running;
      direction = l.direction;
      owner = l.owner;
      count = l.count + t;
      order = l.order;
      words = l.words;
      state = state_of (reached l.direction ps l.count t (block_of l.state));
    }

-- the same record under another owner
unfoldable pub owning : ℕ → Lane → Lane
owning w l = record { phase = l.phase; direction = l.direction; owner = w; count = l.count; order = l.order; words = l.words; state = l.state }

-- and in another order
unfoldable pub ordering : ℕ → Lane → Lane
ordering order l = record { phase = l.phase; direction = l.direction; owner = l.owner; count = l.count; order = order; words = l.words; state = l.state }

-- what a lane yields in the end: the forty rounds, done or undone, seen through its order
unfoldable pub answer : (direction order : ℕ) (key block : List ℕ) → List ℕ
answer direction order key block = cond (eqb direction 0) (seen order (rounds128 (pairs_of key) 0) block) (seen order (unrounds128 (pairs_of key) 0) block)

-- ---- an opening in a history: the calls before it on a fresh bench, what it asks for, and the calls since

pub record Opening : Type 0 where
  pub before : List Call
  pub lane : ℕ
  pub owner : ℕ
  pub direction : ℕ
  pub order : ℕ
  pub key : List ℕ
  pub block : List ℕ
  pub since : List Call

abbrev pub call : Opening → Call
call o = opening o.lane o.owner o.direction o.order o.key o.block

-- all calls, and the bench after them
abbrev pub calls : Opening → List Call
calls o = o.before ++ call o ∷ o.since

abbrev pub end : Opening → Bench
end o = run fresh_bench (calls o)

-- the bench that the opening finds, and the one that it leaves
abbrev pub finds : Opening → Bench
finds o = run fresh_bench o.before

abbrev pub left : Opening → Bench
left o = leaves (finds o) (call o)

-- the lanes served since, one for each turn made on the bench, and how many of these turns are the lane's own
abbrev pub made : Opening → List ℕ
made o = log (left o) o.since

abbrev pub own : Opening → ℕ
own o = times o.lane (made o)

-- The opening is done; since then the lane was not closed with the number that opened it; since then it was neither closed nor taken from with
-- that number. What others try with theirs is not asked about.
abbrev pub Accepted : Opening → Type 0
Accepted o = code_of (finds o) (call o) ≡ DONE

abbrev pub Unclosed : Opening → Type 0
Unclosed o = never (closes o.lane o.owner) (left o) o.since ≡ true

abbrev pub Kept : Opening → Type 0
Kept o = never (releases o.lane o.owner) (left o) o.since ≡ true

-- ---- whose a lane is

-- it is busy, and w is its owner
pub record BusyFor (w : ℕ) (l : Lane) : Type 0 where
  pub busy : l.phase ≢ idle
  pub owner : l.owner ≡ w

-- a take or close of lane n with this number gives 11, and changes nothing
pub record ShutTo (caller : ℕ) (b : Bench) (n : ℕ) : Type 0 where
  pub take : (out : List ℕ) → (take_of b n caller out ≡ record { code = NOT_THE_OWNER; made = 0; bench = b }) × (taken_bytes b n caller out ≡ out)
  pub close : close_of b n caller ≡ record { code = NOT_THE_OWNER; made = 0; bench = b }

-- a take of lane n with this number gives 7, and changes nothing
abbrev pub Early : ℕ → Bench → ℕ → Type 0
Early caller b n = (out : List ℕ) → (take_of b n caller out ≡ record { code = LANE_NOT_FINISHED; made = 0; bench = b }) × (taken_bytes b n caller out ≡ out)

-- The table of refusal 11, of lane n: what a take or close of it gives to anyone while it is idle, to its owner, and to any other number, 0 among them.
pub record Admission (b : Bench) (n : ℕ) : Type 0 where
  pub idle_take : (lane_at b.lanes n).phase ≡ idle → (caller : ℕ) → Early caller b n
  pub idle_close : (lane_at b.lanes n).phase ≡ idle → (caller : ℕ) → (close_of b n caller).code ≡ DONE
  pub own_early : (w : ℕ) → BusyFor w (lane_at b.lanes n) → (lane_at b.lanes n).phase ≡ running → Early w b n
  pub own_wrong : (w : ℕ) → BusyFor w (lane_at b.lanes n) → (lane_at b.lanes n).phase ≡ finished → (out : List ℕ) → length out ≢ 16
      → (take_of b n w out ≡ record { code = BAD_BLOCK_LENGTH; made = 0; bench = b }) × (taken_bytes b n w out ≡ out)
  pub own_take : (w : ℕ) → BusyFor w (lane_at b.lanes n) → (lane_at b.lanes n).phase ≡ finished → (out : List ℕ) → length out ≡ 16 → (take_of b n w out).code ≡ DONE
  pub own_close : (w : ℕ) → BusyFor w (lane_at b.lanes n) → (close_of b n w).code ≡ DONE
  pub others : (w : ℕ) → BusyFor w (lane_at b.lanes n) → (caller : ℕ) → caller ≢ w → ShutTo caller b n

-- A call leaves a busy lane idle, or to its owner.
abbrev pub OwnerStays : Bench → Call → Type 0
OwnerStays b c = (n w : ℕ) → BusyFor w (lane_at b.lanes n) → (lane_at (leaves b c).lanes n).phase ≢ idle → (lane_at (leaves b c).lanes n).owner ≡ w

-- A busy lane is its owner's over any calls but a take or close, accepted, with its owner's number.
abbrev pub Belongs : Bench → List Call → Type 0
Belongs b cs = (n w : ℕ) → BusyFor w (lane_at b.lanes n) → never (releases n w) b cs ≡ true → BusyFor w (lane_at (run b cs).lanes n)

-- ---- demand 3

-- Of a lane that was opened and kept: after t turns of its own it stands at 5t rounds by its key's pairs, before the eighth a take by its owner gives 7 and no bytes,
-- after the eighth a take by its owner gives the answer, and to any other number it is shut.
pub record Stands (o : Opening) : Type 0 where
  pub at_most : own o ≤ 8
  pub stands : lane_at (end o).lanes o.lane ≡ onward (pairs_of o.key) (own o) (opened o.owner o.direction o.order o.key o.block)
  pub early : own o < 8 → Early o.owner (end o) o.lane
  pub ready : own o ≡ 8 → (out : List ℕ) → length out ≡ 16
      → ((take_of (end o) o.lane o.owner out).code ≡ DONE) × (taken_bytes (end o) o.lane o.owner out ≡ answer o.direction o.order o.key o.block)
  pub only_ready : (caller : ℕ) (out : List ℕ) → (take_of (end o) o.lane caller out).code ≡ DONE → own o ≡ 8
  pub others : (caller : ℕ) → caller ≢ o.owner → ShutTo caller (end o) o.lane

-- Of a lane that was opened and not closed by its owner: among the first 128 turns made on the bench since, eight for each lane, eight are its own.
abbrev pub InTime : Opening → Type 0
InTime o = lane_count * 8 ≤ length (made o) → 8 ≤ times o.lane (take (lane_count * 8) (made o))

-- Of any lane in a history: it is held under an opening that was accepted and kept.
pub record Held (cs : List Call) (n : ℕ) : Type 0 where
  pub by : Opening
  pub whole : calls by ≡ cs
  pub lane : by.lane ≡ n
  pub accepted : Accepted by
  pub kept : Kept by

-- ---- what calls do to a bench, whoever made it

-- An accepted call for turns: how many it makes and tells, that it makes them as calls for one turn do, and that it stops only where no lane runs.
pub record Turning (b : Bench) (asked : ℕ) : Type 0 where
  pub told : (turn_of b asked).made ≡ min asked (total lacks b.lanes)
  pub logged : length (serves b (turning asked)) ≡ (turn_of b asked).made
  pub risen : total (λ l. l.count) (leaves b (turning asked)).lanes ≡ total (λ l. l.count) b.lanes + (turn_of b asked).made
  pub to_the_end : (n : ℕ) → n < lane_count → (lane_at (leaves b (turning asked)).lanes n).phase ≡ running → (turn_of b asked).made ≡ asked
  pub singly : run b (replicate asked (turning 1)) ≡ leaves b (turning asked)
  pub singly_logged : log b (replicate asked (turning 1)) ≡ serves b (turning asked)
  pub lanes : (n : ℕ) → lane_at (leaves b (turning asked)).lanes n ≡ served_times (times n (serves b (turning asked))) (lane_at b.lanes n)
  pub last : (leaves b (turning asked)).last ≡ last_of b.last (serves b (turning asked))

-- A refused call changes nothing lent, and tells no turn.
pub record Refused (b : Bench) (c : Call) : Type 0 where
  pub bench : leaves b c ≡ b
  pub buffer : (lane caller : ℕ) (out : List ℕ) → c ≡ taking lane caller out → taken_bytes b lane caller out ≡ out
  pub turns : tells b c ≡ 0
  pub log : serves b c ≡ []

-- A call changes no lane that it does not name, and only turns move the number of the lane last served.
pub record Frame (b : Bench) (c : Call) : Type 0 where
  pub lanes : (n : ℕ) → names n c ≡ false → lane_at (leaves b c).lanes n ≡ lane_at b.lanes n
  pub last : asks c ≡ 0 → (leaves b c).last ≡ b.last

-- ---- what is wiped

-- each record has eighty round words, as its type says
abbrev pub Eighty : Bench → Type 0
Eighty b = (n : ℕ) → n < lane_count → length (lane_at b.lanes n).words ≡ 80

-- every lane is idle
abbrev pub AllIdle : Bench → Type 0
AllIdle b = (n : ℕ) → n < lane_count → (lane_at b.lanes n).phase ≡ idle

-- Of a lane in a history: some call took from it or closed it, and none has opened it since.
pub record Released (cs : List Call) (n : ℕ) : Type 0 where
  pub before : List Call
  pub by : Call
  pub caller : ℕ
  pub since : List Call
  pub whole : before ++ by ∷ since ≡ cs
  pub released : releases n caller (run fresh_bench before) by ≡ true
  pub unopened : never (enters n) (leaves (run fresh_bench before) by) since ≡ true
