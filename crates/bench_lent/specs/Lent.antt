-- What each call over lent records promises: its number, and the records that it leaves, are those of the same call on the bench of these records.
use Rattle.std.specs.Prelude.{◌≡◌, List, ℕ}
use Rattle.lane.specs.declared.Lane.{Lane}
use Rattle.bench_turns.specs.declared.Bench.{Bench}
use Rattle.bench.specs.Calls.{Answer, open_of, turn_of, take_of, taken_bytes, close_of}
use Rattle.bench_lent.specs.declared.Turns.{Turns}

-- the bench of these records and this last served number
abbrev pub bench_of : List Lane → ℕ → Bench
bench_of records last = record { lanes = records; last = last }

-- the number r and the records e afterwards are those of the answer a
abbrev pub Leaves : Answer → ℕ → List Lane → Type 0
Leaves a r e = (r ≡ a.code) × (e ≡ a.bench.lanes)

abbrev pub Opens : (records : List Lane) (last lane owner direction order : ℕ) (key block : List ℕ) → ℕ → List Lane → Type 0
Opens records last lane owner direction order key block = Leaves (open_of (bench_of records last) lane owner direction order key block)

-- what a call for turns tells of an answer: the last served number comes back too
abbrev pub tells : Answer → Turns
tells a = record { code = a.code; made = a.made; last = a.bench.last }

abbrev pub Serves : (records : List Lane) (last asked : ℕ) → Turns → List Lane → Type 0
Serves records last asked r e = (r ≡ tells (turn_of (bench_of records last) asked)) × (e ≡ (turn_of (bench_of records last) asked).bench.lanes)

-- and what stands afterwards in the buffer that was lent for a take
abbrev pub Takes : (records : List Lane) (last lane caller : ℕ) (out : List ℕ) → ℕ → List Lane → List ℕ → Type 0
Takes records last lane caller out r e u = Leaves (take_of (bench_of records last) lane caller out) r e × (u ≡ taken_bytes (bench_of records last) lane caller out)

abbrev pub Closes : (records : List Lane) (last lane caller : ℕ) → ℕ → List Lane → Type 0
Closes records last lane caller = Leaves (close_of (bench_of records last) lane caller)
