-- A guest learns nothing of the others but which lanes are busy and how many turns were made: what may differ between two lists of calls, what a
-- guest is told in each of them, and that it is the same.
use Rattle.std.specs.Prelude.{◌≡◌, Bool, false, cond, List, [], ◌∷◌, ◌≢◌, ℕ, eqb, length}
use Rattle.bench_turns.specs.declared.Bench.{Bench}
use Rattle.bench.specs.Calls.{fresh_bench, taken_bytes}
use Rattle.bench_history.specs.History.{Call, opening, turning, taking, closing, code_of, leaves, tells}

-- ---- what may differ: the values of key and block bytes in openings by others than g, and of the bytes that others lend for their takes (a buffer
-- used twice holds that guest's former block); never a length, a lane, a number, a direction, an order of bytes, or the calls' kinds and order

pub data Alike (g : ℕ) : Call → Call → Type 0 where
  same : (c : Call) → Alike g c c
  opens : (lane owner direction order : ℕ) (key block keys blocks : List ℕ) → owner ≢ g → length key ≡ length keys → length block ≡ length blocks
      → Alike g (opening lane owner direction order key block) (opening lane owner direction order keys blocks)
  takes : (lane caller : ℕ) (out into : List ℕ) → caller ≢ g → length out ≡ length into → Alike g (taking lane caller out) (taking lane caller into)

pub data Pairwise (g : ℕ) : List Call → List Call → Type 0 where
  none : Pairwise g [] []
  more : (c d : Call) (cs ds : List Call) → Alike g c d → Pairwise g cs ds → Pairwise g (c ∷ cs) (d ∷ ds)

-- ---- what guest g is told of a call: its number, the turns told and, if it is a take with g's number, what stands in the buffer afterwards

pub record Told : Type 0 where
  pub code : ℕ
  pub turns : ℕ
  pub bytes : List ℕ

unfoldable pub takes_as : ℕ → Call → Bool
takes_as g (opening lane owner direction order key block) = false
takes_as g (turning asked) = false
takes_as g (taking lane caller out) = eqb caller g
takes_as g (closing lane caller) = false

-- the buffer of a take after it; other calls have none
unfoldable pub buffer : Bench → Call → List ℕ
buffer b (opening lane owner direction order key block) = []
buffer b (turning asked) = []
buffer b (taking lane caller out) = taken_bytes b lane caller out
buffer b (closing lane caller) = []

unfoldable pub told : ℕ → Bench → Call → Told
told g b c = record { code = code_of b c; turns = tells b c; bytes = cond (takes_as g c) (buffer b c) [] }

-- what it is told of every call of a list, its own and the others'
unfoldable pub learns : ℕ → Bench → List Call → List Told
learns g b [] = []
learns g b (c ∷ cs) = told g b c ∷ learns g (leaves b c) cs

-- ---- the promise: for any guest g, any two lists that differ in no more than that tell it the same, call by call

abbrev pub Apart : Type 0
Apart = (g : ℕ) (cs ds : List Call) → Pairwise g cs ds → learns g fresh_bench cs ≡ learns g fresh_bench ds
