-- A history of a bench: any list of calls, refused ones among them, the bench that it leaves and the lanes that it serves.
use Rattle.std.specs.Prelude.{Bool, true, false, cond, ◌&&◌, not, List, [], ◌∷◌, ◌++◌, ℕ, zero, suc, eqb}
use Rattle.answers.specs.Numbers.{DONE}
use Rattle.answers.specs.Order.{if_done}
use Rattle.lane.specs.declared.Lane.{Lane}
use Rattle.lane_turns.specs.Turns.{served}
use Rattle.bench_turns.specs.declared.Bench.{Bench}
use Rattle.bench_turns.specs.Turning.{served_by}
use Rattle.bench.specs.Calls.{Answer, open_of, turn_of, take_of, close_of}

pub data Call : Type 0 where
  opening : (lane owner direction order : ℕ) (key block : List ℕ) → Call
  turning : (asked : ℕ) → Call
  taking : (lane caller : ℕ) (out : List ℕ) → Call
  closing : (lane caller : ℕ) → Call

-- what a call answers: its number, the bench that it leaves, and the turns that it tells
unfoldable pub answer_to : Bench → Call → Answer
answer_to b (opening lane owner direction order key block) = open_of b lane owner direction order key block
answer_to b (turning asked) = turn_of b asked
answer_to b (taking lane caller out) = take_of b lane caller out
answer_to b (closing lane caller) = close_of b lane caller

abbrev pub code_of : Bench → Call → ℕ
code_of b c = (answer_to b c).code

abbrev pub leaves : Bench → Call → Bench
leaves b c = (answer_to b c).bench

abbrev pub tells : Bench → Call → ℕ
tells b c = (answer_to b c).made

-- the turns that it asks for, and the lanes that it serves, one for each turn made, in order
unfoldable pub asks : Call → ℕ
asks (opening lane owner direction order key block) = 0
asks (turning asked) = asked
asks (taking lane caller out) = 0
asks (closing lane caller) = 0

unfoldable pub serves : Bench → Call → List ℕ
serves b c = if_done (code_of b c) (served_by (asks c) b) []

-- the bench after a list of calls, and the log of the turns made in it
unfoldable pub run : Bench → List Call → Bench
run b [] = b
run b (c ∷ cs) = run (leaves b c) cs

unfoldable pub log : Bench → List Call → List ℕ
log b [] = []
log b (c ∷ cs) = serves b c ++ log (leaves b c) cs

-- how many turns of a log are lane n's own
unfoldable pub times : ℕ → List ℕ → ℕ
times n [] = 0
times n (i ∷ is) = cond (eqb i n) (suc (times n is)) (times n is)

-- the lane served last in a log, or i where it is empty
unfoldable pub last_of : ℕ → List ℕ → ℕ
last_of i [] = i
last_of i (j ∷ js) = last_of j js

-- whether a call may change lane n
unfoldable pub names : ℕ → Call → Bool
names n (opening lane owner direction order key block) = eqb lane n
names n (turning asked) = true
names n (taking lane caller out) = eqb lane n
names n (closing lane caller) = eqb lane n

-- whether a call opens lane n; whether it closes it with the number w; whether it takes from it or closes it with the number w
unfoldable pub enters : ℕ → Bench → Call → Bool
enters n b (opening lane owner direction order key block) = eqb lane n && eqb (open_of b lane owner direction order key block).code DONE
enters n b (turning asked) = false
enters n b (taking lane caller out) = false
enters n b (closing lane caller) = false

unfoldable pub closes : (n w : ℕ) → Bench → Call → Bool
closes n w b (opening lane owner direction order key block) = false
closes n w b (turning asked) = false
closes n w b (taking lane caller out) = false
closes n w b (closing lane caller) = eqb lane n && eqb caller w && eqb (close_of b lane caller).code DONE

unfoldable pub releases : (n w : ℕ) → Bench → Call → Bool
releases n w b (opening lane owner direction order key block) = false
releases n w b (turning asked) = false
releases n w b (taking lane caller out) = eqb lane n && eqb caller w && eqb (take_of b lane caller out).code DONE
releases n w b (closing lane caller) = eqb lane n && eqb caller w && eqb (close_of b lane caller).code DONE

-- no call of a list does it
unfoldable pub never : (Bench → Call → Bool) → Bench → List Call → Bool
never p b [] = true
never p b (c ∷ cs) = not (p b c) && never p (leaves b c) cs

-- a record after t turns of its own
unfoldable pub served_times : ℕ → Lane → Lane
served_times zero l = l
served_times (suc t) l = served (served_times t l)
