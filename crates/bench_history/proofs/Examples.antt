-- Small histories, computed: document 01's cases of the bench at its count of lanes, one of each refusal, and who owns what. (The cipher stays shut.)
-- But for the first line of the first claim they are said of whatever count `lane_count` has, and hold of others too.
use mathlib.Core.Path.{◌≡◌, refl, ap}
use mathlib.Core.Bool.{cond}
use mathlib.Core.List.{List, [], ◌∷◌, ◌++◌, map}
use Prim.Native.Nat.{ℕ, zero, suc, ◌+◌, ◌-◌, ◌*◌, ◌%◌}
use lib.Dec.{eqb}
use lib.ListN.{length, get_or, take, replicate}
use borrow.Author.Tests.{eqb-false}
use Rattle.lane.specs.Record.{idle_lane, everything, all_zero, sound_count, sound_lane, admits}
use Rattle.lane_turns.specs.Turns.{opened, served, lacks}
use Rattle.bench_orders.specs.Orders.{lane_count, open_code, turn_code, take_code, close_code}
use Rattle.bench_turns.specs.declared.Bench.{Bench}
use Rattle.bench_turns.specs.Turning.{runs, after, seek, chosen, any_runs, turned, turned_by, served_by, total}
use Rattle.bench_turns.specs.Sound.{all_sound, sound_bench}
use Rattle.bench.specs.Calls.{fresh_bench, put, answered, open_of, turn_of, take_of, close_of}
use Rattle.bench_history.specs.History.{Call, opening, turning, taking, closing, answer_to, code_of, leaves, tells, asks, serves, run, log, times, never, closes, releases}
use Rattle.bench_history.specs.Promises.{Opening, Accepted, Unclosed, Kept, made, own}
use Rattle.bench_history.specs.Guests.{same, opens, takes, Pairwise, none, more}

bytes : ℕ → List ℕ
bytes n = replicate n 0

-- a guest, and another whose number has the same low byte
guest : ℕ
guest = 1

other : ℕ
other = 257

-- lane i opened to encrypt, in order 0, and to decrypt, in order 1
encrypts : ℕ → Call
encrypts i = opening i guest 0 0 (bytes 16) (bytes 16)

decrypts : ℕ → Call
decrypts i = opening i guest 1 1 (bytes 16) (bytes 16)

-- the last lane, and the first k lanes opened in order, one way and the other in turn
last : ℕ
last = lane_count - 1

open_all : ℕ → List Call
open_all zero = []
open_all (suc k) = open_all k ++ cond (eqb (k % 2) 0) (encrypts k) (decrypts k) ∷ []

-- the lanes' phases after a history, their counts, and the numbers given in it
phases : List Call → List ℕ
phases cs = map (λ l. l.phase) (run fresh_bench cs).lanes

counts : List Call → List ℕ
counts cs = map (λ l. l.count) (run fresh_bench cs).lanes

numbers : Bench → List Call → List ℕ
numbers b [] = []
numbers b (c ∷ cs) = code_of b c ∷ numbers (leaves b c) cs

-- a bench that no call made: so many idle records, and this last served number
bench_with : ℕ → ℕ → Bench
bench_with n served = record { lanes = replicate n idle_lane; last = served }

-- how many lanes there are; all opened in order, and one turn short of the last, and the last; the same in three calls; one lane open; no lane open; whose turn it is
examples :
    (lane_count * 8 ≡ 128)
    × (phases (open_all lane_count ++ turning (lane_count * 8 - 1) ∷ []) ≡ replicate last 2 ++ 1 ∷ [])
    × (counts (open_all lane_count ++ turning (lane_count * 8 - 1) ∷ []) ≡ replicate last 8 ++ 7 ∷ [])
    × (phases (open_all lane_count ++ turning (lane_count * 8) ∷ []) ≡ replicate lane_count 2)
    × (phases (open_all lane_count ++ turning 7 ∷ turning 0 ∷ turning (lane_count * 8 - 8) ∷ []) ≡ replicate last 2 ++ 1 ∷ [])
    × (tells (run fresh_bench (encrypts 2 ∷ [])) (turning 100) ≡ 8)
    × (tells (run fresh_bench (open_all lane_count)) (turning 1024) ≡ lane_count * 8)
    × (tells fresh_bench (turning 1024) ≡ 0)
    × (numbers fresh_bench (turning 1024 ∷ turning 1025 ∷ []) ≡ 0 ∷ 8 ∷ [])
    × (log fresh_bench (encrypts 0 ∷ encrypts last ∷ turning 2 ∷ closing 0 guest ∷ encrypts 0 ∷ turning 3 ∷ []) ≡ 0 ∷ last ∷ 0 ∷ last ∷ 0 ∷ [])
    × (log fresh_bench (encrypts 1 ∷ turning 1 ∷ encrypts 0 ∷ encrypts 2 ∷ turning 3 ∷ []) ≡ 1 ∷ 2 ∷ 0 ∷ 1 ∷ [])
unfolding
    bytes guest other encrypts decrypts last open_all phases counts numbers bench_with sound_count sound_lane admits everything all_zero idle_lane opened served lane_count runs after seek chosen any_runs turned turned_by served_by lacks total
    fresh_bench all_sound sound_bench put answered open_code open_of turn_code turn_of take_code take_of close_code close_of answer_to asks serves run log
examples = (refl, refl, refl, refl, refl, refl, refl, refl, refl, refl, refl)

-- the numbers of each call in their order; the last lane accepted, and the next refused; the last lane as last served, and the next; other numbers of records
refusals :
    (numbers fresh_bench (encrypts 1 ∷ turning 7 ∷ taking 1 guest (bytes 16) ∷ turning 1 ∷ taking 1 guest (bytes 17) ∷ taking 1 guest (bytes 16) ∷ taking 1 guest (bytes 16) ∷ []) ≡ 0 ∷ 0 ∷ 7 ∷ 0 ∷ 2 ∷ 0 ∷ 7 ∷ [])
    × (numbers fresh_bench (encrypts lane_count ∷ encrypts last ∷ encrypts last ∷ opening 1 guest 2 2 (bytes 15) (bytes 15) ∷ opening 1 guest 1 2 (bytes 15) (bytes 15) ∷ opening 1 guest 1 1 (bytes 15) (bytes 15) ∷ opening 1 guest 1 0 (bytes 16) (bytes 15) ∷ []) ≡ 5 ∷ 0 ∷ 6 ∷ 9 ∷ 13 ∷ 1 ∷ 2 ∷ [])
    × (numbers fresh_bench (taking lane_count guest (bytes 16) ∷ closing lane_count guest ∷ closing last guest ∷ []) ≡ 5 ∷ 5 ∷ 0 ∷ [])
    × (numbers (bench_with lane_count last) (turning 1 ∷ closing 0 guest ∷ []) ≡ 0 ∷ 0 ∷ [])
    × (numbers (bench_with lane_count lane_count) (encrypts lane_count ∷ turning 1025 ∷ taking lane_count guest [] ∷ closing 0 guest ∷ []) ≡ 10 ∷ 10 ∷ 10 ∷ 10 ∷ [])
    × (numbers (bench_with last 0) (turning 1 ∷ closing 0 guest ∷ []) ≡ 10 ∷ 10 ∷ [])
    × (numbers (bench_with (lane_count + 1) 0) (turning 1 ∷ closing 0 guest ∷ []) ≡ 10 ∷ 10 ∷ [])
    × (numbers (bench_with (lane_count - 12) 0) (turning 1 ∷ closing 0 guest ∷ []) ≡ 10 ∷ 10 ∷ [])
unfolding
    bytes guest other encrypts decrypts last open_all phases counts numbers bench_with sound_count sound_lane admits everything all_zero idle_lane opened served lane_count runs after seek chosen any_runs turned turned_by served_by lacks total
    fresh_bench all_sound sound_bench put answered open_code open_of turn_code turn_of take_code take_of close_code close_of answer_to asks serves run log
refusals = (refl, refl, refl, refl, refl, refl, refl, refl)

-- refusal 11: a finished lane, a running one and an idle one, each taken from and closed by another, by 0 and by its owner; openings by 0, by numbers whose
-- low byte is 0, and in the orders' places
owners :
    (numbers fresh_bench (encrypts 1 ∷ turning 8 ∷ taking 1 other (bytes 16) ∷ taking 1 0 (bytes 16) ∷ taking 1 other (bytes 15) ∷ closing 1 other ∷ closing 1 0 ∷ taking 1 guest (bytes 15) ∷ taking 1 guest (bytes 16) ∷ [])
    ≡ 0 ∷ 0 ∷ 11 ∷ 11 ∷ 11 ∷ 11 ∷ 11 ∷ 2 ∷ 0 ∷ [])
    × (numbers fresh_bench (encrypts 1 ∷ turning 7 ∷ taking 1 other (bytes 16) ∷ closing 1 other ∷ closing 1 0 ∷ taking 1 guest (bytes 16) ∷ closing 1 guest ∷ []) ≡ 0 ∷ 0 ∷ 11 ∷ 11 ∷ 11 ∷ 7 ∷ 0 ∷ [])
    × (numbers fresh_bench (taking 1 guest [] ∷ taking 1 0 [] ∷ closing 1 guest ∷ closing 1 0 ∷ taking lane_count 0 [] ∷ closing lane_count 0 ∷ []) ≡ 7 ∷ 7 ∷ 0 ∷ 0 ∷ 5 ∷ 5 ∷ [])
    × (numbers fresh_bench (opening 1 256 0 0 (bytes 16) (bytes 16) ∷ opening 2 512 0 1 (bytes 16) (bytes 16) ∷ opening 1 0 2 2 [] [] ∷ opening 3 0 2 2 [] [] ∷ opening lane_count 0 2 2 [] [] ∷ closing 1 512 ∷ closing 1 256 ∷ [])
    ≡ 0 ∷ 0 ∷ 6 ∷ 11 ∷ 5 ∷ 11 ∷ 0 ∷ [])
    × (map (λ l. l.owner) (take 3 (run fresh_bench (encrypts 1 ∷ opening 2 512 1 1 (bytes 16) (bytes 16) ∷ turning 9 ∷ taking 1 other (bytes 16) ∷ [])).lanes) ≡ 0 ∷ guest ∷ 512 ∷ [])
    × (map (λ l. l.owner) (take 3 (run fresh_bench (encrypts 1 ∷ opening 2 512 1 1 (bytes 16) (bytes 16) ∷ closing 1 guest ∷ closing 2 guest ∷ [])).lanes) ≡ 0 ∷ 0 ∷ 512 ∷ [])
unfolding
    bytes guest other encrypts decrypts last open_all phases counts numbers bench_with sound_count sound_lane admits everything all_zero idle_lane opened served lane_count runs after seek chosen any_runs turned turned_by served_by lacks total
    fresh_bench all_sound sound_bench put answered open_code open_of turn_code turn_of take_code take_of close_code close_of answer_to asks serves run log
owners = (refl, refl, refl, refl, refl, refl)

-- Two lists that the promise of `Guests` speaks of: they differ in the key and block of the other guest's openings, the second of them refused, and in what it
-- lends for its take; the guest's own opening and take are the same, and every call but that opening and the other's take is done.
twin : ℕ → List Call
twin x =
    encrypts 0 ∷ opening 1 other 1 1 (replicate 16 x) (replicate 16 x) ∷ opening 1 other 1 1 (replicate 16 x) (replicate 15 x) ∷ turning 16
    ∷ taking 0 other (replicate 16 x) ∷ taking 0 guest (bytes 16) ∷ []

twins : (x y : ℕ) → Pairwise guest (twin x) (twin y)
unfolding twin guest other
twins x y =
    more _ _ _ _ (same (encrypts 0))
    (more _ _ _ _ (opens 1 257 1 1 _ _ (replicate 16 y) (replicate 16 y) (eqb-false 257 1 refl) refl refl)
    (more _ _ _ _ (opens 1 257 1 1 _ _ (replicate 16 y) (replicate 15 y) (eqb-false 257 1 refl) refl refl)
    (more _ _ _ _ (same (turning 16))
    (more _ _ _ _ (takes 0 257 _ (replicate 16 y) (eqb-false 257 1 refl) refl)
    (more _ _ _ _ (same (taking 0 1 (bytes 16))) none)))))

-- the first byte of the other's key, by which two of these lists are not the same
key_of : Call → List ℕ
key_of (opening lane owner direction order key block) = key
key_of (turning asked) = []
key_of (taking lane caller out) = []
key_of (closing lane caller) = []

key_byte : List Call → ℕ
key_byte cs = get_or (key_of (get_or cs 1 (turning 0))) 0 0

twins_differ : (twin 3 ≡ twin 4 → ⊥) × (numbers fresh_bench (twin 3) ≡ 0 ∷ 0 ∷ 6 ∷ 0 ∷ 11 ∷ 0 ∷ [])
unfolding
    twin key_of key_byte
    bytes guest other encrypts decrypts last open_all phases counts numbers bench_with sound_count sound_lane admits everything all_zero idle_lane opened served lane_count runs after seek chosen any_runs turned turned_by served_by lacks total
    fresh_bench all_sound sound_bench put answered open_code open_of turn_code turn_of take_code take_of close_code close_of answer_to asks serves run log
twins_differ = (λ e. eqb-false 3 4 refl (ap key_byte e), refl)

-- An opening that meets what the promises ask of one, with the last of its 128 turns the lane's eighth: no hypothesis is out of reach, and 128 is reached.
latest : Opening
latest =
    record {
      before = open_all last ++ encrypts 2 ∷ [];
      lane = last;
      owner = guest;
      direction = 1;
      order = 1;
      key = bytes 16;
      block = bytes 16;
      since = taking last guest (bytes 16) ∷ closing last other ∷ closing last 0 ∷ turning 1025 ∷ closing lane_count guest ∷ turning (lane_count * 8 - 1) ∷ taking last other (bytes 16) ∷ decrypts last ∷ turning 1
          ∷ taking last other (bytes 16) ∷ [];
    }

reached_by_one : Accepted latest × Unclosed latest × Kept latest × (length (made latest) ≡ lane_count * 8) × (times last (take (lane_count * 8 - 1) (made latest)) ≡ 7) × (own latest ≡ 8)
unfolding
    bytes guest other encrypts decrypts last open_all sound_count sound_lane admits everything all_zero idle_lane opened served lane_count runs after seek chosen any_runs turned turned_by served_by lacks total
    fresh_bench all_sound sound_bench put answered open_code open_of turn_code turn_of take_code take_of close_code close_of answer_to asks serves run log
    latest times never closes releases
reached_by_one = (refl, refl, refl, refl, refl, refl)
