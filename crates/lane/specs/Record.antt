-- A lane's record: the idle one, what makes it sound, and whom it admits.
use Rattle.std.specs.Prelude.{Bool, true, false, not, ◌&&◌, ◌||◌, List, [], ◌∷◌, ℕ, zero, suc, eqb, leb, replicate}
use Rattle.published.specs.Seen.{is_order}
use Rattle.packing.specs.Packing.{no_words}
use Rattle.lane.specs.declared.Lane.{Lane}

abbrev pub idle : ℕ
idle = 0

abbrev pub running : ℕ
running = 1

abbrev pub finished : ℕ
finished = 2

-- An idle lane is all zero: a fresh one, and one that was taken from or closed.
unfoldable pub idle_lane : Lane
idle_lane = record { phase = idle; direction = 0; owner = 0; count = 0; order = 0; words = replicate 80 0; state = no_words }

-- everything in a record, and whether it is all zero
unfoldable pub everything : Lane → List ℕ
everything l = l.phase ∷ l.direction ∷ l.owner ∷ l.count ∷ l.order ∷ l.state.s0 ∷ l.state.s1 ∷ l.state.s2 ∷ l.state.s3 ∷ l.words

unfoldable pub all_zero : List ℕ → Bool
all_zero [] = true
all_zero (x ∷ xs) = eqb x 0 && all_zero xs

-- running with count 0 to 7, or finished with count 8
unfoldable pub sound_count : ℕ → ℕ → Bool
sound_count zero c = false
sound_count (suc zero) c = leb c 7
sound_count (suc (suc zero)) c = eqb c 8
sound_count (suc (suc (suc p))) c = false

-- all zero, or busy with an owner, direction 0 or 1 and an order that there is: the owner is 0 exactly where the lane is idle
unfoldable pub sound_lane : Lane → Bool
sound_lane l = all_zero (everything l) || not (eqb l.owner 0) && leb l.direction 1 && is_order l.order && sound_count l.phase l.count

-- An idle lane is open to anyone, a busy one to its owner.
unfoldable pub admits : Lane → (caller : ℕ) → Bool
admits l caller = eqb l.phase idle || eqb l.owner caller
