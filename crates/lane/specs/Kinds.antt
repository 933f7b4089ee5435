-- A lane's phases and directions, by their numbers.
use Rattle.std.specs.Prelude.{◌≡◌, ℕ, ◌<◌, Result, MatchResult}
use Rattle.answers.specs.declared.Refusal.{Refusal}
use Rattle.answers.specs.declared.Refusal.TheVariants.{BadDirection, BadBench}
use Rattle.lane.specs.declared.Phase.{Phase}
use Rattle.lane.specs.declared.Phase.TheVariants.{Idle, Running, Finished}
use Rattle.lane.specs.declared.Direction.{Direction}
use Rattle.lane.specs.declared.Direction.TheVariants.{Encrypt, Decrypt}
use Rattle.lane.specs.Record.{idle, running, finished}

abbrev pub number_of_phase : Phase → ℕ
number_of_phase Idle = idle
number_of_phase Running = running
number_of_phase Finished = finished

abbrev pub number_of_direction : Direction → ℕ
number_of_direction Encrypt = 0
number_of_direction Decrypt = 1

-- the phase with this number, or the refusal of a record that is not sound, where no phase has it
abbrev pub PhaseOf : ℕ → Result Phase Refusal → Type 0
PhaseOf n r = MatchResult r (λ phase. number_of_phase phase ≡ n) (λ refusal. (refusal ≡ BadBench) × (finished < n))

-- the direction with this number, or the refusal of one that there is not
abbrev pub DirectionOf : ℕ → Result Direction Refusal → Type 0
DirectionOf n r = MatchResult r (λ direction. number_of_direction direction ≡ n) (λ refusal. (refusal ≡ BadDirection) × (1 < n))
