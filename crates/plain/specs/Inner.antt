-- Inner: a state lent as its nibbles, nibble i at place i; the number that they make, and what a step of the cipher makes of them.
use Rattle.std.specs.Prelude.{◌≡◌, Bool, true, false, ◌&&◌, List, [], ◌∷◌, ℕ, zero, suc, ◌-◌, ◌*◌, ◌/◌, ◌%◌, ◌≤◌, ◌<◌, eqb, length, get_or}
use Rattle.bits.specs.Digit.{digit, number}
use Rattle.published.specs.Rounds.{Pair, rounds, unrounds}
use Rattle.published.specs.Key.{pairs}
use Rattle.plain_key.specs.Inner.{count_of, place_of, uv_of}

unfoldable pub state_of : List ℕ → ℕ
state_of ns = number 16 (length ns) (λ i. get_or ns i 0)

-- the k low nibbles of a state
unfoldable pub nibbles_of : ℕ → ℕ → List ℕ
nibbles_of zero s = []
nibbles_of (suc k) s = digit 16 s 0 ∷ nibbles_of k (s / 16)

-- the nibbles after a step that takes the width in bits and the state
abbrev pub by : (ℕ → ℕ → ℕ) → List ℕ → List ℕ
by step ns = nibbles_of (length ns) (step (4 * length ns) (state_of ns))

-- What the steps ask: nibbles, and as many as make a width that P is for, a multiple of 16 bits, with room for the constant and no more than 128.
pub record Nibbles (ns : List ℕ) : Type 0 where
  pub small : (i : ℕ) → get_or ns i 0 < 16
  pub fours : length ns % 4 ≡ 0
  pub least : 8 ≤ length ns
  pub most : length ns ≤ 32

-- b, 0 or 1, at place q and nothing anywhere else
abbrev pub one_at : ℕ → ℕ → ℕ → Bool
one_at q b p = eqb p q && eqb b 1

abbrev pub pair : (u v : ℕ) → Pair
pair u v = record { u = u; v = v }

-- the rounds that follow r of them, by the key state that is there then; and the same undone
abbrev pub rounds_from : (nibbles key r : ℕ) → ℕ → ℕ
rounds_from n key r x = rounds (4 * n) (place_of n) (pairs (uv_of n) (count_of n - r) key) r x

abbrev pub unrounds_from : (nibbles key r : ℕ) → ℕ → ℕ
unrounds_from n key r x = unrounds (4 * n) (place_of n) (pairs (uv_of n) (count_of n - r) key) r x

-- all of them, by whether they go back
abbrev pub rounds_by : Bool → (nibbles key : ℕ) → ℕ → ℕ
rounds_by false n key x = rounds_from n key 0 x
rounds_by true n key x = unrounds_from n key 0 x
