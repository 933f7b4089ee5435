-- Inner: four states, kept word by word in four lists, what a function does in every lane, and fours of them side by side.
use Rattle.std.specs.Prelude.{◌≡◌, Bool, List, ℕ, zero, suc, ◌<◌, get_or, Option, Some, None}
use Rattle.published.specs.Gift128.{rounds_all}
use Rattle.published.specs.Seen.{read_in, write_in}
use Rattle.primitives.specs.declared.State.{State}
use Rattle.primitives.specs.Words.{swapped_low, swapped_high}
use Rattle.primitives.specs.Packed.{block_of, state_of}
use Rattle.round_words.specs.Arranged.{pairs_from}
use Rattle.eight.specs.declared.Lanes.{Lanes}
use Rattle.eight.specs.declared.Fours.{Fours}

-- the state of lane k
abbrev pub state_at : (a b c d : List ℕ) → ℕ → State
state_at a b c d k = record { s0 = get_or a k 0; s1 = get_or b k 0; s2 = get_or c k 0; s3 = get_or d k 0 }

abbrev pub lane_at : Lanes → ℕ → State
lane_at s k = state_at s.a s.b s.c s.d k

-- lane k holds g k, in each of the four
pub record Holds (g : ℕ → State) (r : Lanes) : Type 0 where
  pub lane : (k : ℕ) → k < 4 → lane_at r k ≡ g k

-- each of the four states has become one that R has for it
pub record EachBy (R : State → State → Type 0) (s r : Lanes) : Type 0 where
  pub lane : (k : ℕ) → k < 4 → R (lane_at s k) (lane_at r k)

-- four where there were four
abbrev pub IfFour : (State → State → Type 0) → Option Lanes → Option Lanes → Type 0
IfFour R (Some s) (Some r) = EachBy R s r
IfFour R None None = Unit {0}
IfFour R _ _ = ⊥

-- fours, two of them or three
pub record EveryBy (R : State → State → Type 0) (s r : Fours) : Type 0 where
  pub x_gone : EachBy R s.x r.x
  pub y_gone : EachBy R s.y r.y
  pub z_gone : IfFour R s.z r.z

-- a state that has gone through f
abbrev pub Gone : (State → State) → State → State → Type 0
Gone f x y = y ≡ f x

abbrev pub Each : (State → State) → Lanes → Lanes → Type 0
Each f = EachBy (Gone f)

abbrev pub Through : (State → State) → Fours → Fours → Type 0
Through f = EveryBy (Gone f)

-- the state of the block that one order reads of the bytes that another wrote
abbrev pub rewritten : (from to : ℕ) → State → State
rewritten from to s = state_of (read_in to (write_in from (block_of s)))

-- what is done to a state that was read as order 1 has it, so that it is as its own order has it; and to one that is to be put as order 1 has it
abbrev pub arriving : (order : ℕ) → State → State
arriving zero s = rewritten 1 0 s
arriving (suc _) s = s

abbrev pub leaving : (order : ℕ) → State → State
leaving zero s = rewritten 0 1 s
leaving (suc _) s = s

-- the forty rounds, done or undone, by any eighty words
abbrev pub forty : (back : Bool) → List ℕ → State → State
forty back ws s = state_of (rounds_all back (pairs_from 0 ws) (block_of s))

-- bits exchanged between the first two words, and between the last two
unfoldable pub crossed : ℕ → ℕ → State → State
crossed mask n s =
    record {
      s0 = swapped_high s.s0 s.s1 mask n;
      s1 = swapped_low s.s0 s.s1 mask n;
      s2 = swapped_high s.s2 s.s3 mask n;
      s3 = swapped_low s.s2 s.s3 mask n;
    }
