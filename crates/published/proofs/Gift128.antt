-- How many pairs a key gives, that a block of 16 bytes is a state of 128 bits, and that the forty rounds by any pairs, done or undone, give a block and undo each other.
use mathlib.Core.Path.{◌≡◌, refl, ap}
use mathlib.Core.Bool.{Bool, true, false, not}
use mathlib.Core.List.{List}
use Prim.Native.Nat.{ℕ, zero, suc, ◌^◌, ◌<◌}
use lib.ListN.{length}
use Rattle.published.specs.Bytes.{from_bytes, Bytes}
use Rattle.published.specs.Rounds.{Pair}
use Rattle.published.specs.Key.{pairs, update}
use Rattle.published.specs.Gift128.{rounds_all}
use Rattle.published.proofs.Steps.{width128}
use Rattle.published.proofs.Undone.{rounds-lt, unrounds-lt, unrounds-rounds, rounds-unrounds}
use Rattle.published.proofs.RoundTrip.{state-lt}

pub length_pairs : (uv : ℕ → Pair) (r k : ℕ) → length (pairs uv r k) ≡ r
unfolding pairs
length_pairs uv zero k = refl
length_pairs uv (suc r) k = ap suc (length_pairs uv r (update k))

-- a block of 16 bytes is a state of 128 bits
pub block-lt : (block : List ℕ) → length block ≡ 16 → Bytes block → from_bytes block < 2 ^ 128
block-lt = state-lt 128 16 refl

-- either way, a block comes of a block
pub rounds_all_lt : (back : Bool) (ps : List Pair) (x : ℕ) → x < 2 ^ 128 → rounds_all back ps x < 2 ^ 128
rounds_all_lt false ps = rounds-lt 128 1 width128 ps 0
rounds_all_lt true ps = unrounds-lt 128 1 width128 ps 0

-- and each way undoes the other
pub all_undone : (back : Bool) (ps : List Pair) (x : ℕ) → x < 2 ^ 128 → rounds_all (not back) ps (rounds_all back ps x) ≡ x
all_undone false ps = unrounds-rounds 128 1 width128 ps 0
all_undone true ps = rounds-unrounds 128 1 width128 ps 0
