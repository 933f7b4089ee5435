-- Rounds and their undoing give each other's block back, byte for byte, at every width and for any pairs.
use mathlib.Core.Path.{◌≡◌, sym, ap, ◌∙◌}
use mathlib.Core.List.{List}
use Prim.Native.Nat.{ℕ, ◌^◌, ◌<◌}
use lib.ListN.{length}
use Rattle.published.specs.Bytes.{from_bytes, to_bytes, Bytes}
use Rattle.published.specs.Rounds.{Pair, rounds, unrounds}
use Rattle.published.proofs.Reading.{from_to, to_from, from_bytes-lt}
use Rattle.published.proofs.Steps.{Width}
use Rattle.published.proofs.Undone.{rounds-lt, unrounds-lt, unrounds-rounds, rounds-unrounds}

-- a block of `size` bytes is a state of n bits
module _ (n size : ℕ) (whole : 256 ^ size ≡ 2 ^ n) (block : List ℕ) (len : length block ≡ size) (h : Bytes block) where
  pub state-lt : from_bytes block < 2 ^ n
  state-lt = rw (len, whole) at (from_bytes-lt block h)

  module _ (j : ℕ) (ok : Width n) (ps : List Pair) where
    same : to_bytes size (from_bytes block) ≡ block
    same = ap (λ (k : ℕ). to_bytes k (from_bytes block)) (sym len) ∙ to_from block h

    -- what was written is read again
    again : (x : ℕ) → x < 2 ^ n → from_bytes (to_bytes size x) ≡ x
    again x l = from_to size x (rw whole l)

    pub undone : to_bytes size (unrounds n j ps 0 (from_bytes (to_bytes size (rounds n j ps 0 (from_bytes block))))) ≡ block
    undone =
        ap (λ (x : ℕ). to_bytes size (unrounds n j ps 0 x)) (again (rounds n j ps 0 (from_bytes block)) (rounds-lt n j ok ps 0 (from_bytes block) state-lt))
        ∙ ap (to_bytes size) (unrounds-rounds n j ok ps 0 (from_bytes block) state-lt)
        ∙ same

    pub redone : to_bytes size (rounds n j ps 0 (from_bytes (to_bytes size (unrounds n j ps 0 (from_bytes block))))) ≡ block
    redone =
        ap (λ (x : ℕ). to_bytes size (rounds n j ps 0 x)) (again (unrounds n j ps 0 (from_bytes block)) (unrounds-lt n j ok ps 0 (from_bytes block) state-lt))
        ∙ ap (to_bytes size) (rounds-unrounds n j ok ps 0 (from_bytes block) state-lt)
        ∙ same
