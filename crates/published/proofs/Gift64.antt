-- GIFT-64: its width is one of those that the laws are for, and its rounds and their undoing give each other's block back, byte for byte, for every key.
use mathlib.Core.Path.{◌≡◌, refl}
use mathlib.Core.List.{List}
use Prim.Native.Nat.{ℕ, ◌^◌, ◌<◌}
use lib.ListN.{length}
use Rattle.published.specs.Bytes.{from_bytes, Bytes}
use Rattle.published.specs.Gift64.{pairs_of64, encrypted64, decrypted64}
use Rattle.published.proofs.Steps.{Width, width}
use Rattle.published.proofs.RoundTrip.{state-lt, undone, redone}

pub width64 : Width 64
width64 = width 4

-- a block of 8 bytes is a state of 64 bits
pub block_lt_64 : (block : List ℕ) → length block ≡ 8 → Bytes block → from_bytes block < 2 ^ 64
block_lt_64 = state-lt 64 8 refl

module _ (key block : List ℕ) (len : length block ≡ 8) (h : Bytes block) where
  pub decrypted_encrypted_64 : decrypted64 key (encrypted64 key block) ≡ block
  unfolding encrypted64 decrypted64
  decrypted_encrypted_64 = undone 64 8 refl block len h 0 width64 (pairs_of64 key)

  pub encrypted_decrypted_64 : encrypted64 key (decrypted64 key block) ≡ block
  unfolding encrypted64 decrypted64
  encrypted_decrypted_64 = redone 64 8 refl block len h 0 width64 (pairs_of64 key)
