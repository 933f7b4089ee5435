-- Where P moves the bits of four neighbouring nibbles: a test of the eight groups of four for each bit.
use mathlib.Core.Path.{◌≡◌}
use Prim.Native.Nat.{ℕ, ◌+◌, ◌*◌, ◌<◌}
use Rattle.bits.proofs.Computed.{agree}
use Rattle.published.specs.Rounds.{P}

abbrev Goes : (n a b c d : ℕ) → Type 0
Goes n a b c d = (4 * a ≡ P 128 (4 * n)) × (4 * b + 1 ≡ P 128 (4 * n + 1)) × (4 * c + 2 ≡ P 128 (4 * n + 2)) × (4 * d + 3 ≡ P 128 (4 * n + 3))

module _ (g : ℕ) (h : g < 8) where
  pub first : Goes (4 * g) g (g + 8) (g + 16) (g + 24)
  unfolding P
  first = (
    agree 8 (λ g. 4 * g) (λ g. P 128 (4 * (4 * g))) tt g h,
    agree 8 (λ g. 4 * (g + 8) + 1) (λ g. P 128 (4 * (4 * g) + 1)) tt g h,
    agree 8 (λ g. 4 * (g + 16) + 2) (λ g. P 128 (4 * (4 * g) + 2)) tt g h,
    agree 8 (λ g. 4 * (g + 24) + 3) (λ g. P 128 (4 * (4 * g) + 3)) tt g h,
  )

  pub second : Goes (4 * g + 1) (g + 24) g (g + 8) (g + 16)
  unfolding P
  second = (
    agree 8 (λ g. 4 * (g + 24)) (λ g. P 128 (4 * (4 * g + 1))) tt g h,
    agree 8 (λ g. 4 * g + 1) (λ g. P 128 (4 * (4 * g + 1) + 1)) tt g h,
    agree 8 (λ g. 4 * (g + 8) + 2) (λ g. P 128 (4 * (4 * g + 1) + 2)) tt g h,
    agree 8 (λ g. 4 * (g + 16) + 3) (λ g. P 128 (4 * (4 * g + 1) + 3)) tt g h,
  )

  pub third : Goes (4 * g + 2) (g + 16) (g + 24) g (g + 8)
  unfolding P
  third = (
    agree 8 (λ g. 4 * (g + 16)) (λ g. P 128 (4 * (4 * g + 2))) tt g h,
    agree 8 (λ g. 4 * (g + 24) + 1) (λ g. P 128 (4 * (4 * g + 2) + 1)) tt g h,
    agree 8 (λ g. 4 * g + 2) (λ g. P 128 (4 * (4 * g + 2) + 2)) tt g h,
    agree 8 (λ g. 4 * (g + 8) + 3) (λ g. P 128 (4 * (4 * g + 2) + 3)) tt g h,
  )

  pub fourth : Goes (4 * g + 3) (g + 8) (g + 16) (g + 24) g
  unfolding P
  fourth = (
    agree 8 (λ g. 4 * (g + 8)) (λ g. P 128 (4 * (4 * g + 3))) tt g h,
    agree 8 (λ g. 4 * (g + 16) + 1) (λ g. P 128 (4 * (4 * g + 3) + 1)) tt g h,
    agree 8 (λ g. 4 * (g + 24) + 2) (λ g. P 128 (4 * (4 * g + 3) + 2)) tt g h,
    agree 8 (λ g. 4 * g + 3) (λ g. P 128 (4 * (4 * g + 3) + 3)) tt g h,
  )
