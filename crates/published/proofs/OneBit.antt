-- One bit of a round, at every width: bit j of the table's entry for the nibble that P moves there, with what key and constant put in.
use mathlib.Core.Path.{◌≡◌, ap, ◌∙◌}
use mathlib.Core.Bool.{Bool}
use Prim.Native.Nat.{ℕ, ◌+◌, ◌*◌, ◌/◌, ◌%◌, ◌<◌}
use native.Mathlib.Omega.{arith}
use Rattle.bits.specs.Digit.{digit, bit, ◌⊕◌}
use Rattle.published.specs.Rounds.{Pair, entry, sub_cells, perm_bits, xored, key_bit, constant_bit, round}
use Rattle.published.specs.Inner.{back}
use Rattle.published.proofs.Steps.{Width, entry_lt, bit-sub_cells, bit-perm_bits, bit-xored}

module _ (w : ℕ) (ok : Width w) (n j : ℕ) (hn : n < w / 4) (hj : j < 4) where
  place-lt : 4 * n + j < w
  place-lt = omega (arith, ok.whole)

  -- P keeps the place in a nibble, and comes from a nibble
  back_keeps : back w (4 * n + j) ≡ 4 * (back w (4 * n + j) / 4) + j
  back_keeps = let low : (4 * n + j) % 4 ≡ j = omega arith in omega arith

  pub source_lt : back w (4 * n + j) / 4 < w / 4
  source_lt = omega (arith, ok.whole, ok.back_lt (4 * n + j) place-lt)

  pub bit-round : (J : ℕ) (p : Pair) (c b : ℕ)
      → bit (round w J p c b) (4 * n + j) ≡ bit (entry (digit 16 b (back w (4 * n + j) / 4))) j ⊕ key_bit J p (4 * n + j) ⊕ constant_bit w c (4 * n + j)
  unfolding round
  bit-round J p c b =
      bit-xored w (constant_bit w c) (xored w (key_bit J p) (perm_bits w (sub_cells entry w b))) (4 * n + j) place-lt
      ∙ ap (λ (x : Bool). x ⊕ constant_bit w c (4 * n + j))
      (bit-xored w (key_bit J p) (perm_bits w (sub_cells entry w b)) (4 * n + j) place-lt
      ∙ ap (λ (x : Bool). x ⊕ key_bit J p (4 * n + j))
      (bit-perm_bits w ok (sub_cells entry w b) (4 * n + j) place-lt ∙ ap (bit (sub_cells entry w b)) back_keeps
      ∙ bit-sub_cells w ok entry entry_lt b (back w (4 * n + j) / 4) j source_lt hj))
