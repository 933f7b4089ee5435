-- Two keys that give the same pairs are equal: the pairs of the first two rounds are all 128 bits of a key.
use mathlib.Core.Path.{◌≡◌, sym, ap, ◌∙◌}
use mathlib.Core.List.{List, [], ◌∷◌}
use Prim.Native.Nat.{ℕ, ◌^◌, ◌<◌}
use native.Mathlib.Omega.{arith}
use lib.Dec.{lit<}
use lib.ListN.{length}
use Rattle.bits.specs.Digit.{digit, number}
use Rattle.bits.proofs.Digits.{digit_lt, number-digit}
use Rattle.published.specs.Bytes.{from_bytes, to_bytes, Bytes}
use Rattle.published.specs.Rounds.{Pair}
use Rattle.published.specs.Key.{◌‖◌, update, pairs}
use Rattle.published.specs.Gift128.{pair_of, pairs_of}
use Rattle.published.proofs.Reading.{to_from}
use Rattle.published.proofs.Gift128.{block-lt}
use Rattle.key_schedule.proofs.KeyState.{one_on}

-- U and V of the first round, and those of the second
abbrev of : (Pair → ℕ) → List Pair → ℕ
of f [] = 0
of f (p ∷ ps) = f p

abbrev rest : List Pair → List Pair
rest [] = []
rest (p ∷ ps) = ps

-- two words of 16 bits in one of 32
halves : (a b c d : ℕ) → b < 65536 → d < 65536 → a ‖ b ≡ c ‖ d → (a ≡ c) × (b ≡ d)
halves a b c d hb hd e = (omega arith, omega arith)

module _ (x y : ℕ) (same : pairs pair_of 40 x ≡ pairs pair_of 40 y) where
  abbrev k : ℕ → ℕ
  k = digit 65536 x

  abbrev l : ℕ → ℕ
  l = digit 65536 y

  two : (i j : ℕ) → k i ‖ k j ≡ l i ‖ l j → (k i ≡ l i) × (k j ≡ l j)
  two i j e = halves (k i) (k j) (l i) (l j) (digit_lt 65536 (lit< tt) x j) (digit_lt 65536 (lit< tt) y j) e

  u1 : k 5 ‖ k 4 ≡ l 5 ‖ l 4
  unfolding pairs pair_of
  u1 = ap (of (λ p. p.u)) same

  v1 : k 1 ‖ k 0 ≡ l 1 ‖ l 0
  unfolding pairs pair_of
  v1 = ap (of (λ p. p.v)) same

  second : pair_of (update x) ≡ pair_of (update y)
  unfolding pairs
  second = λ i. record { u = ap (λ (ps : List Pair). of (λ p. p.u) (rest ps)) same i; v = ap (λ (ps : List Pair). of (λ p. p.v) (rest ps)) same i }

  u2 : k 7 ‖ k 6 ≡ l 7 ‖ l 6
  u2 = ap (λ (p : Pair). p.u) (sym (one_on x) ∙ second ∙ one_on y)

  v2 : k 3 ‖ k 2 ≡ l 3 ‖ l 2
  v2 = ap (λ (p : Pair). p.v) (sym (one_on x) ∙ second ∙ one_on y)

  pub same_state : x < 2 ^ 128 → y < 2 ^ 128 → x ≡ y
  unfolding number
  same_state hx hy =
      sym (number-digit 65536 (lit< tt) 8 x hx)
      ∙ rw ((two 7 6 u2).0, (two 7 6 u2).1, (two 5 4 u1).0, (two 5 4 u1).1, (two 3 2 v2).0, (two 3 2 v2).1, (two 1 0 v1).0, (two 1 0 v1).1) (number-digit 65536 (lit< tt) 8 y hy)

module _ (key key' : List ℕ) (len : length key ≡ 16) (len' : length key' ≡ 16) (bytes : Bytes key) (bytes' : Bytes key') where
  whole : (bs : List ℕ) → length bs ≡ 16 → Bytes bs → to_bytes 16 (from_bytes bs) ≡ bs
  whole bs n h = ap (λ (k : ℕ). to_bytes k (from_bytes bs)) (sym n) ∙ to_from bs h

  pub equal_pairs_equal_keys : pairs_of key ≡ pairs_of key' → key ≡ key'
  unfolding pairs_of
  equal_pairs_equal_keys e =
      sym (whole key len bytes)
      ∙ ap (to_bytes 16) (same_state (from_bytes key) (from_bytes key') e (block-lt key len bytes) (block-lt key' len' bytes'))
      ∙ whole key' len' bytes'
