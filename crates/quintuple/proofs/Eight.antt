-- Eight quintuple rounds over any eighty words are the forty published rounds by the pairs that the words stand for: one quintuple more, done and undone.
use mathlib.Core.Path.{◌≡◌, sym, ap, ap₂, ◌∙◌}
use mathlib.Core.List.{List}
use Prim.Native.Nat.{ℕ, ◌+◌, ◌*◌, ◌/◌, ◌%◌, ◌^◌, ◌<◌}
use native.Mathlib.Nat.{le_of_eq}
use native.Mathlib.Omega.{arith}
use lib.ListN.{length, take, drop, length-take, length-drop, take-append-drop, drop_of_length-le}
use lib.Seq.{drop-drop, take-add, take_all}
use Rattle.bits.proofs.Computed.{cond-true}
use Rattle.published.specs.Rounds.{Pair, unrounds}
use Rattle.published.specs.Gift128.{rounds128, unrounds128}
use Rattle.published.proofs.Steps.{width128}
use Rattle.published.proofs.Undone.{rounds-lt, unrounds-lt, rounds-append, unrounds-append}
use Rattle.primitives.specs.Packed.{state_of}
use Rattle.primitives.proofs.Blocks.{block_of_state_of}
use Rattle.round_words.specs.Arranged.{pairs_from}
use Rattle.round_words.proofs.Keeping.{forty, five_pairs}
use Rattle.quintuple.specs.Quintuple.{quintupled, unquintupled}
use Rattle.quintuple.proofs.Five.{all_good}

module _ (ws : List ℕ) (eighty : length ws ≡ 80) (x : ℕ) (x_lt : x < 2 ^ 128) where
  abbrev ps : List Pair
  ps = pairs_from 0 ws

  -- the quintuple at offset 5t, done on top of those before it
  forward_at : (t : ℕ) → t < 8
      → quintupled (state_of (rounds128 (take (5 * t) ps) 0 x)) (drop (2 * (5 * t)) ws) (5 * t) ≡ state_of (rounds128 (take (5 * t + 5) ps) 0 x)
  unfolding quintupled
  forward_at t h =
      let y : ℕ = rounds128 (take (5 * t) ps) 0 x in
      let all : length ps ≡ 40 = forty ws eighty in
      let here : 0 + length (take (5 * t) ps) ≡ 5 * t = rw length-take (omega arith) in
      cond-true _ _ _ (all_good (drop (2 * (5 * t)) ws) (5 * t) (rw length-drop (omega arith)) (omega arith) (omega arith))
      ∙ ap state_of
      (ap₂ (λ (qs : List Pair) (z : ℕ). rounds128 qs (5 * t) z) (five_pairs t ws) (block_of_state_of y (rounds-lt 128 1 width128 (take (5 * t) ps) 0 x x_lt))
      ∙ sym (rounds-append 128 1 (take (5 * t) ps) (take 5 (drop (5 * t) ps)) 0 x ∙ ap (λ (i : ℕ). rounds128 (take 5 (drop (5 * t) ps)) i y) here)
      ∙ ap (λ (qs : List Pair). rounds128 qs 0 x) (sym (take-add (5 * t) 5 ps)))

  -- and undone under those after it
  backward_at : (t : ℕ) → t < 8
      → unquintupled (state_of (unrounds128 (drop (5 * t + 5) ps) (5 * t + 5) x)) (drop (2 * (5 * t)) ws) (5 * t) ≡ state_of (unrounds128 (drop (5 * t) ps) (5 * t) x)
  unfolding unquintupled
  backward_at t h =
      let y : ℕ = unrounds128 (drop (5 * t + 5) ps) (5 * t + 5) x in
      let qs : List Pair = drop (5 * t) ps in
      let all : length ps ≡ 40 = forty ws eighty in
      let here : 5 * t + 5 ≡ 5 * t + length (take 5 qs) = rw (length-take, length-drop) (omega arith) in
      cond-true _ _ _ (all_good (drop (2 * (5 * t)) ws) (5 * t) (rw length-drop (omega arith)) (omega arith) (omega arith))
      ∙ ap state_of
      (ap₂ (λ (rs : List Pair) (z : ℕ). unrounds128 rs (5 * t) z) (five_pairs t ws) (block_of_state_of y (unrounds-lt 128 1 width128 (drop (5 * t + 5) ps) (5 * t + 5) x x_lt))
      ∙ ap₂ (λ (rs : List Pair) (j : ℕ). unrounds128 (take 5 qs) (5 * t) (unrounds128 rs j x)) (sym (drop-drop 5 (5 * t) ps)) here
      ∙ sym (unrounds-append 128 1 (take 5 qs) (drop 5 qs) (5 * t) x)
      ∙ ap (λ (rs : List Pair). unrounds128 rs (5 * t) x) (take-append-drop 5 qs))

  -- the same at an offset that is a multiple of five
  pub forward : (i : ℕ) → i % 5 ≡ 0 → i < 40
      → quintupled (state_of (rounds128 (take i ps) 0 x)) (drop (2 * i) ws) i ≡ state_of (rounds128 (take (i + 5) ps) 0 x)
  forward i h l = let e : 5 * (i / 5) ≡ i = omega arith in rw e at (forward_at (i / 5) (omega arith))

  pub backward : (i : ℕ) → i % 5 ≡ 0 → i < 40
      → unquintupled (state_of (unrounds128 (drop (i + 5) ps) (i + 5) x)) (drop (2 * i) ws) i ≡ state_of (unrounds128 (drop i ps) i x)
  backward i h l = let e : 5 * (i / 5) ≡ i = omega arith in rw e at (backward_at (i / 5) (omega arith))

  -- where each begins, and where each ends
  pub none_undone : state_of x ≡ state_of (unrounds128 (drop 40 ps) 40 x)
  unfolding unrounds
  none_undone = ap (λ (qs : List Pair). state_of (unrounds128 qs 40 x)) (sym (drop_of_length-le ps (le_of_eq (forty ws eighty))))

  pub all_done : state_of (rounds128 (take 40 ps) 0 x) ≡ state_of (rounds128 ps 0 x)
  all_done = ap (λ (qs : List Pair). state_of (rounds128 qs 0 x)) (take_all 40 ps (le_of_eq (forty ws eighty)))
