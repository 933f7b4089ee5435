-- Several quintuples, over any eighty words: whether there are so many, what eight of them are, done and undone, and that they look at the block alone.
use mathlib.Core.Path.{◌≡◌, refl, sym, ap, ◌∙◌}
use mathlib.Core.Bool.{Bool, true, false, ◌&&◌}
use mathlib.Core.List.{List}
use Prim.Native.Nat.{ℕ, zero, suc, ◌+◌, ◌*◌, ◌%◌, ◌^◌, ◌≤◌, ◌<◌}
use native.Mathlib.Omega.{arith}
use lib.Dec.{leb, eqb}
use lib.ListN.{length, take, drop, length-drop}
use borrow.Author.Tests.{le-leb, lt-leb, leb-true, eq-eqb, ne_eqb, eqb-true}
use Rattle.bits.proofs.Truth.{both}
use Rattle.bits.proofs.Computed.{cond-true}
use Rattle.published.specs.Rounds.{rounds}
use Rattle.published.specs.Gift128.{rounds128, unrounds128}
use Rattle.primitives.specs.declared.State.{State}
use Rattle.primitives.specs.Packed.{block_of, state_of}
use Rattle.primitives.proofs.Blocks.{block_of_lt, block_of_state_of}
use Rattle.round_words.specs.Arranged.{pairs_from}
use Rattle.quintuple.specs.Quintuple.{good, quintupled, unquintupled, reach, several, unseveral}
use Rattle.quintuple.proofs.Five.{all_good}
use Rattle.quintuple.proofs.Eight.{forward, backward, none_undone, all_done}

-- ---- whether there are so many

module _ (ws : List ℕ) (i n : ℕ) where
  abbrev rest : Bool
  rest = leb i 40 && (leb n 8 && leb (i + 5 * n) 40)

  pub in_reach : length ws ≡ 80 → i ≤ 40 → n ≤ 8 → reach ws i n ≡ leb (i + 5 * n) 40
  in_reach w hi hn =
      ap (λ (t : Bool). t && rest) (eq-eqb (length ws) 80 w)
      ∙ ap (λ (t : Bool). t && (leb n 8 && leb (i + 5 * n) 40)) (le-leb i 40 hi)
      ∙ ap (λ (t : Bool). t && leb (i + 5 * n) 40) (le-leb n 8 hn)

  pub other_count : (length ws ≡ 80 → ⊥) → reach ws i n ≡ false
  other_count h = ap (λ (t : Bool). t && rest) (ne_eqb (length ws) 80 h)

  pub too_late : length ws ≡ 80 → 40 < i → reach ws i n ≡ false
  too_late w h =
      ap (λ (t : Bool). t && rest) (eq-eqb (length ws) 80 w) ∙ ap (λ (t : Bool). t && (leb n 8 && leb (i + 5 * n) 40)) (lt-leb i 40 h)

  pub too_many : length ws ≡ 80 → i ≤ 40 → 8 < n → reach ws i n ≡ false
  too_many w hi h =
      ap (λ (t : Bool). t && rest) (eq-eqb (length ws) 80 w)
      ∙ ap (λ (t : Bool). t && (leb n 8 && leb (i + 5 * n) 40)) (le-leb i 40 hi)
      ∙ ap (λ (t : Bool). t && leb (i + 5 * n) 40) (lt-leb n 8 h)

  pub reached : reach ws i n ≡ true → (length ws ≡ 80) × (i + 5 * n ≤ 40)
  reached e =
      let p1 = both (eqb (length ws) 80) rest e in
      let p2 = both (leb i 40) (leb n 8 && leb (i + 5 * n) 40) p1.1 in
      let p3 = both (leb n 8) (leb (i + 5 * n) 40) p2.1 in
      (eqb-true (length ws) 80 p1.0, leb-true (i + 5 * n) 40 p3.1)

  pub reaches : length ws ≡ 80 → i + 5 * n ≤ 40 → reach ws i n ≡ true
  reaches w h = in_reach w (omega arith) (omega arith) ∙ le-leb (i + 5 * n) 40 h

-- ---- a quintuple looks at the block alone

module _ (ws : List ℕ) (eighty : length ws ≡ 80) (i : ℕ) (start : i % 5 ≡ 0) (near : i < 40) (s : State) where
  starts : good (drop (2 * i) ws) i ≡ true
  starts = all_good (drop (2 * i) ws) i (rw length-drop (omega arith)) (omega arith) start

  pub cut : quintupled s (drop (2 * i) ws) i ≡ quintupled (state_of (block_of s)) (drop (2 * i) ws) i
  unfolding quintupled
  cut =
      cond-true _ _ _ starts
      ∙ ap (λ (x : ℕ). state_of (rounds128 (pairs_from 0 (take 10 (drop (2 * i) ws))) i x)) (sym (block_of_state_of (block_of s) (block_of_lt s)))
      ∙ sym (cond-true _ _ _ starts)

  pub uncut : unquintupled s (drop (2 * i) ws) i ≡ unquintupled (state_of (block_of s)) (drop (2 * i) ws) i
  unfolding unquintupled
  uncut =
      cond-true _ _ _ starts
      ∙ ap (λ (x : ℕ). state_of (unrounds128 (pairs_from 0 (take 10 (drop (2 * i) ws))) i x)) (sym (block_of_state_of (block_of s) (block_of_lt s)))
      ∙ sym (cond-true _ _ _ starts)

-- one more undone under those after it, as a loop counts them downward
pub one_undone : (ws : List ℕ) (i j to : ℕ) → i + 5 ≡ j → j ≤ to → (t s : State) → ((m : ℕ) → j + 5 * m ≡ to → t ≡ unseveral ws m j s)
    → (m : ℕ) → i + 5 * m ≡ to → unquintupled t (drop (2 * i) ws) i ≡ unseveral ws m i s
unfolding unseveral
one_undone ws i j to e h t s before zero all = absurd (omega arith)
one_undone ws i j to e h t s before (suc m) all =
    ap (λ (z : State). unquintupled z (drop (2 * i) ws) i) (before m (omega arith) ∙ ap (λ (k : ℕ). unseveral ws m k s) (sym e))

-- ---- eight are the forty rounds, whatever the four words are

module _ (ws : List ℕ) (eighty : length ws ≡ 80) where
  several_from : (x : ℕ) → x < 2 ^ 128 → (n i : ℕ) → i % 5 ≡ 0 → i + 5 * n ≡ 40 → several ws n i (state_of (rounds128 (take i (pairs_from 0 ws)) 0 x)) ≡ state_of (rounds128 (pairs_from 0 ws) 0 x)
  unfolding several
  several_from x h zero i start to =
      let e : i ≡ 40 = omega arith in
      ap (λ (k : ℕ). state_of (rounds128 (take k (pairs_from 0 ws)) 0 x)) e ∙ all_done ws eighty x h
  several_from x h (suc n) i start to =
      ap (several ws n (i + 5)) (forward ws eighty x h i start (omega arith)) ∙ several_from x h n (i + 5) (omega arith) (omega arith)

  pub forty-done : (s : State) → several ws 8 0 s ≡ state_of (rounds128 (pairs_from 0 ws) 0 (block_of s))
  unfolding several rounds
  forty-done s = ap (several ws 7 5) (cut ws eighty 0 refl (omega arith) s) ∙ several_from (block_of s) (block_of_lt s) 8 0 refl refl

  unseveral_from : (x : ℕ) → x < 2 ^ 128 → (n i : ℕ) → i % 5 ≡ 0 → i + 5 * n ≡ 40 → unseveral ws n i (state_of x) ≡ state_of (unrounds128 (drop i (pairs_from 0 ws)) i x)
  unfolding unseveral
  unseveral_from x h zero i start to =
      let e : 40 ≡ i = omega arith in
      none_undone ws eighty x h ∙ ap (λ (k : ℕ). state_of (unrounds128 (drop k (pairs_from 0 ws)) k x)) e
  unseveral_from x h (suc n) i start to =
      ap (λ (t : State). unquintupled t (drop (2 * i) ws) i) (unseveral_from x h n (i + 5) (omega arith) (omega arith)) ∙ backward ws eighty x h i start (omega arith)

  unseveral-cut : (n i : ℕ) (s : State) → i % 5 ≡ 0 → i + 5 * suc n ≡ 40 → unseveral ws (suc n) i s ≡ unseveral ws (suc n) i (state_of (block_of s))
  unfolding unseveral
  unseveral-cut zero i s start to = uncut ws eighty i start (omega arith) s
  unseveral-cut (suc n) i s start to = ap (λ (t : State). unquintupled t (drop (2 * i) ws) i) (unseveral-cut n (i + 5) s (omega arith) (omega arith))

  pub forty-undone : (s : State) → unseveral ws 8 0 s ≡ state_of (unrounds128 (pairs_from 0 ws) 0 (block_of s))
  forty-undone s = unseveral-cut 7 0 s refl refl ∙ unseveral_from (block_of s) (block_of_lt s) 8 0 refl refl
