-- Turns are published rounds: t turns of any sound record are 5t rounds, done or undone, by the pairs that its eighty words stand for; so of one that was opened by a key, by the key's.
use mathlib.Core.Path.{◌≡◌, refl, sym, ap, ap₂, ◌∙◌}
use mathlib.Core.Bool.{Bool, true, false, cond, false≢true}
use mathlib.Core.List.{List}
use mathlib.Core.Logic.{◌≢◌}
use Prim.Native.Nat.{ℕ, zero, suc, ◌+◌, ◌-◌, ◌*◌, ◌^◌, ◌≤◌, ◌<◌}
use native.Mathlib.Nat.{le_of_eq, add-zero, zero-add}
use native.Mathlib.Decide.{ℕ_discrete}
use native.Mathlib.Omega.{arith}
use lib.Dec.{eqb, leb, ltb}
use lib.ListN.{length, take, drop, length-take, length-drop}
use lib.Seq.{drop-drop, take-add, take_all}
use borrow.Author.Tests.{le-leb, lt-leb, lt-ltb, eq-eqb, ne_eqb, leb-true, eqb-true}
use Rattle.bits.proofs.Computed.{cond-true}
use Rattle.bits.proofs.Truth.{cond_either}
use Rattle.published.specs.Seen.{is_order, read_in, write_in, seen}
use Rattle.published.specs.Rounds.{Pair, rounds, unrounds}
use Rattle.published.specs.Gift128.{pair_of, pairs_of, rounds128, unrounds128}
use Rattle.published.proofs.Steps.{width128}
use Rattle.published.proofs.Undone.{rounds-lt, unrounds-lt, rounds-append, unrounds-append}
use Rattle.published.proofs.Gift128.{length_pairs}
use Rattle.primitives.specs.declared.State.{State}
use Rattle.primitives.specs.Packed.{block_of, state_of}
use Rattle.primitives.proofs.Blocks.{block_of_lt, block_of_state_of}
use Rattle.round_words.specs.Arranged.{pairs_from}
use Rattle.round_words.proofs.Keeping.{forty, five_pairs}
use Rattle.quintuple.specs.Quintuple.{quintupled, unquintupled}
use Rattle.quintuple.proofs.Five.{all_good}
use Rattle.key_schedule.specs.Expand.{expanded}
use Rattle.key_schedule.proofs.Expanded.{pairs_of_expanded, length-expanded}
use Rattle.lane.specs.declared.Lane.{Lane}
use Rattle.lane.specs.Record.{idle, running, finished, sound_count, sound_lane}
use Rattle.lane.proofs.Records.{tidy}
use Rattle.lane_turns.specs.Turns.{opened, advanced, served}
use Rattle.lane_turns.proofs.Serving.{opened_on}
use Rattle.bench_history.specs.History.{served_times}
use Rattle.bench_history.specs.Promises.{reached, onward, answer}

-- turn t + 1 is the last as the count says, and as its number says
last_turn : (t : ℕ) → t < 8 → eqb (t + 1) 8 ≡ leb 8 (suc t)
last_turn t h =
    elim (ℕ_discrete t 7) [
      | yes e ↦ eq-eqb (t + 1) 8 (omega arith) ∙ sym (le-leb 8 (suc t) (omega arith))
      | no ne ↦ ne_eqb (t + 1) 8 (omega arith) ∙ sym (lt-leb 8 (suc t) (omega arith))
    ]

-- ---- one quintuple more, by any eighty words

module _ (ws : List ℕ) (eighty : length ws ≡ 80) where
  abbrev ps : List Pair
  ps = pairs_from 0 ws

  -- the quintuple at offset 5t, on any state
  done_at : (s : State) (t : ℕ) → t < 8 → quintupled s (drop (2 * (5 * t)) ws) (5 * t) ≡ state_of (rounds128 (take 5 (drop (5 * t) ps)) (5 * t) (block_of s))
  unfolding quintupled
  done_at s t h =
      cond-true _ _ _ (all_good (drop (2 * (5 * t)) ws) (5 * t) (rw length-drop (omega arith)) (omega arith) (omega arith))
      ∙ ap (λ (qs : List Pair). state_of (rounds128 qs (5 * t) (block_of s))) (five_pairs t ws)

  undone_at : (s : State) (t : ℕ) → t < 8 → unquintupled s (drop (2 * (5 * t)) ws) (5 * t) ≡ state_of (unrounds128 (take 5 (drop (5 * t) ps)) (5 * t) (block_of s))
  unfolding unquintupled
  undone_at s t h =
      cond-true _ _ _ (all_good (drop (2 * (5 * t)) ws) (5 * t) (rw length-drop (omega arith)) (omega arith) (omega arith))
      ∙ ap (λ (qs : List Pair). state_of (unrounds128 qs (5 * t) (block_of s))) (five_pairs t ws)

  module _ (c t x : ℕ) (h : c + t < 8) (x_lt : x < 2 ^ 128) where
    all : length ps ≡ 40
    all = forty ws eighty

    -- on top of t quintuples from count c on
    forward : quintupled (state_of (rounds128 (take (5 * t) (drop (5 * c) ps)) (5 * c) x)) (drop (2 * (5 * (c + t))) ws) (5 * (c + t)) ≡ state_of (rounds128 (take (5 * suc t) (drop (5 * c) ps)) (5 * c) x)
    forward =
        let qs : List Pair = drop (5 * c) ps in
        let y : ℕ = rounds128 (take (5 * t) qs) (5 * c) x in
        let one : 5 * suc t ≡ 5 * t + 5 = omega arith in
        let at : 5 * c + 5 * t ≡ 5 * (c + t) = omega arith in
        let here : 5 * c + length (take (5 * t) qs) ≡ 5 * (c + t) = rw (length-take, length-drop) (omega (arith, all)) in
        done_at (state_of y) (c + t) h
        ∙ ap state_of
        (ap₂ (λ (rs : List Pair) (z : ℕ). rounds128 (take 5 rs) (5 * (c + t)) z) (ap (λ (i : ℕ). drop i ps) (sym at) ∙ sym (drop-drop (5 * t) (5 * c) ps)) (block_of_state_of y (rounds-lt 128 1 width128 (take (5 * t) qs) (5 * c) x x_lt))
        ∙ sym (rounds-append 128 1 (take (5 * t) qs) (take 5 (drop (5 * t) qs)) (5 * c) x ∙ ap (λ (i : ℕ). rounds128 (take 5 (drop (5 * t) qs)) i y) here)
        ∙ ap (λ (rs : List Pair). rounds128 rs (5 * c) x) (sym (take-add (5 * t) 5 qs) ∙ ap (λ (i : ℕ). take i qs) (sym one)))

    -- and under t that were undone
    backward : unquintupled (state_of (unrounds128 (take (5 * t) (drop (40 - 5 * (c + t)) ps)) (40 - 5 * (c + t)) x)) (drop (2 * (35 - 5 * (c + t))) ws) (35 - 5 * (c + t))
        ≡ state_of (unrounds128 (take (5 * suc t) (drop (40 - 5 * (c + suc t)) ps)) (40 - 5 * (c + suc t)) x)
    backward =
        let m : ℕ = 7 - (c + t) in
        let first : 35 - 5 * (c + t) ≡ 5 * m = omega arith in
        let before : 40 - 5 * (c + t) ≡ 5 * m + 5 = omega arith in
        let now : 40 - 5 * (c + suc t) ≡ 5 * m = omega arith in
        let one : 5 * suc t ≡ 5 + 5 * t = omega arith in
        rw (first, before, now, one) (under m (omega arith))
      where
        under : (m : ℕ) → m < 8 → unquintupled (state_of (unrounds128 (take (5 * t) (drop (5 * m + 5) ps)) (5 * m + 5) x)) (drop (2 * (5 * m)) ws) (5 * m)
            ≡ state_of (unrounds128 (take (5 + 5 * t) (drop (5 * m) ps)) (5 * m) x)
        under m l =
            let qs : List Pair = drop (5 * m) ps in
            let y : ℕ = unrounds128 (take (5 * t) (drop (5 * m + 5) ps)) (5 * m + 5) x in
            let here : 5 * m + 5 ≡ 5 * m + length (take 5 qs) = rw (length-take, length-drop) (omega (arith, all)) in
            undone_at (state_of y) m l
            ∙ ap state_of
            (ap (unrounds128 (take 5 qs) (5 * m)) (block_of_state_of y (unrounds-lt 128 1 width128 (take (5 * t) (drop (5 * m + 5) ps)) (5 * m + 5) x x_lt))
            ∙ ap₂ (λ (rs : List Pair) (j : ℕ). unrounds128 (take 5 qs) (5 * m) (unrounds128 (take (5 * t) rs) j x)) (sym (drop-drop 5 (5 * m) ps)) here
            ∙ sym (unrounds-append 128 1 (take 5 qs) (take (5 * t) (drop 5 qs)) (5 * m) x)
            ∙ ap (λ (rs : List Pair). unrounds128 rs (5 * m) x) (sym (take-add 5 (5 * t) qs)))

-- ---- any record

-- a block comes of a block
pub reached-lt : (direction : ℕ) (ps : List Pair) (c t x : ℕ) → x < 2 ^ 128 → reached direction ps c t x < 2 ^ 128
unfolding reached
reached-lt direction ps c t x h =
    cond_either (λ (y : ℕ). y < 2 ^ 128) (eqb direction 0) _ _ (λ e. rounds-lt 128 1 width128 _ _ x h)
    (λ e. unrounds-lt 128 1 width128 _ _ x h)

module _ (l : Lane) (eighty : length l.words ≡ 80) where
  advance : (t : ℕ) → l.count + t < 8
      → advanced (onward (pairs_from 0 l.words) t l) ≡ state_of (reached l.direction (pairs_from 0 l.words) l.count (suc t) (block_of l.state))
  unfolding advanced onward reached
  advance t h = go (eqb l.direction 0)
    where
      c : ℕ
      c = l.count

      x : ℕ
      x = block_of l.state

      its : List Pair
      its = pairs_from 0 l.words

      go : (f : Bool)
          → cond f
          (quintupled (state_of (cond f (rounds128 (take (5 * t) (drop (5 * c) its)) (5 * c) x) (unrounds128 (take (5 * t) (drop (40 - 5 * (c + t)) its)) (40 - 5 * (c + t)) x))) (drop (2 * (5 * (c + t))) l.words) (5 * (c + t)))
          (unquintupled (state_of (cond f (rounds128 (take (5 * t) (drop (5 * c) its)) (5 * c) x) (unrounds128 (take (5 * t) (drop (40 - 5 * (c + t)) its)) (40 - 5 * (c + t)) x))) (drop (2 * (35 - 5 * (c + t))) l.words) (35 - 5 * (c + t)))
          ≡ state_of (cond f (rounds128 (take (5 * suc t) (drop (5 * c) its)) (5 * c) x) (unrounds128 (take (5 * suc t) (drop (40 - 5 * (c + suc t)) its)) (40 - 5 * (c + suc t)) x))
      go true = forward l.words eighty c t x h (block_of_lt l.state)
      go false = backward l.words eighty c t x h (block_of_lt l.state)

  serve : (t : ℕ) → l.count + t < 8 → served (onward (pairs_from 0 l.words) t l) ≡ onward (pairs_from 0 l.words) (suc t) l
  unfolding served onward
  serve t h =
      let one : l.count + t + 1 ≡ l.count + suc t = omega arith in
      let next : suc (l.count + t) ≡ l.count + suc t = omega arith in
      let last : eqb (l.count + t + 1) 8 ≡ leb 8 (l.count + suc t) = last_turn (l.count + t) h ∙ ap (leb 8) next in
      cond-true (ltb (l.count + t) 8) _ _ (lt-ltb (l.count + t) 8 h)
      ∙ λ i. record { phase = cond (last i) finished running; direction = l.direction; owner = l.owner; count = one i; order = l.order; words = l.words; state = advance t h i }

  -- with its phase as its count has it, and words of 32 bits in its state
  module _ (phased : l.phase ≡ cond (leb 8 l.count) finished running) (stated : state_of (block_of l.state) ≡ l.state) where
    start : l ≡ onward (pairs_from 0 l.words) 0 l
    unfolding onward reached rounds unrounds
    start =
        let none : l.count ≡ l.count + 0 = sym (add-zero l.count) in
        let phase : l.phase ≡ cond (leb 8 (l.count + 0)) finished running = phased ∙ ap (λ (k : ℕ). cond (leb 8 k) finished running) none in
        λ i. record { phase = phase i; direction = l.direction; owner = l.owner; count = none i; order = l.order; words = l.words; state = (sym stated ∙ ap state_of (same (eqb l.direction 0))) i }
      where
        same : (f : Bool) → block_of l.state ≡ cond f (block_of l.state) (block_of l.state)
        same true = refl
        same false = refl

    pub turns_are_rounds : (t : ℕ) → l.count + t ≤ 8 → served_times t l ≡ onward (pairs_from 0 l.words) t l
    unfolding served_times
    turns_are_rounds zero h = start
    turns_are_rounds (suc t) h = ap served (turns_are_rounds t (omega arith)) ∙ serve t (omega arith)

-- a busy sound record has its phase as its count has it
pub phase_by_count : (l : Lane) → sound_lane l ≡ true → l.phase ≢ idle → l.phase ≡ cond (leb 8 l.count) finished running
unfolding sound_count
phase_by_count l s busy = go l.phase (tidy l s busy).counted
  where
    go : (p : ℕ) → sound_count p l.count ≡ true → p ≡ cond (leb 8 l.count) finished running
    go zero e = absurd (false≢true e)
    go (suc zero) e = sym (ap (λ (t : Bool). cond t finished running) (lt-leb 8 l.count (omega (arith, leb-true l.count 7 e))))
    go (suc (suc zero)) e = sym (ap (λ (t : Bool). cond t finished running) (le-leb 8 l.count (omega (arith, eqb-true l.count 8 e))))
    go (suc (suc (suc p))) e = absurd (false≢true e)

-- ---- a lane opened by a key

all_pairs : (key : List ℕ) → length (pairs_of key) ≡ 40
unfolding pairs_of
all_pairs key = length_pairs pair_of 40 _

module _ (owner direction order : ℕ) (key block : List ℕ) (x_lt : read_in order block < 2 ^ 128) (o : is_order order ≡ true) (k : length key ≡ 16) (b : length block ≡ 16) where
  abbrev begun : Lane
  begun = record { phase = running; direction = direction; owner = owner; count = 0; order = order; words = expanded key; state = state_of (read_in order block) }

  is_begun : opened owner direction order key block ≡ begun
  is_begun = opened_on owner direction order key block o k b

  pub reach : (t : ℕ) → t ≤ 8 → served_times t (opened owner direction order key block) ≡ onward (pairs_of key) t (opened owner direction order key block)
  reach t h =
      ap (served_times t) is_begun
      ∙ turns_are_rounds begun (length-expanded key) refl (ap state_of (block_of_state_of (read_in order block) x_lt)) t (omega arith)
      ∙ ap₂ (λ (ps : List Pair) (l : Lane). onward ps t l) (pairs_of_expanded key) (sym is_begun)

  -- from the first turn on: 5t rounds done, or the rounds 40 down to 41 − 5t undone, on the block that the lane's order sees
  pub reached_from_the_start : (t : ℕ) → t ≤ 8 → reached direction (pairs_of key) 0 t (block_of (opened owner direction order key block).state)
      ≡ cond (eqb direction 0) (rounds128 (take (5 * t) (pairs_of key)) 0 (read_in order block)) (unrounds128 (drop (40 - 5 * t) (pairs_of key)) (40 - 5 * t) (read_in order block))
  unfolding reached
  reached_from_the_start t h =
      let x : ℕ = read_in order block in
      let qs : List Pair = drop (40 - 5 * t) (pairs_of key) in
      ap (λ (y : ℕ). reached direction (pairs_of key) 0 t y) (ap (λ (l : Lane). block_of l.state) is_begun ∙ block_of_state_of x x_lt)
      ∙ ap (λ (i : ℕ). cond (eqb direction 0) (rounds128 (take (5 * t) (pairs_of key)) 0 x) (unrounds128 (take (5 * t) (drop (40 - 5 * i) (pairs_of key))) (40 - 5 * i) x)) (zero-add t)
      ∙ ap (λ (rs : List Pair). cond (eqb direction 0) (rounds128 (take (5 * t) (pairs_of key)) 0 x) (unrounds128 rs (40 - 5 * t) x)) (take_all (5 * t) qs (rest t h))
    where
      rest : (t : ℕ) → t ≤ 8 → length (drop (40 - 5 * t) (pairs_of key)) ≤ 5 * t
      rest t h = rw (length-drop, all_pairs key) (omega arith)

  pub yields : write_in order (block_of (onward (pairs_of key) 8 (opened owner direction order key block)).state) ≡ answer direction order key block
  unfolding onward answer opened
  yields =
      let fresh : Lane = opened owner direction order key block in
      ap (write_in order) (block_of_state_of _ (reached-lt direction (pairs_of key) 0 8 (block_of fresh.state) (block_of_lt fresh.state)) ∙ reached_from_the_start 8 (omega arith)) ∙ go (eqb direction 0)
    where
      whole : take 40 (pairs_of key) ≡ pairs_of key
      whole = take_all 40 (pairs_of key) (le_of_eq (all_pairs key))

      go : (f : Bool) → write_in order (cond f (rounds128 (take 40 (pairs_of key)) 0 (read_in order block)) (unrounds128 (pairs_of key) 0 (read_in order block)))
          ≡ cond f (seen order (rounds128 (pairs_of key) 0) block) (seen order (unrounds128 (pairs_of key) 0) block)
      go true = ap (λ (ps : List Pair). write_in order (rounds128 ps 0 (read_in order block))) whole
      go false = refl
