-- Which lane a turn serves: one that runs, and none nearer in cyclic order after the last served one.
use mathlib.Core.Path.{◌≡◌, refl, sym, ap, ◌∙◌}
use mathlib.Core.Bool.{Bool, true, false, cond, false≢true}
use mathlib.Core.List.{List}
use mathlib.Core.Logic.{◌≢◌}
use Prim.Native.Nat.{ℕ, zero, suc, ◌+◌, ◌-◌, ◌≤◌, ◌<◌}
use native.Mathlib.Nat.{not-suc-le-zero, le_refl}
use native.Mathlib.Numerals.{sub-one}
use native.Mathlib.Decide.{dec_lt, dec_le}
use native.Mathlib.Omega.{arith}
use lib.Dec.{leb, ltb, lit<}
use lib.ListN.{length, get_or-eq_default}
use borrow.Author.Tests.{lt-ltb, le-ltb, le-leb, lt-leb, eq-eqb, ltb-true, eqb-true, eqb-false}
use Rattle.bits.proofs.Computed.{cond-true, cond-false}
use Rattle.lane.specs.declared.Lane.{Lane}
use Rattle.lane.specs.Record.{running}
use Rattle.bench_orders.specs.Orders.{lane_count}
use Rattle.bench_turns.specs.declared.Bench.{Bench}
use Rattle.bench_turns.specs.Turning.{lane_at, runs, after, seek, chosen, any_runs}

-- all that the laws ask of the number of lanes
pub some_lane : 0 < lane_count
unfolding lane_count
some_lane = lit< tt

-- ---- cyclic order

pub after_in : (i : ℕ) → i + 1 < lane_count → after i ≡ i + 1
unfolding after
after_in i h = cond-true (ltb (i + 1) lane_count) (i + 1) 0 (lt-ltb (i + 1) lane_count h)

pub after_end : (i : ℕ) → lane_count ≤ i + 1 → after i ≡ 0
unfolding after
after_end i h = cond-false (ltb (i + 1) lane_count) (i + 1) 0 (le-ltb (i + 1) lane_count h)

pub after_lt : (i : ℕ) → after i < lane_count
after_lt i =
    elim (dec_lt (i + 1) lane_count) [
      | yes h ↦ rw after_in h
      | no h ↦ rw (after_end i (omega arith)) some_lane
    ]

-- how many steps lead from lane i to lane n
unfoldable pub steps : ℕ → ℕ → ℕ
steps i n = cond (leb i n) (n - i) (n + lane_count - i)

steps_up : (i n : ℕ) → i ≤ n → steps i n ≡ n - i
unfolding steps
steps_up i n h = cond-true (leb i n) (n - i) (n + lane_count - i) (le-leb i n h)

steps-round : (i n : ℕ) → n < i → steps i n ≡ n + lane_count - i
unfolding steps
steps-round i n h = cond-false (leb i n) (n - i) (n + lane_count - i) (lt-leb i n h)

pub steps-lt : (i n : ℕ) → i < lane_count → n < lane_count → steps i n < lane_count
steps-lt i n hi hn =
    elim (dec_le i n) [
      | yes h ↦ omega (arith, steps_up i n h)
      | no h ↦ omega (arith, steps-round i n (omega arith))
    ]

pub steps_after : (i n : ℕ) → i < lane_count → n < lane_count → i ≢ n → suc (steps (after i) n) ≡ steps i n
steps_after i n hi hn ne =
    elim (dec_lt (i + 1) lane_count) [
      | yes l ↦ elim (dec_le i n) [
        | yes h ↦ rw (after_in i l) (omega (arith, steps_up i n h, steps_up (i + 1) n (omega arith)))
        | no h ↦ rw (after_in i l) (omega (arith, steps-round i n (omega arith), steps-round (i + 1) n (omega arith)))
      ]
      | no l ↦ rw (after_end i (omega arith)) (omega (arith, steps-round i n (omega arith), steps_up 0 n (omega arith)))
    ]

-- ---- the search

pub phase-runs : (ls : List Lane) (n : ℕ) → (lane_at ls n).phase ≡ running → runs ls n ≡ true
unfolding runs
phase-runs ls n e = eq-eqb (lane_at ls n).phase running e

pub runs-phase : (ls : List Lane) (n : ℕ) → runs ls n ≡ true → (lane_at ls n).phase ≡ running
unfolding runs
runs-phase ls n e = eqb-true (lane_at ls n).phase running e

-- a lane that runs is one of the records: past the last, the list's own default is idle
pub runs_inside : (ls : List Lane) (n : ℕ) → runs ls n ≡ true → n < length ls
runs_inside ls n e =
    elim (dec_lt n (length ls)) [
      | yes h ↦ h
      | no h ↦ absurd (eqb-false 1 0 refl (sym (runs-phase ls n e) ∙ ap (λ (l : Lane). l.phase) (get_or-eq_default ls _ (omega arith))))
    ]

-- one step of the search, and its end
pub seek_here : (k : ℕ) (ls : List Lane) (i : ℕ) → 0 < k → runs ls i ≡ true → seek k ls i ≡ i
unfolding seek
seek_here zero ls i some e = absurd (not-suc-le-zero some)
seek_here (suc k) ls i some e = cond-true (runs ls i) i _ e

pub seek_on : (k : ℕ) (ls : List Lane) (i : ℕ) → 0 < k → runs ls i ≡ false → seek k ls i ≡ seek (k - 1) ls (after i)
unfolding seek
seek_on zero ls i some e = absurd (not-suc-le-zero some)
seek_on (suc k) ls i some e = cond-false (runs ls i) i _ e ∙ ap (λ (j : ℕ). seek j ls (after i)) (sym (sub-one (suc k)))

pub seek-over : (k : ℕ) (ls : List Lane) (i : ℕ) → k ≤ 0 → seek k ls i ≡ lane_count
unfolding seek
seek-over zero ls i h = refl
seek-over (suc k) ls i h = absurd (not-suc-le-zero h)

-- j is a running lane, no farther from lane i than lane n is
pub record Found (ls : List Lane) (n i j : ℕ) : Type 0 where
  pub lane : j < lane_count
  pub runs_there : runs ls j ≡ true
  pub near : steps j n ≤ steps i n

seek_finds : (ls : List Lane) (n : ℕ) → n < lane_count → runs ls n ≡ true → (k i : ℕ) → i < lane_count → steps i n < k → Found ls n i (seek k ls i)
unfolding seek
seek_finds ls n hn r zero i hi h = absurd (not-suc-le-zero h)
seek_finds ls n hn r (suc k) i hi h =
    go (runs ls i) refl (λ ne. seek_finds ls n hn r k (after i) (after_lt i) (omega (arith, steps_after i n hi hn ne)))
  where
    go : (t : Bool) → runs ls i ≡ t → (i ≢ n → Found ls n (after i) (seek k ls (after i))) → Found ls n i (cond t i (seek k ls (after i)))
    go true e more = record { lane = hi; runs_there = e; near = le_refl (steps i n) }
    go false e more =
        let ne : i ≢ n = λ p. false≢true (sym e ∙ ap (runs ls) p ∙ r) in
        let f : Found ls n (after i) (seek k ls (after i)) = more ne in
        record { lane = f.lane; runs_there = f.runs_there; near = omega (arith, steps_after i n hi hn ne, f.near) }

seek-runs : (ls : List Lane) (k i : ℕ) → seek k ls i < lane_count → runs ls (seek k ls i) ≡ true
unfolding seek
seek-runs ls zero i h = absurd (omega arith)
seek-runs ls (suc k) i h = go (runs ls i) refl (seek-runs ls k (after i)) h
  where
    go : (t : Bool) → runs ls i ≡ t → (seek k ls (after i) < lane_count → runs ls (seek k ls (after i)) ≡ true)
        → cond t i (seek k ls (after i)) < lane_count → runs ls (cond t i (seek k ls (after i))) ≡ true
    go true e more l = e
    go false e more l = more l

-- ---- the lane whose turn it is

module _ (b : Bench) where
  -- the search that starts after the last served lane finds it
  pub chosen_is : {i n : ℕ} → i ≡ after b.last → n ≡ seek lane_count b.lanes i → n ≡ chosen b
  unfolding chosen
  chosen_is e f = f ∙ ap (seek lane_count b.lanes) e

  pub chosen-near : (n : ℕ) → n < lane_count → runs b.lanes n ≡ true → Found b.lanes n (after b.last) (chosen b)
  unfolding chosen
  chosen-near n hn r = seek_finds b.lanes n hn r lane_count (after b.last) (after_lt b.last) (steps-lt _ n (after_lt b.last) hn)

  pub chosen-lt : any_runs b ≡ true → chosen b < lane_count
  unfolding any_runs
  chosen-lt e = ltb-true (chosen b) lane_count e

  pub chosen-runs : any_runs b ≡ true → runs b.lanes (chosen b) ≡ true
  unfolding chosen
  chosen-runs e = seek-runs b.lanes lane_count (after b.last) (chosen-lt e)

  pub runs_any : (n : ℕ) → n < lane_count → runs b.lanes n ≡ true → any_runs b ≡ true
  unfolding any_runs
  runs_any n hn r = lt-ltb (chosen b) lane_count (chosen-near n hn r).lane

  pub none_runs : any_runs b ≡ false → (n : ℕ) → n < lane_count → runs b.lanes n ≡ false
  none_runs e n hn = go (runs b.lanes n) refl
    where
      go : (t : Bool) → runs b.lanes n ≡ t → t ≡ false
      go true r = absurd (false≢true (sym e ∙ runs_any n hn r))
      go false r = refl
