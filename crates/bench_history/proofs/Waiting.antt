-- How long a lane waits: if it lacks r turns, the next lane_count · r turns made on the bench have r of its own among them, whatever calls come but its closing by its owner.
use mathlib.Core.Path.{◌≡◌, refl, sym, ap, ◌∙◌}
use mathlib.Core.Bool.{Bool, true, false, cond, not, false≢true}
use mathlib.Core.List.{List, [], ◌∷◌, ◌++◌}
use mathlib.Core.Logic.{◌≢◌, ⊎_elim}
use Prim.Native.Nat.{ℕ, zero, suc, ◌+◌, ◌-◌, ◌*◌, ◌≤◌, ◌<◌, zero-le}
use native.Mathlib.Nat.{not-suc-le-zero, mul-suc}
use native.Mathlib.Decide.{ℕ_discrete}
use native.Mathlib.Omega.{arith}
use lib.Dec.{eqb}
use lib.ListN.{length, take}
use borrow.Author.Tests.{eqb-true, eqb-false, not-true}
use Rattle.bits.proofs.Truth.{both}
use Rattle.lane.specs.declared.Lane.{Lane}
use Rattle.lane.specs.Record.{running}
use Rattle.lane_turns.specs.Turns.{lacks}
use Rattle.lane_turns.proofs.Serving.{served-lacks, served-owner}
use Rattle.bench_orders.specs.Orders.{lane_count}
use Rattle.bench_turns.specs.declared.Bench.{Bench}
use Rattle.bench_turns.specs.Turning.{lane_at, runs, after, chosen, any_runs, turned, turned_by, served_by}
use Rattle.bench_turns.proofs.Soundness.{Sound}
use Rattle.bench_turns.proofs.Seeking.{some_lane, phase-runs, steps, steps-lt, steps_after, after_lt, Found, chosen-near, runs_any}
use Rattle.bench_turns.proofs.Made.{turned_is, sound-turned}
use Rattle.bench_history.specs.History.{Call, leaves, serves, log, times, closes, never}
use Rattle.bench_history.specs.Promises.{BusyFor}
use Rattle.bench_history.proofs.Touched.{sound-leaves, Touch, touch, left_by, same, entered, left, served as serving}
use Rattle.bench_history.proofs.Standing.{times_own, times_other, turned_own, turned_other}

-- lane n is guest w's, runs, lacks r + 1 turns, and is to have them within the next k + 1 turns made
record Due (n w : ℕ) (b : Bench) (r k : ℕ) : Type 0 where
  sound : Sound b
  lane : n < lane_count
  owner : (lane_at b.lanes n).owner ≡ w
  phase : (lane_at b.lanes n).phase ≡ running
  lacking : lacks (lane_at b.lanes n) ≡ suc r
  near : steps (after b.last) n + lane_count * r ≤ k

-- and has them, if the log goes on as far as that
abbrev Has : ℕ → ℕ → ℕ → List ℕ → Type 0
Has n r k log = suc k ≤ length log → suc r ≤ times n (take (suc k) log)

-- only a running lane lacks turns
lacking-runs : (l : Lane) (r : ℕ) → lacks l ≡ suc r → l.phase ≡ running
unfolding lacks
lacking-runs l r e = eqb-true l.phase running (go (eqb l.phase running) e)
  where
    go : (t : Bool) → cond t (8 - l.count) 0 ≡ suc r → t ≡ true
    go true h = refl
    go false h = absurd (omega arith)

module _ (n w : ℕ) where
  -- ---- one turn

  module _ (b : Bench) (r k : ℕ) (d : Due n w b r k) where
    runs_here : runs b.lanes n ≡ true
    runs_here = phase-runs b.lanes n d.phase

    due_any : any_runs b ≡ true
    due_any = runs_any b n d.lane runs_here

    found : Found b.lanes n (after b.last) (chosen b)
    found = chosen-near b n d.lane runs_here

    last_is : (turned b).last ≡ chosen b
    last_is = ap (λ (e : Bench). e.last) (turned_is b due_any)

  due_own : (b : Bench) (r k : ℕ) → Due n w b (suc r) (suc k) → chosen b ≡ n → Due n w (turned b) r k
  due_own b r k d e =
      let any : any_runs b ≡ true = due_any b (suc r) (suc k) d in
      let l : Lane = lane_at b.lanes n in
      let fewer : lacks (lane_at (turned b).lanes n) ≡ suc r =
      omega (arith, ap lacks (turned_own b any n d.sound e), served-lacks l (d.sound.each n d.lane) d.phase, d.lacking)
      in
      record {
        sound = sound-turned b d.sound;
        lane = d.lane;
        owner = ap (λ (k : Lane). k.owner) (turned_own b any n d.sound e) ∙ served-owner l ∙ d.owner;
        phase = lacking-runs (lane_at (turned b).lanes n) r fewer;
        lacking = fewer;
        near = rw (last_is b (suc r) (suc k) d)
            (omega (arith, d.near, mul-suc lane_count r, steps-lt (after (chosen b)) n (after_lt (chosen b)) d.lane));
      }

  due_other : (b : Bench) (r k : ℕ) → Due n w b r (suc k) → chosen b ≢ n → Due n w (turned b) r k
  due_other b r k d ne =
      let any : any_runs b ≡ true = due_any b r (suc k) d in
      let here : lane_at (turned b).lanes n ≡ lane_at b.lanes n = turned_other b any n ne in
      record {
        sound = sound-turned b d.sound;
        lane = d.lane;
        owner = ap (λ (l : Lane). l.owner) here ∙ d.owner;
        phase = ap (λ (l : Lane). l.phase) here ∙ d.phase;
        lacking = ap lacks here ∙ d.lacking;
        near = rw (last_is b r (suc k) d)
            (omega (arith, d.near, (found b r (suc k) d).near, steps_after (chosen b) n (found b r (suc k) d).lane d.lane ne));
      }

  module _ (b : Bench) (rest : List ℕ) (more : (r k : ℕ) → Due n w (turned b) r k → Has n r k rest) where
    own_turn : (r k : ℕ) → Due n w b r k → chosen b ≡ n → Has n r k (chosen b ∷ rest)
    own_turn zero k d e h = rw (times_own n (chosen b) (take k rest) e) (omega arith)
    own_turn (suc r) zero d e h = absurd (omega (arith, d.near, mul-suc lane_count r, some_lane))
    own_turn (suc r) (suc k) d e h =
        rw (times_own n (chosen b) (take (suc k) rest) e) (omega (arith, more r k (due_own b r k d e) (omega arith)))

    other_turn : (r k : ℕ) → Due n w b r k → chosen b ≢ n → Has n r k (chosen b ∷ rest)
    other_turn r zero d ne h =
        absurd (omega (arith, d.near, (found b r zero d).near, steps_after (chosen b) n (found b r zero d).lane d.lane ne))
    other_turn r (suc k) d ne h =
        rw (times_other n (chosen b) (take (suc k) rest) ne) (more r k (due_other b r k d ne) (omega arith))

    due_turn : (r k : ℕ) → Due n w b r k → Has n r k (chosen b ∷ rest)
    due_turn r k d =
        elim (ℕ_discrete (chosen b) n) [
          | yes e ↦ own_turn r k d e
          | no ne ↦ other_turn r k d ne
        ]

  -- ---- the turns of one call, and then the rest of the log

  due_turns : (i : ℕ) (b : Bench) (rest : List ℕ) → ((r k : ℕ) → Due n w (turned_by i b) r k → Has n r k rest) → (r k : ℕ) → Due n w b r k → Has n r k (served_by i b ++ rest)
  unfolding turned_by served_by
  due_turns zero b rest more r k d = more r k d
  due_turns (suc i) b rest more r k d =
      rw (due_any b r k d) (due_turn b (served_by i (turned b) ++ rest) (due_turns i (turned b) rest more) r k d)

  -- ---- any calls

  due_same : (b : Bench) (c : Call) (r k : ℕ) → lane_at (leaves b c).lanes n ≡ lane_at b.lanes n → (leaves b c).last ≡ b.last → Due n w b r k → Due n w (leaves b c) r k
  due_same b c r k lane last d =
      record {
        sound = sound-leaves b c d.sound;
        lane = d.lane;
        owner = ap (λ (l : Lane). l.owner) lane ∙ d.owner;
        phase = ap (λ (l : Lane). l.phase) lane ∙ d.phase;
        lacking = ap lacks lane ∙ d.lacking;
        near = rw last d.near;
      }

  wait : (cs : List Call) (b : Bench) → never (closes n w) b cs ≡ true → (r k : ℕ) → Due n w b r k → Has n r k (log b cs)
  unfolding log never
  wait [] b still r k d = λ h. absurd (not-suc-le-zero h)
  wait (c ∷ cs) b still r k d =
      go (touch n b c) (wait cs (leaves b c) (both (not (closes n w b c)) _ still).1)
    where
      go : Touch n b c → ((q j : ℕ) → Due n w (leaves b c) q j → Has n q j (log (leaves b c) cs)) → Has n r k (serves b c ++ log (leaves b c) cs)
      go (same h) more = rw h.none (more r k (due_same b c r k h.lane h.last d))
      go (entered h) more = absurd (eqb-false 1 0 refl (sym d.phase ∙ h.was_idle))
      go (left h) more =
          let for : BusyFor w (lane_at b.lanes n) = record { busy = λ z. eqb-false 1 0 refl (sym d.phase ∙ z); owner = d.owner } in
          absurd
          (⊎_elim
          (λ e. false≢true (sym (not-true (closes n w b c) (both (not (closes n w b c)) _ still).0) ∙ ap (λ (u : ℕ). closes n u b c) (sym (left_by n b c w for h)) ∙ e))
          (λ e. eqb-false 1 2 refl (sym d.phase ∙ e))
          h.how)
      go (serving asked e h z) more = rw h (due_turns asked b (log (leaves b c) cs) (λ q j u. more q j (rw e u)) r k d)

  -- a sound bench, a lane that lacks turns
  pub waits : (b : Bench) (cs : List Call) (r : ℕ) → Sound b → n < lane_count → lacks (lane_at b.lanes n) ≡ r → (lane_at b.lanes n).owner ≡ w → never (closes n w) b cs ≡ true
      → lane_count * r ≤ length (log b cs) → r ≤ times n (take (lane_count * r) (log b cs))
  waits b cs r s hn e whose still h = go r (lane_count * r) refl e h
    where
      go : (r m : ℕ) → lane_count * r ≡ m → lacks (lane_at b.lanes n) ≡ r → m ≤ length (log b cs) → r ≤ times n (take m (log b cs))
      go zero m f g l = zero-le
      go (suc r) zero f g l = absurd (omega (arith, f, mul-suc lane_count r, some_lane))
      go (suc r) (suc k) f g l =
          wait cs b still r k
          (record {
            sound = s;
            lane = hn;
            owner = whose;
            phase = lacking-runs (lane_at b.lanes n) r g;
            lacking = g;
            near = omega (arith, f, mul-suc lane_count r, steps-lt (after b.last) n (after_lt b.last) hn);
          })
          l
