-- Where a lane stands: over any calls that do not release it, its record is the one it had after as many turns of its own as the log has.
use mathlib.Core.Path.{◌≡◌, refl, sym, ap, ◌∙◌}
use mathlib.Core.Bool.{true, not, false≢true}
use mathlib.Core.List.{List, [], ◌∷◌, ◌++◌}
use mathlib.Core.Logic.{◌≢◌}
use Prim.Native.Nat.{ℕ, zero, suc, ◌+◌}
use native.Mathlib.Nat.{add-zero, add-suc, zero-add}
use native.Mathlib.Decide.{ℕ_discrete}
use native.Mathlib.Numerals.{one-add}
use native.Mathlib.Omega.{arith}
use lib.Dec.{eqb}
use borrow.Author.Tests.{eq-eqb, ne_eqb, eqb-false, not-true}
use Rattle.bits.proofs.Computed.{cond-true, cond-false}
use Rattle.bits.proofs.Truth.{both}
use Rattle.lane.specs.declared.Lane.{Lane}
use Rattle.lane.specs.Record.{idle, running, sound_lane}
use Rattle.lane_turns.specs.Turns.{served}
use Rattle.lane_turns.proofs.Serving.{served-count, served-busy, served-owner}
use Rattle.bench_turns.specs.declared.Bench.{Bench}
use Rattle.bench_turns.specs.Turning.{lane_at, chosen, any_runs, turned, turned_by, served_by}
use Rattle.bench_turns.proofs.Soundness.{Sound, set_here, set_there}
use Rattle.bench_turns.proofs.Seeking.{chosen-lt}
use Rattle.bench_turns.proofs.Made.{turned_is, chosen-phase, chosen-sound, by_turns}
use Rattle.bench_history.specs.History.{Call, leaves, serves, run, log, times, releases, never, served_times}
use Rattle.bench_history.specs.Promises.{BusyFor}
use Rattle.bench_history.proofs.Touched.{sound-leaves, Touch, touch, left_by, same, entered, left, served as serving}

-- ---- counting in a log

pub times_own : (n i : ℕ) (is : List ℕ) → i ≡ n → times n (i ∷ is) ≡ suc (times n is)
unfolding times
times_own n i is e = cond-true (eqb i n) _ _ (eq-eqb i n e)

pub times_other : (n i : ℕ) (is : List ℕ) → i ≢ n → times n (i ∷ is) ≡ times n is
unfolding times
times_other n i is ne = cond-false (eqb i n) _ _ (ne_eqb i n ne)

pub times-append : (n : ℕ) (is js : List ℕ) → times n (is ++ js) ≡ times n is + times n js
unfolding times
times-append n [] js = sym (zero-add (times n js))
times-append n (i ∷ is) js =
    elim (ℕ_discrete i n) [
      | yes e ↦ omega (arith, times_own n i (is ++ js) e, times_own n i is e, times-append n is js)
      | no ne ↦ omega (arith, times_other n i (is ++ js) ne, times_other n i is ne, times-append n is js)
    ]

-- ---- one turn, seen from lane n

module _ (b : Bench) (any : any_runs b ≡ true) (n : ℕ) where
  pub turned_own : Sound b → chosen b ≡ n → lane_at (turned b).lanes n ≡ served (lane_at b.lanes n)
  turned_own s e =
      rw (turned_is b any, ← e) (set_here b.lanes (chosen b) (served (lane_at b.lanes (chosen b))) (rw s.size (chosen-lt b any)))

  pub turned_other : chosen b ≢ n → lane_at (turned b).lanes n ≡ lane_at b.lanes n
  turned_other ne = rw (turned_is b any) (set_there b.lanes (chosen b) (served (lane_at b.lanes (chosen b))) n (λ e. ne (sym e)))

-- ---- the record l after t turns of its own is m

pub record After (l : Lane) (t : ℕ) (m : Lane) : Type 0 where
  pub is : m ≡ served_times t l
  pub counted : m.count ≡ l.count + t
  pub owner : m.owner ≡ l.owner
  pub busy : l.phase ≢ idle → m.phase ≢ idle

stays : (l m : Lane) → m ≡ l → After l 0 m
unfolding served_times
stays l m e = record { is = e; counted = ap (λ (k : Lane). k.count) e ∙ sym (add-zero l.count); owner = ap (λ (k : Lane). k.owner) e; busy = λ ne p. ne (sym (ap (λ (k : Lane). k.phase) e) ∙ p) }

one_turn : (l m : Lane) → sound_lane l ≡ true → l.phase ≡ running → m ≡ served l → After l 1 m
unfolding served_times
one_turn l m s r e =
    record {
      is = e;
      counted = ap (λ (k : Lane). k.count) e ∙ served-count l s r;
      owner = ap (λ (k : Lane). k.owner) e ∙ served-owner l;
      busy = λ ne p. served-busy l s r (sym (ap (λ (k : Lane). k.phase) e) ∙ p);
    }

times_then : (t u : ℕ) (l : Lane) → served_times u (served_times t l) ≡ served_times (t + u) l
unfolding served_times
times_then t zero l = ap (λ (k : ℕ). served_times k l) (sym (add-zero t))
times_then t (suc u) l = ap served (times_then t u l) ∙ ap (λ (k : ℕ). served_times k l) (sym (add-suc t u))

-- t turns and then u
then : (l m r : Lane) (t u v : ℕ) → v ≡ t + u → After l t m → After m u r → After l v r
then l m r t u v e p q =
    record {
      is = q.is ∙ ap (served_times u) p.is ∙ times_then t u l ∙ ap (λ (k : ℕ). served_times k l) (sym e);
      counted = omega (arith, e, p.counted, q.counted);
      owner = q.owner ∙ p.owner;
      busy = λ ne. q.busy (p.busy ne);
    }

-- ---- over the turns of one call

pub stand_turns : (n k : ℕ) (b : Bench) → Sound b → After (lane_at b.lanes n) (times n (served_by k b)) (lane_at (turned_by k b).lanes n)
unfolding times
stand_turns n =
    by_turns (λ k b is e. After (lane_at b.lanes n) (times n is) (lane_at e.lanes n)) (λ b. stays _ (lane_at b.lanes n) refl)
    (λ k b s none. stays _ (lane_at b.lanes n) refl) more
  where
    more : (k : ℕ) (b : Bench) (is : List ℕ) (e : Bench) → Sound b → any_runs b ≡ true → After (lane_at (turned b).lanes n) (times n is) (lane_at e.lanes n)
        → After (lane_at b.lanes n) (times n (chosen b ∷ is)) (lane_at e.lanes n)
    more k b is e s any later =
        let l : Lane = lane_at b.lanes n in
        let m : Lane = lane_at (turned b).lanes n in
        elim (ℕ_discrete (chosen b) n) [
          | yes p ↦ then l m _ 1 (times n is) _ (times_own n (chosen b) is p ∙ sym (one-add (times n is)))
              (one_turn l m (rw p at (chosen-sound b any s)) (rw p at (chosen-phase b any)) (turned_own b any n s p)) later
          | no ne ↦ then l m _ 0 (times n is) _ (times_other n (chosen b) is ne ∙ sym (zero-add (times n is))) (stays l m (turned_other b any n ne)) later
        ]

-- turns make no idle lane busy
pub turns_wake_none : (n k : ℕ) (b : Bench) → Sound b → (lane_at (turned_by k b).lanes n).phase ≢ idle → (lane_at b.lanes n).phase ≢ idle
turns_wake_none n = by_turns (λ k b is e. (lane_at e.lanes n).phase ≢ idle → (lane_at b.lanes n).phase ≢ idle) (λ b h. h) (λ k b s none h. h) more
  where
    more : (k : ℕ) (b : Bench) (is : List ℕ) (e : Bench) → Sound b → any_runs b ≡ true → ((lane_at e.lanes n).phase ≢ idle → (lane_at (turned b).lanes n).phase ≢ idle)
        → (lane_at e.lanes n).phase ≢ idle → (lane_at b.lanes n).phase ≢ idle
    more k b is e s any later h z =
        elim (ℕ_discrete (chosen b) n) [
          | yes p ↦ eqb-false 1 0 refl (sym (chosen-phase b any) ∙ ap (λ (i : ℕ). (lane_at b.lanes i).phase) p ∙ z)
          | no ne ↦ later h (ap (λ (l : Lane). l.phase) (turned_other b any n ne) ∙ z)
        ]

-- ---- over any calls

pub stand : (n w : ℕ) (cs : List Call) (b : Bench) → Sound b → BusyFor w (lane_at b.lanes n) → never (releases n w) b cs ≡ true
    → After (lane_at b.lanes n) (times n (log b cs)) (lane_at (run b cs).lanes n)
unfolding run log times never
stand n w [] b s for kept = stays (lane_at b.lanes n) (lane_at b.lanes n) refl
stand n w (c ∷ cs) b s for kept =
    let later : never (releases n w) (leaves b c) cs ≡ true = (both (not (releases n w b c)) _ kept).1 in
    go (touch n b c) (λ own. stand n w cs (leaves b c) (sound-leaves b c s) own later)
  where
    l : Lane
    l = lane_at b.lanes n

    m : Lane
    m = lane_at (leaves b c).lanes n

    r : Lane
    r = lane_at (run (leaves b c) cs).lanes n

    -- the first call and the others
    first : (t : ℕ) → times n (serves b c) ≡ t → After l t m → (BusyFor w m → After m (times n (log (leaves b c) cs)) r)
        → After l (times n (serves b c ++ log (leaves b c) cs)) r
    first t e one more =
        then l m r t _ _ (times-append n (serves b c) (log (leaves b c) cs) ∙ ap (λ (k : ℕ). k + times n (log (leaves b c) cs)) e) one
        (more (record { busy = one.busy for.busy; owner = one.owner ∙ for.owner }))

    go : Touch n b c → (BusyFor w m → After m (times n (log (leaves b c) cs)) r) → After l (times n (serves b c ++ log (leaves b c) cs)) r
    go (same h) more = first 0 (ap (times n) h.none) (stays l m h.lane) more
    go (entered h) more = absurd (for.busy h.was_idle)
    go (left h) more =
        absurd
        (false≢true (sym (not-true (releases n w b c) (both (not (releases n w b c)) _ kept).0) ∙ ap (λ (u : ℕ). releases n u b c) (sym (left_by n b c w for h)) ∙ h.released))
    go (serving asked e h k) more = first (times n (served_by asked b)) (ap (times n) h) (rw e (stand_turns n asked b s)) more
