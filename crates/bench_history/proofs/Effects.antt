-- What calls do to a bench, whoever made it: turns made and told, refusals, and what stays.
use mathlib.Core.Path.{◌≡◌, refl, sym, ap, ◌∙◌}
use mathlib.Core.Bool.{true, false, cond, false≢true}
use mathlib.Core.List.{[], ◌∷◌}
use mathlib.Core.Logic.{◌≢◌}
use Prim.Native.Nat.{ℕ, zero, suc, ◌+◌, min}
use native.Mathlib.Decide.{ℕ_discrete}
use native.Mathlib.Omega.{arith}
use lib.Dec.{eqb}
use lib.ListN.{length, replicate}
use borrow.Author.Tests.{eqb-false}
use Rattle.answers.proofs.Outcome.{if_done_lem, if_refused}
use Rattle.lane.specs.declared.Lane.{Lane}
use Rattle.lane.specs.Record.{idle_lane}
use Rattle.lane_turns.specs.Turns.{opened, lacks}
use Rattle.bench_orders.specs.Orders.{turn_code}
use Rattle.bench_turns.specs.declared.Bench.{Bench}
use Rattle.bench_turns.specs.Turning.{lane_at, chosen, any_runs, turned, turned_by, served_by, total}
use Rattle.bench_turns.specs.Sound.{sound_bench}
use Rattle.bench_turns.proofs.Soundness.{Sound, is_sound, says_sound}
use Rattle.bench_turns.proofs.Seeking.{phase-runs, runs_any}
use Rattle.bench_turns.proofs.Made.{turned_is, turned_none, sound-turned, by_turns, made_is, counts_more}
use Rattle.bench.specs.Calls.{put, answered, turn_of, taken_bytes}
use Rattle.bench_history.specs.History.{Call, opening, turning, taking, closing, answer_to, code_of, leaves, asks, serves, run, log, last_of, names}
use Rattle.bench_history.specs.Promises.{Turning, Refused, Frame}
use Rattle.bench_history.proofs.Accepted.{refused-leaves, refused-tells, refused-serves, TurnDone, turns, opens, takes, closings}
use Rattle.bench_history.proofs.Touched.{sound-leaves, put_there, put_last}
use Rattle.bench_history.proofs.Standing.{stand_turns}

-- ---- refusals

pub refused : (b : Bench) (c : Call) → code_of b c ≢ 0 → Refused b c
unfolding answer_to taken_bytes
refused b c ne =
    record {
      bench = refused-leaves b c ne;
      buffer = λ lane caller out e. if_refused _ _ out (λ z. ne (ap (code_of b) e ∙ z));
      turns = refused-tells b c ne;
      log = refused-serves b c ne;
    }

-- ---- what stays

-- a call that is done makes the turns asked for, or puts a record into the lane that it names
data Does (b : Bench) (c : Call) : Type 0 where
  makes : leaves b c ≡ turned_by (asks c) b → ((n : ℕ) → names n c ≡ true) → Does b c
  puts : (lane : ℕ) (l : Lane) → leaves b c ≡ put b lane l → ((n : ℕ) → names n c ≡ eqb lane n) → Does b c

does : (b : Bench) (c : Call) → code_of b c ≡ 0 → Does b c
unfolding names asks
does b (opening lane owner direction order key block) e = puts lane (opened owner direction order key block) (opens b lane owner direction order key block e).left (λ n. refl)
does b (turning asked) e = makes (turns b asked e).left (λ n. refl)
does b (taking lane caller out) e = puts lane idle_lane (takes b lane caller out e).left (λ n. refl)
does b (closing lane caller) e = puts lane idle_lane (closings b lane caller e).left (λ n. refl)

done-frame : (b : Bench) (c : Call) → Does b c → Frame b c
unfolding turned_by
done-frame b c (makes left named) =
    record {
      lanes = λ n h. absurd (false≢true (sym h ∙ named n));
      last = λ h. ap (λ (d : Bench). d.last) left ∙ ap (λ (k : ℕ). (turned_by k b).last) h;
    }
done-frame b c (puts lane l left named) =
    record {
      lanes = λ n h. ap (λ (d : Bench). lane_at d.lanes n) left ∙ put_there b lane l n (λ q. eqb-false lane n (sym (named n) ∙ h) (sym q));
      last = λ h. ap (λ (d : Bench). d.last) left ∙ put_last b lane l;
    }

pub frame : (b : Bench) (c : Call) → Frame b c
frame b c =
    elim (ℕ_discrete (code_of b c) 0) [
      | yes e ↦ done-frame b c (does b c e)
      | no ne ↦ record {
        lanes = λ n h. ap (λ (d : Bench). lane_at d.lanes n) (refused-leaves b c ne);
        last = λ h. ap (λ (d : Bench). d.last) (refused-leaves b c ne);
      }
    ]

-- ---- turns

module _ (b : Bench) (s : Sound b) where
  one_done : code_of b (turning 1) ≡ 0
  unfolding answer_to turn_of answered turn_code
  one_done = rw (says_sound b s)

  one_left : leaves b (turning 1) ≡ turned b
  unfolding turned_by
  one_left = (turns b 1 one_done).left

  one_logged : serves b (turning 1) ≡ cond (any_runs b) (chosen b ∷ []) []
  unfolding served_by
  one_logged = (turns b 1 one_done).logged

singly : (k : ℕ) (b : Bench) → Sound b → run b (replicate k (turning 1)) ≡ turned_by k b
unfolding run turned_by
singly zero b s = refl
singly (suc k) b s = ap (λ (d : Bench). run d (replicate k (turning 1))) (one_left b s) ∙ singly k (turned b) (sound-turned b s)

none_logged : (k : ℕ) (b : Bench) → Sound b → any_runs b ≡ false → log b (replicate k (turning 1)) ≡ []
unfolding log
none_logged zero b s none = refl
none_logged (suc k) b s none =
    rw (one_logged b s, none, one_left b s, turned_none b none) (none_logged k b s none)

singly_logged : (k : ℕ) (b : Bench) → Sound b → log b (replicate k (turning 1)) ≡ served_by k b
unfolding log
singly_logged =
    by_turns (λ k b is e. log b (replicate k (turning 1)) ≡ is) (λ b. refl) (λ k b s none. none_logged (suc k) b s none)
    (λ k b is e s any h. rw (one_logged b s, any, one_left b s, h))

risen : (k : ℕ) (b : Bench) → Sound b → total (λ l. l.count) (turned_by k b).lanes ≡ total (λ l. l.count) b.lanes + length (served_by k b)
risen =
    by_turns (λ k b is e. total (λ l. l.count) e.lanes ≡ total (λ l. l.count) b.lanes + length is) (λ b. omega arith) (λ k b s none. omega arith)
    (λ k b is e s any h. omega (arith, h, counts_more b any s))

to_the_end : (k : ℕ) (b : Bench) → Sound b → any_runs (turned_by k b) ≡ true → length (served_by k b) ≡ k
to_the_end =
    by_turns (λ k b is e. any_runs e ≡ true → length is ≡ k) (λ b h. refl) (λ k b s none h. absurd (false≢true (sym none ∙ h)))
    (λ k b is e s any h r. ap suc (h r))

last-served : (k : ℕ) (b : Bench) → Sound b → (turned_by k b).last ≡ last_of b.last (served_by k b)
unfolding last_of
last-served =
    by_turns (λ k b is e. e.last ≡ last_of b.last is) (λ b. refl) (λ k b s none. refl)
    (λ k b is e s any h. h ∙ ap (λ (d : Bench). last_of d.last is) (turned_is b any))

told_is : (b : Bench) (asked : ℕ) → code_of b (turning asked) ≡ 0 → (turn_of b asked).made ≡ min asked (total lacks b.lanes)
unfolding answer_to turn_of answered
told_is b asked e = if_done_lem _ _ 0 e

pub turning-done : (b : Bench) (asked : ℕ) → code_of b (turning asked) ≡ 0 → Turning b asked
turning-done b asked e =
    let t : TurnDone b asked = turns b asked e in
    let s : Sound b = t.sound in
    let told : (turn_of b asked).made ≡ min asked (total lacks b.lanes) = told_is b asked e in
    let logged : length (serves b (turning asked)) ≡ (turn_of b asked).made = ap length t.logged ∙ made_is asked b s ∙ sym told in
    record {
      told = told;
      logged = logged;
      risen = rw (t.left, ← logged, t.logged) (risen asked b s);
      to_the_end = λ n h r. sym logged ∙ ap length t.logged ∙ to_the_end asked b s (rw t.left at (runs_any (leaves b (turning asked)) n h (phase-runs (leaves b (turning asked)).lanes n r)));
      singly = singly asked b s ∙ sym t.left;
      singly_logged = singly_logged asked b s ∙ sym t.logged;
      lanes = λ n. rw (t.left, t.logged) (stand_turns n asked b s).is;
      last = rw (t.left, t.logged) (last-served asked b s);
    }

-- ---- soundness

pub stays-sound : (b : Bench) (c : Call) → sound_bench b ≡ true → sound_bench (leaves b c) ≡ true
stays-sound b c e = says_sound (leaves b c) (sound-leaves b c (is_sound b e))
