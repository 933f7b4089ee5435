-- No key outlives its lane: a lane that was taken from or closed is all zero, and so is every idle lane of a sound bench and of every history.
use mathlib.Core.Path.{◌≡◌, refl, sym, ap, ◌∙◌}
use mathlib.Core.Bool.{true, not, false≢true}
use mathlib.Core.List.{List, [], ◌∷◌}
use Prim.Native.Nat.{ℕ, zero, suc, ◌<◌}
use native.Mathlib.Decide.{ℕ_discrete}
use lib.Dec.{eqb, ltb}
use lib.ListN.{length, replicate, set, length-replicate, get_or-replicate}
use lib.Seq.{set-get_or, ext_get_or}
use borrow.Author.Tests.{eq-eqb}
use Rattle.answers.specs.Numbers.{DONE}
use Rattle.bits.proofs.Truth.{both, together, cond_either}
use Rattle.key_schedule.specs.Expand.{expand_code, expanded}
use Rattle.key_schedule.proofs.Expanded.{length-expanded}
use Rattle.gift128.specs.Calls.{new_words}
use Rattle.lane.specs.declared.Lane.{Lane}
use Rattle.lane.specs.Record.{idle, idle_lane}
use Rattle.lane.proofs.Zero.{zero_is_idle}
use Rattle.lane.proofs.Records.{idle_is}
use Rattle.lane_turns.specs.Turns.{opened, served}
use Rattle.bench_orders.specs.Orders.{lane_count}
use Rattle.bench_turns.specs.declared.Bench.{Bench}
use Rattle.bench_turns.specs.Turning.{lane_at}
use Rattle.bench_turns.specs.Sound.{sound_bench}
use Rattle.bench_turns.proofs.Soundness.{Sound, is_sound}
use Rattle.bench.specs.Calls.{fresh_bench, put, open_of}
use Rattle.bench_history.specs.History.{Call, taking, closing, answer_to, code_of, leaves, run, enters, releases, never, served_times}
use Rattle.bench_history.specs.Promises.{Held, Eighty, AllIdle, Released}
use Rattle.bench_history.proofs.Accepted.{opens, takes, closings}
use Rattle.bench_history.proofs.Touched.{sound-leaves, put_here, Entered, Touch, touch, same, entered, left, served as serving}
use Rattle.bench_history.proofs.Standing.{stand_turns, turns_wake_none}
use Rattle.bench_history.proofs.Demand.{ever_sound, run-append, held}

-- ---- after an accepted take or close, the lane is the idle one

pub taken-wiped : (b : Bench) (lane caller : ℕ) (out : List ℕ) → code_of b (taking lane caller out) ≡ 0 → lane_at (leaves b (taking lane caller out)).lanes lane ≡ idle_lane
taken-wiped b lane caller out e = let o = takes b lane caller out e in rw o.left (put_here b lane idle_lane o.sound o.lane_lt)

pub closed-wiped : (b : Bench) (lane caller : ℕ) → code_of b (closing lane caller) ≡ 0 → lane_at (leaves b (closing lane caller)).lanes lane ≡ idle_lane
closed-wiped b lane caller e = let o = closings b lane caller e in rw o.left (put_here b lane idle_lane o.sound o.lane_lt)

-- ---- a sound bench

module _ (b : Bench) (ok : sound_bench b ≡ true) (eighty : Eighty b) where
  -- an idle lane is all zero
  pub idle-wiped : (n : ℕ) → n < lane_count → (lane_at b.lanes n).phase ≡ idle → lane_at b.lanes n ≡ idle_lane
  idle-wiped n h e = zero_is_idle (lane_at b.lanes n) (eighty n h) (sym (idle_is (lane_at b.lanes n) e) ∙ (is_sound b ok).each n h)

  -- closing an idle lane changes nothing, whoever does it
  pub closing-idle : (n caller : ℕ) → (lane_at b.lanes n).phase ≡ idle → code_of b (closing n caller) ≡ 0 → leaves b (closing n caller) ≡ b
  unfolding put
  closing-idle n caller e done =
      let o = closings b n caller done in
      o.left ∙ ap (λ (ls : List Lane). record { lanes = ls; last = b.last }) (ap (set b.lanes n) (sym (idle-wiped n o.lane_lt e)) ∙ set-get_or b.lanes n _)

  -- with all lanes idle, it is the fresh bench but for the last served number
  pub all_idle : AllIdle b → b.lanes ≡ fresh_bench.lanes
  unfolding fresh_bench
  all_idle idles =
      let size : length b.lanes ≡ lane_count = (is_sound b ok).size in
      ext_get_or _ b.lanes (replicate lane_count idle_lane) (size ∙ sym (length-replicate lane_count idle_lane))
      (λ i h. let l : i < lane_count = rw size at h in idle-wiped i l (idles i l) ∙ sym (get_or-replicate lane_count i idle_lane _ l))

-- ---- every history

new_words_lem : (key : List ℕ) → length (new_words key) ≡ 80
new_words_lem key =
    cond_either (λ (ws : List ℕ). length ws ≡ 80) (eqb (expand_code (length key) 80) 0) (expanded key) (replicate 80 0) (λ e. length-expanded key) (λ e. refl)

served-words : (l : Lane) → (served l).words ≡ l.words
unfolding served
served-words l = cond_either (λ (k : Lane). k.words ≡ l.words) (ltb l.count 8) _ l (λ e. refl) (λ e. refl)

times_words : (t : ℕ) (l : Lane) → (served_times t l).words ≡ l.words
unfolding served_times
times_words zero l = refl
times_words (suc t) l = served-words (served_times t l) ∙ times_words t l

eighty_fresh : Eighty fresh_bench
unfolding fresh_bench idle_lane
eighty_fresh n h = ap (λ (l : Lane). length l.words) (get_or-replicate lane_count n idle_lane _ h)

eighty-leaves : (b : Bench) (c : Call) → Sound b → Eighty b → Eighty (leaves b c)
unfolding opened idle_lane
eighty-leaves b c s eighty n h = go (touch n b c)
  where
    go : Touch n b c → length (lane_at (leaves b c).lanes n).words ≡ 80
    go (same t) = ap (λ (l : Lane). length l.words) t.lane ∙ eighty n h
    go (entered t) =
        let o = opens b n t.owner t.direction t.order t.key t.block (rw t.call at t.accepted) in
        ap (λ (d : Call). length (lane_at (leaves b d).lanes n).words) t.call
        ∙ ap (λ (d : Bench). length (lane_at d.lanes n).words) o.left
        ∙ ap (λ (l : Lane). length l.words) (put_here b n (opened t.owner t.direction t.order t.key t.block) o.sound o.lane_lt) ∙ new_words_lem t.key
    go (left t) = ap (λ (l : Lane). length l.words) t.wiped
    go (serving asked e l z) =
        ap (λ (d : Bench). length (lane_at d.lanes n).words) e
        ∙ ap (λ (m : Lane). length m.words) (stand_turns n asked b s).is ∙ ap length (times_words _ (lane_at b.lanes n)) ∙ eighty n h

pub eighty-run : (cs : List Call) (b : Bench) → Sound b → Eighty b → Eighty (run b cs)
unfolding run
eighty-run [] b s eighty = eighty
eighty-run (c ∷ cs) b s eighty = eighty-run cs (leaves b c) (sound-leaves b c s) (eighty-leaves b c s eighty)

pub ever_eighty : (cs : List Call) → Eighty (run fresh_bench cs)
unfolding run
ever_eighty cs = eighty-run cs fresh_bench (is_sound fresh_bench (ever_sound [])) eighty_fresh

-- a lane that no accepted opening holds is all zero
pub none_outlives : (cs : List Call) (n : ℕ) → n < lane_count → (Held cs n → ⊥) → lane_at (run fresh_bench cs).lanes n ≡ idle_lane
none_outlives cs n h unheld =
    idle-wiped (run fresh_bench cs) (ever_sound cs) (ever_eighty cs) n h
    (elim (ℕ_discrete (lane_at (run fresh_bench cs).lanes n).phase idle) [
      | yes e ↦ e
      | no ne ↦ absurd (unheld (held cs n ne))
    ])

-- an idle lane stays idle until it is opened
entered-enters : (n : ℕ) (b : Bench) (c : Call) → Entered n b c → enters n b c ≡ true
unfolding enters answer_to
entered-enters n b c t =
    ap (enters n b) t.call
    ∙ together (eqb n n) _ (eq-eqb n n refl) (eq-eqb (open_of b n t.owner t.direction t.order t.key t.block).code DONE (rw t.call at t.accepted))

idle-stays : (n : ℕ) (cs : List Call) (b : Bench) → Sound b → (lane_at b.lanes n).phase ≡ idle → never (enters n) b cs ≡ true
    → (lane_at (run b cs).lanes n).phase ≡ idle
unfolding run never idle_lane
idle-stays n [] b s e k = e
idle-stays n (c ∷ cs) b s e k =
    let p = both (not (enters n b c)) (never (enters n) (leaves b c) cs) k in
    idle-stays n cs (leaves b c) (sound-leaves b c s) (go (touch n b c) p.0) p.1
  where
    go : Touch n b c → not (enters n b c) ≡ true → (lane_at (leaves b c).lanes n).phase ≡ idle
    go (same t) out = ap (λ (l : Lane). l.phase) t.lane ∙ e
    go (entered t) out = absurd (false≢true (ap not (sym (entered-enters n b c t)) ∙ out))
    go (left t) out = ap (λ (l : Lane). l.phase) t.wiped
    go (serving asked f l z) out =
        elim (ℕ_discrete (lane_at (leaves b c).lanes n).phase idle) [
          | yes i ↦ i
          | no ne ↦ absurd (turns_wake_none n asked b s (rw f at ne) e)
        ]

released-idle : (n w : ℕ) (b : Bench) (c : Call) → releases n w b c ≡ true → Touch n b c → (lane_at (leaves b c).lanes n).phase ≡ idle
unfolding releases idle_lane
released-idle n w b c r (same t) = absurd (false≢true (sym (t.kept w) ∙ r))
released-idle n w b c r (entered t) = absurd (false≢true (sym (ap (releases n w b) t.call) ∙ r))
released-idle n w b c r (left t) = ap (λ (l : Lane). l.phase) t.wiped
released-idle n w b c r (serving asked f l z) = absurd (false≢true (sym (z w) ∙ r))

-- a lane that was taken from or closed, and not opened since, is all zero
pub released-wiped : (cs : List Call) (n : ℕ) → n < lane_count → Released cs n → lane_at (run fresh_bench cs).lanes n ≡ idle_lane
unfolding run
released-wiped cs n h r =
    let b : Bench = run fresh_bench r.before in
    let s : Sound b = is_sound b (ever_sound r.before) in
    let e = idle-stays n r.since (leaves b r.by) (sound-leaves b r.by s) (released-idle n r.caller b r.by r.released (touch n b r.by)) r.unopened in
    idle-wiped (run fresh_bench cs) (ever_sound cs) (ever_eighty cs) n h
    (ap (λ (ds : List Call). (lane_at (run fresh_bench ds).lanes n).phase) (sym r.whole)
    ∙ ap (λ (d : Bench). (lane_at d.lanes n).phase) (run-append r.before (r.by ∷ r.since) fresh_bench) ∙ e)

-- once each lane was taken from or closed, the bench is fresh but for the last served number
pub all_released : (cs : List Call) → ((n : ℕ) → n < lane_count → Released cs n) → (run fresh_bench cs).lanes ≡ fresh_bench.lanes
unfolding idle_lane
all_released cs each =
    all_idle (run fresh_bench cs) (ever_sound cs) (ever_eighty cs)
    (λ n h. ap (λ (l : Lane). l.phase) (released-wiped cs n h (each n h)))
