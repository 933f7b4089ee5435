-- What is proved of every history that starts with a fresh bench: `stands`, `in_time`, `alone`, `held`.
use mathlib.Core.Path.{◌≡◌, refl, sym, ap, ◌∙◌}
use mathlib.Core.Bool.{Bool, true, false, cond, ◌&&◌, not}
use mathlib.Core.List.{List, [], ◌∷◌, ◌++◌}
use mathlib.Core.Logic.{◌≢◌, ◌⊎◌, inl, inr, ⊎_elim}
use Prim.Native.Nat.{ℕ, zero, suc, ◌*◌, ◌≤◌, ◌<◌}
use native.Mathlib.Nat.{zero-add}
use native.Mathlib.Omega.{arith}
use lib.Dec.{leb, ltb}
use lib.ListN.{length, take, drop, replicate, take-append-drop}
use borrow.Author.Tests.{eqb-false, lt-leb, lt-ltb}
use Rattle.answers.specs.Numbers.{DONE}
use Rattle.answers.proofs.Outcome.{if_done_lem}
use Rattle.bits.proofs.Truth.{both, together}
use Rattle.published.specs.Bytes.{Bytes}
use Rattle.published.specs.Seen.{write_in}
use Rattle.published.proofs.Seen.{orders}
use Rattle.published.specs.Gift128.{pairs_of}
use Rattle.primitives.specs.Packed.{block_of, Words}
use Rattle.primitives.proofs.Blocks.{block_of_lt, block_of_state_of, state_of_block_of}
use Rattle.round_words.specs.Arranged.{pairs_from}
use Rattle.lane.specs.declared.Lane.{Lane}
use Rattle.lane.specs.Record.{idle, running, finished, idle_lane, everything, all_zero, sound_lane}
use Rattle.lane.proofs.Records.{tidy, finished-count, sound-count, eight-finished}
use Rattle.lane_turns.specs.Turns.{opened, advanced, served, lacks}
use Rattle.lane_turns.proofs.Serving.{next, yielded-bytes}
use Rattle.bench_orders.specs.Orders.{lane_count, take_code}
use Rattle.bench_turns.specs.declared.Bench.{Bench}
use Rattle.bench_turns.specs.Turning.{lane_at}
use Rattle.bench_turns.specs.Sound.{all_sound, sound_bench}
use Rattle.bench_turns.proofs.Soundness.{Sound, is_sound, says_sound}
use Rattle.bench.specs.Calls.{fresh_bench, answered, take_of, taken_bytes}
use Rattle.bench_history.specs.History.{Call, opening, turning, taking, closing, answer_to, code_of, leaves, run, log, times, closes, releases, never, served_times}
use Rattle.bench_history.specs.Promises.{reached, onward, owning, ordering, answer, BusyFor, ShutTo, Opening, call, calls, end, finds, left, made, own, Accepted, Unclosed, Kept, Stands, InTime, Held}
use Rattle.bench_history.proofs.Accepted.{OpenDone, opens, takes}
use Rattle.bench_history.proofs.Touched.{sound-leaves, put_here, Touch, touch, same, entered, left as leaving, served as serving}
use Rattle.bench_history.proofs.Belongs.{owner-admitted, shut_to, early-take}
use Rattle.bench_history.proofs.Standing.{times-append, After, stand, turns_wake_none}
use Rattle.bench_history.proofs.Waiting.{waits}
use Rattle.bench_history.proofs.Quintuples.{reached-lt, turns_are_rounds, phase_by_count, reach, yields}

-- ---- histories

fresh_sound : Sound fresh_bench
unfolding fresh_bench lane_count sound_bench all_sound sound_lane everything all_zero idle_lane
fresh_sound = is_sound fresh_bench refl

-- (the record past the end is idle, too)
fresh_idle : (n : ℕ) → (lane_at fresh_bench.lanes n).phase ≡ idle
unfolding fresh_bench idle_lane
fresh_idle n = all lane_count n
  where
    all : (k n : ℕ) → (lane_at (replicate k idle_lane) n).phase ≡ idle
    all zero n = refl
    all (suc k) zero = refl
    all (suc k) (suc n) = all k n

run_sound : (cs : List Call) (b : Bench) → Sound b → Sound (run b cs)
unfolding run
run_sound [] b s = s
run_sound (c ∷ cs) b s = run_sound cs (leaves b c) (sound-leaves b c s)

-- every bench of a history is sound, so that no call of it is refused with 10
pub ever_sound : (cs : List Call) → sound_bench (run fresh_bench cs) ≡ true
ever_sound cs = says_sound (run fresh_bench cs) (run_sound cs fresh_bench fresh_sound)

pub run-append : (cs ds : List Call) (b : Bench) → run b (cs ++ ds) ≡ run (run b cs) ds
unfolding run
run-append [] ds b = refl
run-append (c ∷ cs) ds b = run-append cs ds (leaves b c)

times-take : (n k : ℕ) (is : List ℕ) → times n (take k is) ≤ times n is
times-take n k is = omega (arith, ap (times n) (take-append-drop k is), times-append n (take k is) (drop k is))

-- what is never released is never closed
closed-released : (n w : ℕ) (b : Bench) (c : Call) → not (releases n w b c) ≡ true → not (closes n w b c) ≡ true
unfolding closes releases
closed-released n w b (opening lane owner direction order key block) h = h
closed-released n w b (turning asked) h = h
closed-released n w b (taking lane caller out) h = refl
closed-released n w b (closing lane caller) h = h

never-closed : (n w : ℕ) (cs : List Call) (b : Bench) → never (releases n w) b cs ≡ true → never (closes n w) b cs ≡ true
unfolding never
never-closed n w [] b h = refl
never-closed n w (c ∷ cs) b h =
    let p = both (not (releases n w b c)) (never (releases n w) (leaves b c) cs) h in
    together (not (closes n w b c)) _ (closed-released n w b c p.0) (never-closed n w cs (leaves b c) p.1)

-- ---- from an accepted opening on

module _ (o : Opening) (ok : Accepted o) where
  did : OpenDone (finds o) o.lane o.owner o.direction o.order o.key o.block
  did = opens (finds o) o.lane o.owner o.direction o.order o.key o.block ok

  left_sound : Sound (left o)
  left_sound = sound-leaves (finds o) (call o) did.sound

  left_lane : lane_at (left o).lanes o.lane ≡ opened o.owner o.direction o.order o.key o.block
  left_lane =
      ap (λ (d : Bench). lane_at d.lanes o.lane) did.left
      ∙ put_here (finds o) o.lane (opened o.owner o.direction o.order o.key o.block) did.sound did.lane_lt

  end_is : end o ≡ run (left o) o.since
  unfolding run
  end_is = run-append o.before (call o ∷ o.since) fresh_bench

  end-sound : Sound (end o)
  end-sound = run_sound (calls o) fresh_bench fresh_sound

  -- what is opened runs, is its owner's, and lacks eight turns
  left_owner : (lane_at (left o).lanes o.lane).owner ≡ o.owner
  unfolding opened
  left_owner = ap (λ (l : Lane). l.owner) left_lane

  left_busy : BusyFor o.owner (lane_at (left o).lanes o.lane)
  unfolding opened
  left_busy = record { busy = λ e. eqb-false 1 0 refl (sym (ap (λ (l : Lane). l.phase) left_lane) ∙ e); owner = left_owner }

  left_lacks : lacks (lane_at (left o).lanes o.lane) ≡ 8
  unfolding lacks opened
  left_lacks = ap lacks left_lane

  -- among the first 128 turns made on the bench since, eight are the lane's own
  pub in_time : Unclosed o → InTime o
  in_time still = waits o.lane o.owner (left o) o.since 8 left_sound did.lane_lt left_lacks left_owner still

  module _ (kept : Kept o) where
    stood : After (opened o.owner o.direction o.order o.key o.block) (own o) (lane_at (end o).lanes o.lane)
    stood = rw (end_is, ← left_lane) (stand o.lane o.owner o.since (left o) left_sound left_busy kept)

    -- it is still its owner's, and shut to all others
    pub end-busy : BusyFor o.owner (lane_at (end o).lanes o.lane)
    unfolding opened
    end-busy = record { busy = stood.busy (eqb-false 1 0 refl); owner = stood.owner }

    pub shut : (caller : ℕ) → caller ≢ o.owner → ShutTo caller (end o) o.lane
    shut caller ne = shut_to (end o) end-sound o.lane did.lane_lt o.owner end-busy caller ne

    at_most : own o ≤ 8
    unfolding opened
    at_most = omega (arith, stood.counted, sound-count (lane_at (end o).lanes o.lane) (end-sound.each o.lane did.lane_lt))

    -- only a lane with eight turns of its own is taken from
    taken_own : (caller : ℕ) (out : List ℕ) → (take_of (end o) o.lane caller out).code ≡ 0 → own o ≡ 8
    unfolding answer_to opened
    taken_own caller out e =
        omega (arith, stood.counted, finished-count (lane_at (end o).lanes o.lane) (end-sound.each o.lane did.lane_lt) (takes (end o) o.lane caller out e).was_finished)

    taken-bytes : (caller : ℕ) (out : List ℕ) → (take_of (end o) o.lane caller out).code ≡ 0 → taken_bytes (end o) o.lane caller out ≡ write_in (lane_at (end o).lanes o.lane).order (block_of (lane_at (end o).lanes o.lane).state)
    unfolding taken_bytes answer_to
    taken-bytes caller out e =
        let l : Lane = lane_at (end o).lanes o.lane in
        if_done_lem _ _ out e ∙ yielded-bytes l out (tidy l (end-sound.each o.lane did.lane_lt) end-busy.busy).ordered (takes (end o) o.lane caller out e).out_long

    -- a lane that was not released was not closed
    unclosed : Unclosed o
    unclosed = never-closed o.lane o.owner o.since (left o) kept

    -- once 128 turns were made on the bench, the lane's record is finished
    pub finished_in_time : lane_count * 8 ≤ length (made o) → (lane_at (end o).lanes o.lane).phase ≡ finished
    unfolding opened
    finished_in_time h =
        eight-finished (lane_at (end o).lanes o.lane) (end-sound.each o.lane did.lane_lt)
        (omega (arith, stood.counted, at_most, in_time unclosed h, times-take o.lane (lane_count * 8) (made o)))

    module _ (bytes : Bytes o.block) where
      here : lane_at (end o).lanes o.lane ≡ onward (pairs_of o.key) (own o) (opened o.owner o.direction o.order o.key o.block)
      here =
          stood.is
          ∙ reach o.owner o.direction o.order o.key o.block ((orders o.order).block o.block did.block_long bytes) did.ordered did.key_long did.block_long (own o) at_most

      phase_is : (lane_at (end o).lanes o.lane).phase ≡ cond (leb 8 (own o)) finished running
      unfolding onward opened
      phase_is = ap (λ (l : Lane). l.phase) here ∙ ap (λ (k : ℕ). cond (leb 8 k) finished running) (zero-add (own o))

      runs-early : own o < 8 → (lane_at (end o).lanes o.lane).phase ≡ running
      runs-early h = phase_is ∙ ap (λ (t : Bool). cond t finished running) (lt-leb 8 (own o) h)

      module _ (out : List ℕ) where
        ready-code : own o ≡ 8 → length out ≡ 16 → (take_of (end o) o.lane o.owner out).code ≡ DONE
        unfolding take_of answered take_code
        ready-code h e =
            rw (says_sound (end o) end-sound, lt-ltb o.lane lane_count did.lane_lt, owner-admitted o.owner (lane_at (end o).lanes o.lane) end-busy, phase_is, h, e)

        ready-bytes : own o ≡ 8 → length out ≡ 16 → taken_bytes (end o) o.lane o.owner out ≡ answer o.direction o.order o.key o.block
        unfolding onward opened
        ready-bytes h e =
            taken-bytes o.owner out (ready-code h e)
            ∙ (rw (here, h) (yields o.owner o.direction o.order o.key o.block ((orders o.order).block o.block did.block_long bytes) did.ordered did.key_long did.block_long))

      -- where the lane stands, and what it yields
      pub stands : Stands o
      stands =
          record {
            at_most = at_most;
            stands = here;
            early = λ h. early-take (end o) end-sound o.lane did.lane_lt o.owner (owner-admitted o.owner (lane_at (end o).lanes o.lane) end-busy)
                (λ p. eqb-false 1 2 refl (sym (runs-early h) ∙ p));
            ready = λ h out e. (ready-code out h e, ready-bytes out h e);
            only_ready = taken_own;
            others = shut;
          }

-- turns do not look at the owner
served-owning : (w : ℕ) (l : Lane) → served (owning w l) ≡ owning w (served l)
unfolding served owning advanced
served-owning w l = go (ltb l.count 8)
  where
    go : (t : Bool) → cond t (next (owning w l)) (owning w l) ≡ owning w (cond t (next l) l)
    go true = refl
    go false = refl

times-owning : (t w : ℕ) (l : Lane) → served_times t (owning w l) ≡ owning w (served_times t l)
unfolding served_times
times-owning zero w l = refl
times-owning (suc t) w l = ap served (times-owning t w l) ∙ served-owning w (served_times t l)

-- nor at the order
served-ordering : (order : ℕ) (l : Lane) → served (ordering order l) ≡ ordering order (served l)
unfolding served ordering advanced
served-ordering order l = go (ltb l.count 8)
  where
    go : (t : Bool) → cond t (next (ordering order l)) (ordering order l) ≡ ordering order (cond t (next l) l)
    go true = refl
    go false = refl

pub times-ordering : (t order : ℕ) (l : Lane) → served_times t (ordering order l) ≡ ordering order (served_times t l)
unfolding served_times
times-ordering zero order l = refl
times-ordering (suc t) order l = ap served (times-ordering t order l) ∙ served-ordering order (served_times t l)

-- what a lane holds and yields depends on its own opening alone: two histories, alike in nothing else, and two owners
module _ (o p : Opening) (oko : Accepted o) (okp : Accepted p) (ko : Kept o) (kp : Kept p) (d : o.direction ≡ p.direction) (r : o.order ≡ p.order) (k : o.key ≡ p.key) (b : o.block ≡ p.block) where
  pub alone : own o ≡ own p → lane_at (end o).lanes o.lane ≡ owning o.owner (lane_at (end p).lanes p.lane)
  unfolding opened owning
  alone t =
      (stood o oko ko).is
      ∙ (rw (t, d, r, k, b) (times-owning (own p) o.owner (opened p.owner p.direction p.order p.key p.block)))
      ∙ ap (owning o.owner) (sym (stood p okp kp).is)

  pub alone-bytes : (w v : ℕ) (out into : List ℕ) → (take_of (end o) o.lane w out).code ≡ 0 → (take_of (end p) p.lane v into).code ≡ 0
      → taken_bytes (end o) o.lane w out ≡ taken_bytes (end p) p.lane v into
  unfolding owning
  alone-bytes w v out into e f =
      taken-bytes o oko ko w out e
      ∙ ap (λ (l : Lane). write_in l.order (block_of l.state)) (alone (taken_own o oko ko w out e ∙ sym (taken_own p okp kp v into f)))
      ∙ sym (taken-bytes p okp kp v into f)

-- ---- no lane escapes

-- an accepted opening of lane n among the calls cs on bench b, kept since, whatever the number
record Since (n : ℕ) (b : Bench) (cs : List Call) : Type 0 where
  before : List Call
  owner : ℕ
  direction : ℕ
  order : ℕ
  key : List ℕ
  block : List ℕ
  since : List Call
  whole : before ++ opening n owner direction order key block ∷ since ≡ cs
  accepted : code_of (run b before) (opening n owner direction order key block) ≡ 0
  kept : (w : ℕ) → never (releases n w) (leaves (run b before) (opening n owner direction order key block)) since ≡ true

abbrev Busy : ℕ → Bench → Type 0
Busy n b = (lane_at b.lanes n).phase ≢ idle

-- a lane that is busy after some calls was busy before them and kept, or was opened in them and kept since
split : (n : ℕ) (cs : List Call) (b : Bench) → Sound b → Busy n (run b cs) → (Busy n b × ((w : ℕ) → never (releases n w) b cs ≡ true)) ⊎ Since n b cs
unfolding run never idle_lane
split n [] b s busy = inl (busy, λ w. refl)
split n (c ∷ cs) b s busy = ⊎_elim (λ h. now (touch n b c) h.0 h.1) (λ h. inr (earlier h)) (split n cs (leaves b c) (sound-leaves b c s) busy)
  where
    earlier : Since n (leaves b c) cs → Since n b (c ∷ cs)
    earlier h =
        record {
          before = c ∷ h.before;
          owner = h.owner;
          direction = h.direction;
          order = h.order;
          key = h.key;
          block = h.block;
          since = h.since;
          whole = ap (λ (ds : List Call). c ∷ ds) h.whole;
          accepted = h.accepted;
          kept = h.kept;
        }

    more : ((w : ℕ) → releases n w b c ≡ false) → ((w : ℕ) → never (releases n w) (leaves b c) cs ≡ true)
        → (w : ℕ) → not (releases n w b c) && never (releases n w) (leaves b c) cs ≡ true
    more e k w = rw (e w) (k w)

    now : Touch n b c → Busy n (leaves b c) → ((w : ℕ) → never (releases n w) (leaves b c) cs ≡ true)
        → (Busy n b × ((w : ℕ) → not (releases n w b c) && never (releases n w) (leaves b c) cs ≡ true)) ⊎ Since n b (c ∷ cs)
    now (same h) busy k = inl (λ e. busy (ap (λ (l : Lane). l.phase) h.lane ∙ e), more h.kept k)
    now (entered h) busy k =
        inr (record {
          before = [];
          owner = h.owner;
          direction = h.direction;
          order = h.order;
          key = h.key;
          block = h.block;
          since = cs;
          whole = ap (λ (d : Call). d ∷ cs) (sym h.call);
          accepted = rw h.call at h.accepted;
          kept = λ w. rw h.call at (k w);
        })
    now (leaving h) busy k = absurd (busy (ap (λ (l : Lane). l.phase) h.wiped))
    now (serving asked e l z) busy k = inl (turns_wake_none n asked b s (rw e at busy), more z k)

-- every lane of a history that is not idle is held under an accepted opening
pub held : (cs : List Call) (n : ℕ) → (lane_at (run fresh_bench cs).lanes n).phase ≢ idle → Held cs n
held cs n busy = ⊎_elim (λ h. absurd (h.0 (fresh_idle n))) under (split n cs fresh_bench fresh_sound busy)
  where
    under : Since n fresh_bench cs → Held cs n
    under h =
        record {
          by = record { before = h.before; lane = n; owner = h.owner; direction = h.direction; order = h.order; key = h.key; block = h.block; since = h.since };
          whole = h.whole;
          lane = refl;
          accepted = h.accepted;
          kept = h.kept h.owner;
        }

-- so that, whatever the calls, a lane is idle or stands where the accepted opening that holds it says
pub none_escapes : (cs : List Call) → ((o : Opening) → calls o ≡ cs → Bytes o.block) → (n : ℕ) → (lane_at (run fresh_bench cs).lanes n).phase ≢ idle
    → (o : Opening) × (calls o ≡ cs) × (o.lane ≡ n) × Stands o
none_escapes cs bytes n busy =
    let h : Held cs n = held cs n busy in
    (h.by, h.whole, h.lane, stands h.by h.accepted h.kept (bytes h.by h.whole))

-- ---- sound records that no call made are served as well, with the words that they hold

module _ (b : Bench) (ok : sound_bench b ≡ true) (n : ℕ) (cs : List Call) where
  pub served_on : (w : ℕ) → BusyFor w (lane_at b.lanes n) → never (releases n w) b cs ≡ true
      → lane_at (run b cs).lanes n ≡ served_times (times n (log b cs)) (lane_at b.lanes n)
  served_on w own kept = (stand n w cs b (is_sound b ok) own kept).is

  -- it stands at the rounds that its words stand for, from where it was, and yields what they make
  module _ (hn : n < lane_count) (w : ℕ) (own : BusyFor w (lane_at b.lanes n)) (kept : never (releases n w) b cs ≡ true) (eighty : length (lane_at b.lanes n).words ≡ 80) (fit : Words (lane_at b.lanes n).state) where
    pub served_by_its_words : lane_at (run b cs).lanes n ≡ onward (pairs_from 0 (lane_at b.lanes n).words) (times n (log b cs)) (lane_at b.lanes n)
    served_by_its_words =
        let was : Lane = lane_at b.lanes n in
        let after : After was (times n (log b cs)) (lane_at (run b cs).lanes n) = stand n w cs b (is_sound b ok) own kept in
        after.is
        ∙ turns_are_rounds was eighty (phase_by_count was ((is_sound b ok).each n hn) own.busy) (state_of_block_of was.state fit) (times n (log b cs))
        (omega (arith, after.counted, sound-count (lane_at (run b cs).lanes n) ((run_sound cs b (is_sound b ok)).each n hn)))

    pub yields_by_its_words : (out : List ℕ) → (take_of (run b cs) n w out).code ≡ DONE
        → taken_bytes (run b cs) n w out
        ≡ write_in (lane_at b.lanes n).order
        (reached (lane_at b.lanes n).direction (pairs_from 0 (lane_at b.lanes n).words) (lane_at b.lanes n).count (times n (log b cs)) (block_of (lane_at b.lanes n).state))
    unfolding taken_bytes answer_to onward
    yields_by_its_words out e =
        let was : Lane = lane_at b.lanes n in
        let l : Lane = lane_at (run b cs).lanes n in
        let busy : l.phase ≢ idle = (stand n w cs b (is_sound b ok) own kept).busy own.busy in
        if_done_lem _ _ out e
        ∙ yielded-bytes l out (tidy l ((run_sound cs b (is_sound b ok)).each n hn) busy).ordered (takes (run b cs) n w out e).out_long
        ∙ ap (λ (m : Lane). write_in m.order (block_of m.state)) served_by_its_words
        ∙ ap (write_in was.order) (block_of_state_of _ (reached-lt was.direction (pairs_from 0 was.words) was.count (times n (log b cs)) (block_of was.state) (block_of_lt was.state)))

  pub served_in_time : n < lane_count → never (closes n (lane_at b.lanes n).owner) b cs ≡ true → lane_count * lacks (lane_at b.lanes n) ≤ length (log b cs)
      → lacks (lane_at b.lanes n) ≤ times n (take (lane_count * lacks (lane_at b.lanes n)) (log b cs))
  served_in_time hn still = waits n (lane_at b.lanes n).owner b cs (lacks (lane_at b.lanes n)) (is_sound b ok) hn refl refl still
