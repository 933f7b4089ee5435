-- Whose a lane is: what its owner's number, any other number and anyone's do to it, and that it stays its owner's until its owner releases it.
use mathlib.Core.Path.{◌≡◌, refl, sym, ap, ◌∙◌}
use mathlib.Core.Bool.{true, false}
use mathlib.Core.List.{List}
use mathlib.Core.Logic.{◌≢◌}
use Prim.Native.Nat.{ℕ, ◌<◌}
use lib.Dec.{eqb}
use lib.ListN.{length}
use borrow.Author.Tests.{eq-eqb, ne_eqb, eqb-false, lt-ltb}
use Rattle.answers.specs.Numbers.{DONE, BAD_BLOCK_LENGTH, LANE_NOT_FINISHED, NOT_THE_OWNER}
use Rattle.lane.specs.declared.Lane.{Lane}
use Rattle.lane.specs.Record.{finished, admits, idle_lane}
use Rattle.lane.proofs.Records.{idle-admits, busy-admits}
use Rattle.bench_orders.specs.Orders.{lane_count, take_code, close_code}
use Rattle.bench_turns.specs.declared.Bench.{Bench}
use Rattle.bench_turns.specs.Turning.{lane_at}
use Rattle.bench_turns.specs.Sound.{sound_bench}
use Rattle.bench_turns.proofs.Soundness.{Sound, is_sound, says_sound}
use Rattle.bench.specs.Calls.{answered, take_of, taken_bytes, close_of}
use Rattle.bench_history.specs.History.{Call, taking, closing, answer_to, leaves}
use Rattle.bench_history.specs.Promises.{BusyFor, ShutTo, Early, Admission, OwnerStays, Belongs, Refused}
use Rattle.bench_history.proofs.Effects.{refused}
use Rattle.bench_history.proofs.Touched.{Touch, touch, same, entered, left, served as serving}
use Rattle.bench_history.proofs.Standing.{stand_turns, stand}

-- ---- whom a busy lane admits

pub owner-admitted : (w : ℕ) (l : Lane) → BusyFor w l → admits l w ≡ true
owner-admitted w l for = busy-admits l w for.busy ∙ eq-eqb l.owner w for.owner

other_shut : (w : ℕ) (l : Lane) → BusyFor w l → (caller : ℕ) → caller ≢ w → admits l caller ≡ false
other_shut w l for caller ne = busy-admits l caller for.busy ∙ ne_eqb l.owner caller (λ e. ne (sym e ∙ for.owner))

-- ---- a sound bench

module _ (b : Bench) (s : Sound b) (n : ℕ) (lane_lt : n < lane_count) where
  -- a number told for a take or close that is refused is its answer
  take_refusal : (caller number : ℕ) (out : List ℕ) → eqb number 0 ≡ false → (take_of b n caller out).code ≡ number
      → (take_of b n caller out ≡ record { code = number; made = 0; bench = b }) × (taken_bytes b n caller out ≡ out)
  unfolding answer_to
  take_refusal caller number out z e =
      let r : Refused b (taking n caller out) = refused b (taking n caller out) (λ d. eqb-false number 0 z (sym e ∙ d)) in
      (λ i. record { code = e i; made = r.turns i; bench = r.bench i }, r.buffer n caller out refl)

  close_refusal : (caller number : ℕ) → eqb number 0 ≡ false → (close_of b n caller).code ≡ number → close_of b n caller ≡ record { code = number; made = 0; bench = b }
  unfolding answer_to
  close_refusal caller number z e =
      let r : Refused b (closing n caller) = refused b (closing n caller) (λ d. eqb-false number 0 z (sym e ∙ d)) in
      λ i. record { code = e i; made = r.turns i; bench = r.bench i }

  -- a busy lane, another number: 11, of a finished lane too and whatever the buffer
  module _ (w : ℕ) (for : BusyFor w (lane_at b.lanes n)) (caller : ℕ) (ne : caller ≢ w) where
    take_11 : (out : List ℕ) → (take_of b n caller out).code ≡ NOT_THE_OWNER
    unfolding take_of answered take_code
    take_11 out = rw (says_sound b s, lt-ltb n lane_count lane_lt, other_shut w (lane_at b.lanes n) for caller ne)

    close_11 : (close_of b n caller).code ≡ NOT_THE_OWNER
    unfolding close_of answered close_code
    close_11 = rw (says_sound b s, lt-ltb n lane_count lane_lt, other_shut w (lane_at b.lanes n) for caller ne)

    pub shut_to : ShutTo caller b n
    shut_to =
        record { take = λ out. take_refusal caller NOT_THE_OWNER out refl (take_11 out); close = close_refusal caller NOT_THE_OWNER refl close_11 }

  -- a lane that admits the caller: a take gives 7 until it is finished, then 2 or the bytes; a close is done
  module _ (caller : ℕ) (in-it : admits (lane_at b.lanes n) caller ≡ true) where
    take_7 : (lane_at b.lanes n).phase ≢ finished → (out : List ℕ) → (take_of b n caller out).code ≡ LANE_NOT_FINISHED
    unfolding take_of answered take_code
    take_7 ne out = rw (says_sound b s, lt-ltb n lane_count lane_lt, in-it, ne_eqb (lane_at b.lanes n).phase finished ne)

    pub early-take : (lane_at b.lanes n).phase ≢ finished → Early caller b n
    early-take ne out = take_refusal caller LANE_NOT_FINISHED out refl (take_7 ne out)

    take_2 : (lane_at b.lanes n).phase ≡ finished → (out : List ℕ) → length out ≢ 16 → (take_of b n caller out).code ≡ BAD_BLOCK_LENGTH
    unfolding take_of answered take_code
    take_2 p out ne = rw (says_sound b s, lt-ltb n lane_count lane_lt, in-it, p, ne_eqb (length out) 16 ne)

    pub take_0 : (lane_at b.lanes n).phase ≡ finished → (out : List ℕ) → length out ≡ 16 → (take_of b n caller out).code ≡ DONE
    unfolding take_of answered take_code
    take_0 p out e = rw (says_sound b s, lt-ltb n lane_count lane_lt, in-it, p, e)

    close_0 : (close_of b n caller).code ≡ DONE
    unfolding close_of answered close_code
    close_0 = rw (says_sound b s, lt-ltb n lane_count lane_lt, in-it)

-- the table of refusal 11
pub admission : (b : Bench) → sound_bench b ≡ true → (n : ℕ) → n < lane_count → Admission b n
admission b ok n h =
    let s : Sound b = is_sound b ok in
    let l : Lane = lane_at b.lanes n in
    record {
      idle_take = λ e caller. early-take b s n h caller (idle-admits l caller e) (λ p. eqb-false 0 2 refl (sym e ∙ p));
      idle_close = λ e caller. close_0 b s n h caller (idle-admits l caller e);
      own_early = λ w for p. early-take b s n h w (owner-admitted w l for) (λ q. eqb-false 1 2 refl (sym p ∙ q));
      own_wrong = λ w for p out ne. take_refusal b s n h w BAD_BLOCK_LENGTH out refl (take_2 b s n h w (owner-admitted w l for) p out ne);
      own_take = λ w for p out e. take_0 b s n h w (owner-admitted w l for) p out e;
      own_close = λ w for. close_0 b s n h w (owner-admitted w l for);
      others = λ w for caller ne. shut_to b s n h w for caller ne;
    }

-- ---- any calls

-- a call leaves a busy lane idle, or to its owner
pub owner-stays : (b : Bench) → sound_bench b ≡ true → (c : Call) → OwnerStays b c
unfolding idle_lane
owner-stays b ok c n w for busy = go (touch n b c)
  where
    go : Touch n b c → (lane_at (leaves b c).lanes n).owner ≡ w
    go (same h) = ap (λ (l : Lane). l.owner) h.lane ∙ for.owner
    go (entered h) = absurd (for.busy h.was_idle)
    go (left h) = absurd (busy (ap (λ (l : Lane). l.phase) h.wiped))
    go (serving asked e l z) =
        ap (λ (d : Bench). (lane_at d.lanes n).owner) e ∙ (stand_turns n asked b (is_sound b ok)).owner ∙ for.owner

-- it is its owner's until its owner releases it
pub belongs : (b : Bench) → sound_bench b ≡ true → (cs : List Call) → Belongs b cs
belongs b ok cs n w for kept =
    let a = stand n w cs b (is_sound b ok) for kept in
    record { busy = a.busy for.busy; owner = a.owner ∙ for.owner }
