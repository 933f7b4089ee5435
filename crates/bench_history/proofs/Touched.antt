-- What a call does to one lane: nothing, or it serves turns, opens that lane or releases it. Soundness is kept by every call.
use mathlib.Core.Path.{◌≡◌, refl, sym, ap, ◌∙◌}
use mathlib.Core.Bool.{Bool, true, false, ◌&&◌, and-false}
use mathlib.Core.List.{List, []}
use mathlib.Core.Logic.{◌≢◌, ◌⊎◌, inl, inr}
use Prim.Native.Nat.{ℕ, ◌≤◌, ◌<◌}
use native.Mathlib.Decide.{ℕ_discrete}
use lib.Dec.{eqb}
use borrow.Author.Tests.{eq-eqb, ne_eqb, le-leb, eqb-true, eqb-false}
use Rattle.bits.proofs.Truth.{together}
use Rattle.published.specs.Seen.{is_order}
use Rattle.lane.specs.declared.Lane.{Lane}
use Rattle.lane.specs.Record.{idle, finished, sound_lane, sound_count, admits, idle_lane}
use Rattle.lane.proofs.Records.{idle-sound, tidy-sound, busy-admits}
use Rattle.lane_turns.specs.Turns.{opened}
use Rattle.bench_orders.specs.Orders.{lane_count}
use Rattle.bench_turns.specs.declared.Bench.{Bench}
use Rattle.bench_turns.specs.Turning.{lane_at, turned_by, served_by}
use Rattle.bench_turns.proofs.Soundness.{Sound, set_here, set_there}
use Rattle.bench_turns.proofs.Made.{sound-turns}
use Rattle.bench.specs.Calls.{put, take_of, close_of}
use Rattle.bench.proofs.Putting.{sound-put}
use Rattle.bench_history.specs.History.{Call, opening, turning, taking, closing, answer_to, code_of, leaves, serves, closes, releases}
use Rattle.bench_history.specs.Promises.{BusyFor}
use Rattle.bench_history.proofs.Accepted.{refused-leaves, refused-serves, opens, turns, takes, closings}

-- ---- soundness

opened-sound : (owner direction order : ℕ) (key block : List ℕ) → owner ≢ 0 → direction ≤ 1 → is_order order ≡ true → sound_lane (opened owner direction order key block) ≡ true
unfolding opened sound_count
opened-sound owner direction order key block ne h r =
    tidy-sound (opened owner direction order key block) (λ e. eqb-false 1 0 refl e) (record { owned = ne; directed = le-leb direction 1 h; ordered = r; counted = refl })

sound_idled : (b : Bench) (i : ℕ) → Sound b → i < lane_count → Sound (put b i idle_lane)
sound_idled b i s h = sound-put b i idle_lane s h idle-sound

done-sound : (b : Bench) (c : Call) → code_of b c ≡ 0 → Sound (leaves b c)
done-sound b (opening lane owner direction order key block) e =
    let o = opens b lane owner direction order key block e in
    rw o.left (sound-put b lane (opened owner direction order key block) o.sound o.lane_lt (opened-sound owner direction order key block o.owned o.direction_le o.ordered))
done-sound b (turning asked) e = let o = turns b asked e in rw o.left (sound-turns asked b o.sound)
done-sound b (taking lane caller out) e = let o = takes b lane caller out e in rw o.left (sound_idled b lane o.sound o.lane_lt)
done-sound b (closing lane caller) e = let o = closings b lane caller e in rw o.left (sound_idled b lane o.sound o.lane_lt)

pub sound-leaves : (b : Bench) (c : Call) → Sound b → Sound (leaves b c)
sound-leaves b c s =
    elim (ℕ_discrete (code_of b c) 0) [
      | yes e ↦ done-sound b c e
      | no ne ↦ rw (refused-leaves b c ne) s
    ]

-- ---- one lane of a bench with another record in some lane

module _ (b : Bench) (i : ℕ) (l : Lane) where
  pub put_here : Sound b → i < lane_count → lane_at (put b i l).lanes i ≡ l
  unfolding put
  put_here s h = set_here b.lanes i l (rw s.size h)

  pub put_there : (n : ℕ) → n ≢ i → lane_at (put b i l).lanes n ≡ lane_at b.lanes n
  unfolding put
  put_there n ne = set_there b.lanes i l n ne

  pub put_last : (put b i l).last ≡ b.last
  unfolding put
  put_last = refl

-- ---- what a call does to lane n

pub record Same (n : ℕ) (b : Bench) (c : Call) : Type 0 where
  pub lane : lane_at (leaves b c).lanes n ≡ lane_at b.lanes n
  pub last : (leaves b c).last ≡ b.last
  pub none : serves b c ≡ []
  pub kept : (w : ℕ) → releases n w b c ≡ false

pub record Entered (n : ℕ) (b : Bench) (c : Call) : Type 0 where
  pub owner : ℕ
  pub direction : ℕ
  pub order : ℕ
  pub key : List ℕ
  pub block : List ℕ
  pub call : c ≡ opening n owner direction order key block
  pub accepted : code_of b c ≡ 0
  pub was_idle : (lane_at b.lanes n).phase ≡ idle

-- left with a number that it admits; only a lane that is finished is left otherwise than by closing it
pub record Left (n : ℕ) (b : Bench) (c : Call) : Type 0 where
  pub caller : ℕ
  pub admitted : admits (lane_at b.lanes n) caller ≡ true
  pub released : releases n caller b c ≡ true
  pub how : (closes n caller b c ≡ true) ⊎ ((lane_at b.lanes n).phase ≡ finished)
  pub wiped : lane_at (leaves b c).lanes n ≡ idle_lane

pub data Touch (n : ℕ) (b : Bench) (c : Call) : Type 0 where
  same : Same n b c → Touch n b c
  entered : Entered n b c → Touch n b c
  left : Left n b c → Touch n b c
  served : (asked : ℕ) → leaves b c ≡ turned_by asked b → serves b c ≡ served_by asked b → ((w : ℕ) → releases n w b c ≡ false) → Touch n b c

-- a record put into a lane other than n
elsewhere : (n : ℕ) (b : Bench) (c : Call) (i : ℕ) (l : Lane) → leaves b c ≡ put b i l → serves b c ≡ [] → ((w : ℕ) → releases n w b c ≡ false) → n ≢ i → Touch n b c
elsewhere n b c i l e z k ne =
    same (record {
      lane = ap (λ (d : Bench). lane_at d.lanes n) e ∙ put_there b i l n ne;
      last = ap (λ (d : Bench). d.last) e ∙ put_last b i l;
      none = z;
      kept = k;
    })

-- what is refused releases nothing, and what is done in another lane does not release this one
refused-keeps : (n w : ℕ) (b : Bench) (c : Call) → code_of b c ≢ 0 → releases n w b c ≡ false
unfolding answer_to releases
refused-keeps n w b (opening lane owner direction order key block) ne = refl
refused-keeps n w b (turning asked) ne = refl
refused-keeps n w b (taking lane caller out) ne = rw (ne_eqb (take_of b lane caller out).code 0 ne) (and-false (eqb lane n && eqb caller w))
refused-keeps n w b (closing lane caller) ne = rw (ne_eqb (close_of b lane caller).code 0 ne) (and-false (eqb lane n && eqb caller w))

other_keeps : (n lane : ℕ) (s t : Bool) → n ≢ lane → eqb lane n && s && t ≡ false
other_keeps n lane s t ne = rw (ne_eqb lane n (λ e. ne (sym e)))

-- what is done in lane n with a number releases it with that number
released_by : (n lane caller r : ℕ) → n ≡ lane → r ≡ 0 → eqb lane n && eqb caller caller && eqb r 0 ≡ true
released_by n lane caller r p e = together _ (eqb r 0) (together (eqb lane n) _ (eq-eqb lane n (sym p)) (eq-eqb caller caller refl)) (eq-eqb r 0 e)

touch-done : (n : ℕ) (b : Bench) (c : Call) → code_of b c ≡ 0 → Touch n b c
unfolding releases closes answer_to
touch-done n b (opening lane owner direction order key block) e =
    let o = opens b lane owner direction order key block e in
    elim (ℕ_discrete n lane) [
      | yes p ↦ entered (record { owner = owner; direction = direction; order = order; key = key; block = block; call = ap (λ (i : ℕ). opening i owner direction order key block) (sym p); accepted = e; was_idle = rw p o.was_idle })
      | no ne ↦ elsewhere n b (opening lane owner direction order key block) lane (opened owner direction order key block) o.left o.none (λ w. refl) ne
    ]
touch-done n b (turning asked) e = served asked (turns b asked e).left (turns b asked e).logged (λ w. refl)
touch-done n b (taking lane caller out) e =
    let o = takes b lane caller out e in
    elim (ℕ_discrete n lane) [
      | yes p ↦ left (record {
        caller = caller;
        admitted = rw p o.admitted;
        released = released_by n lane caller _ p e;
        how = inr (rw p o.was_finished);
        wiped = rw (o.left, p) (put_here b lane idle_lane o.sound o.lane_lt);
      })
      | no ne ↦ elsewhere n b (taking lane caller out) lane idle_lane o.left o.none (λ w. other_keeps n lane _ _ ne) ne
    ]
touch-done n b (closing lane caller) e =
    let o = closings b lane caller e in
    elim (ℕ_discrete n lane) [
      | yes p ↦ left (record {
        caller = caller;
        admitted = rw p o.admitted;
        released = released_by n lane caller _ p e;
        how = inl (released_by n lane caller _ p e);
        wiped = rw (o.left, p) (put_here b lane idle_lane o.sound o.lane_lt);
      })
      | no ne ↦ elsewhere n b (closing lane caller) lane idle_lane o.left o.none (λ w. other_keeps n lane _ _ ne) ne
    ]

pub touch : (n : ℕ) (b : Bench) (c : Call) → Touch n b c
touch n b c =
    elim (ℕ_discrete (code_of b c) 0) [
      | yes e ↦ touch-done n b c e
      | no ne ↦ same (record {
        lane = ap (λ (d : Bench). lane_at d.lanes n) (refused-leaves b c ne);
        last = ap (λ (d : Bench). d.last) (refused-leaves b c ne);
        none = refused-serves b c ne;
        kept = λ w. refused-keeps n w b c ne;
      })
    ]

-- a busy lane is left with its owner's number
pub left_by : (n : ℕ) (b : Bench) (c : Call) (w : ℕ) → BusyFor w (lane_at b.lanes n) → (h : Left n b c) → h.caller ≡ w
left_by n b c w own h =
    sym (eqb-true _ h.caller (sym (busy-admits (lane_at b.lanes n) h.caller own.busy) ∙ h.admitted)) ∙ own.owner
