-- What the crates above use of a lane's turns: what one does to its record, and what it holds just opened and yields in the end.
use mathlib.Core.Path.{◌≡◌, refl, sym, ap, ◌∙◌}
use mathlib.Core.Bool.{true, cond}
use mathlib.Core.List.{List}
use Prim.Native.Nat.{ℕ, suc, ◌+◌, ◌-◌, ◌<◌}
use native.Mathlib.Omega.{arith}
use lib.Dec.{eqb, ltb}
use lib.ListN.{length, replicate}
use borrow.Author.Tests.{lt-ltb, le-leb, eqb-true, eqb-false}
use Rattle.answers.specs.Order.{if_done}
use Rattle.bits.proofs.Computed.{cond-true}
use Rattle.bits.proofs.Truth.{cond_either}
use Rattle.published.specs.Seen.{is_order, read_in, write_in}
use Rattle.primitives.specs.declared.State.{State}
use Rattle.primitives.specs.Packed.{block_of, state_of}
use Rattle.packing.proofs.Inverse.{packed-block, unpacked-block}
use Rattle.key_schedule.specs.Expand.{expand_code, expanded}
use Rattle.lane.specs.declared.Lane.{Lane}
use Rattle.lane.specs.Record.{running, finished, idle, sound_count, sound_lane}
use Rattle.lane.proofs.Records.{Tidy, tidy, tidy-sound, running-count}
use Rattle.lane_turns.specs.Turns.{opened, advanced, served, lacks, yielded}

-- what a record becomes in a turn of its own
abbrev pub next : Lane → Lane
next l =
    record {
      phase = cond (eqb (l.count + 1) 8) finished running;
      direction = l.direction;
      owner = l.owner;
      count = l.count + 1;
      order = l.order;
      words = l.words;
      state = advanced l;
    }

-- the same by its parts: the last turn, and one before it
pub served_by_lem : (l : Lane) (phase : ℕ) (state : State) → l.count < 8 → phase ≡ cond (eqb (l.count + 1) 8) finished running → state ≡ advanced l
    → record { phase = phase; direction = l.direction; owner = l.owner; count = l.count + 1; order = l.order; words = l.words; state = state } ≡ served l
unfolding served
served_by_lem l phase state h p s = rw (p, s) (sym (cond-true (ltb l.count 8) (next l) l (lt-ltb l.count 8 h)))

-- a turn leaves a lane its owner
pub served-owner : (l : Lane) → (served l).owner ≡ l.owner
unfolding served
served-owner l = cond_either (λ (k : Lane). k.owner ≡ l.owner) (ltb l.count 8) (next l) l (λ e. refl) (λ e. refl)

module _ (l : Lane) (sound : sound_lane l ≡ true) (runs : l.phase ≡ running) where
  pub served_next : served l ≡ next l
  unfolding served
  served_next = cond-true (ltb l.count 8) (next l) l (lt-ltb l.count 8 (running-count l sound runs))

  pub served-count : (served l).count ≡ l.count + 1
  served-count = ap (λ (k : Lane). k.count) served_next

  pub served-busy : (served l).phase ≡ idle → ⊥
  served-busy e =
      cond_either (λ (p : ℕ). p ≡ idle → ⊥) (eqb (l.count + 1) 8) finished running (λ t. eqb-false 2 0 refl) (λ t. eqb-false 1 0 refl)
      (sym (ap (λ (k : Lane). k.phase) served_next) ∙ e)

  pub served-sound : sound_lane (served l) ≡ true
  unfolding sound_count
  served-sound =
      let t : Tidy l = tidy l sound (λ z. eqb-false 1 0 refl (sym runs ∙ z)) in
      let counted : sound_count (next l).phase (l.count + 1) ≡ true =
      cond_either (λ (p : ℕ). sound_count p (l.count + 1) ≡ true) (eqb (l.count + 1) 8) finished running
      (λ e. e)
      (λ e. le-leb (l.count + 1) 7 (omega (arith, running-count l sound runs, eqb-false (l.count + 1) 8 e))) in
      let more : Tidy (next l) = record { owned = t.owned; directed = t.directed; ordered = t.ordered; counted = counted } in
      tidy-sound (served l) served-busy (rw served_next more)

  pub served-lacks : suc (lacks (served l)) ≡ lacks l
  unfolding lacks
  served-lacks =
      let c : ℕ = l.count in
      let left : c < 8 = running-count l sound runs in
      rw (served_next, runs)
      (cond_either (λ (p : ℕ). suc (cond (eqb p running) (8 - (c + 1)) 0) ≡ 8 - c) (eqb (c + 1) 8) finished running
      (λ e. omega (arith, eqb-true (c + 1) 8 e))
      (λ e. omega arith))

-- by a key and a block of 16 bytes, a lane is opened on the key's words and those of the block that its order sees
pub opened_on : (owner direction order : ℕ) (key block : List ℕ) → is_order order ≡ true → length key ≡ 16 → length block ≡ 16
    → opened owner direction order key block
    ≡ record { phase = running; direction = direction; owner = owner; count = 0; order = order; words = expanded key; state = state_of (read_in order block) }
unfolding opened expand_code
opened_on owner direction order key block o k b =
    λ i. record {
      phase = running;
      direction = direction;
      owner = owner;
      count = 0;
      order = order;
      words = ap (λ (n : ℕ). if_done (expand_code n 80) (expanded key) (replicate 80 0)) k i;
      state = packed-block order block o b i;
    }

-- what a lane yields into 16 bytes
pub yielded-bytes : (l : Lane) (out : List ℕ) → is_order l.order ≡ true → length out ≡ 16 → yielded l out ≡ write_in l.order (block_of l.state)
unfolding yielded
yielded-bytes l out o e = unpacked-block l.order l.state out o e
