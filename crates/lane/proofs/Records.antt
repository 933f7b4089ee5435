-- What the crates above use of a record: what makes it sound, and its counts by its phase.
use mathlib.Core.Path.{◌≡◌, refl, sym, ap, ◌∙◌}
use mathlib.Core.Bool.{Bool, true, false, not, ◌&&◌, ◌||◌, and-false, or-false, false≢true}
use mathlib.Core.Logic.{◌≢◌}
use Prim.Native.Nat.{ℕ, zero, suc, ◌+◌, ◌≤◌, ◌<◌}
use native.Mathlib.Decide.{ℕ_discrete, dec_le}
use native.Mathlib.Omega.{arith}
use lib.Dec.{eqb, leb, ltb}
use borrow.Author.Tests.{lt-ltb, le-ltb, le-leb, lt-leb, ne_eqb, eqb-true, eqb-false, leb-true, not-true}
use Rattle.bits.proofs.Truth.{both, together}
use Rattle.published.specs.Seen.{is_order}
use Rattle.lane.specs.declared.Lane.{Lane}
use Rattle.lane.specs.Record.{running, finished, idle, idle_lane, everything, all_zero, sound_count, sound_lane, admits}
use Rattle.lane.proofs.Zero.{idle_is_zero}

-- what makes a busy record sound
pub busy_is : (l : Lane) → l.phase ≢ idle → sound_lane l ≡ (not (eqb l.owner 0) && leb l.direction 1 && is_order l.order && sound_count l.phase l.count)
unfolding sound_lane everything all_zero
busy_is l busy = rw (ne_eqb l.phase 0 busy)

-- a busy record that is sound, as facts
pub record Tidy (l : Lane) : Type 0 where
  pub owned : l.owner ≢ 0
  pub directed : leb l.direction 1 ≡ true
  pub ordered : is_order l.order ≡ true
  pub counted : sound_count l.phase l.count ≡ true

pub tidy : (l : Lane) → sound_lane l ≡ true → l.phase ≢ idle → Tidy l
tidy l s busy =
    let two : Bool = not (eqb l.owner 0) && leb l.direction 1 in
    let h : (two && is_order l.order ≡ true) × (sound_count l.phase l.count ≡ true) = both (two && is_order l.order) (sound_count l.phase l.count) (sym (busy_is l busy) ∙ s) in
    let f : (two ≡ true) × (is_order l.order ≡ true) = both two (is_order l.order) h.0 in
    let g : (not (eqb l.owner 0) ≡ true) × (leb l.direction 1 ≡ true) = both (not (eqb l.owner 0)) (leb l.direction 1) f.0 in
    record { owned = eqb-false l.owner 0 (not-true _ g.0); directed = g.1; ordered = f.1; counted = h.1 }

pub tidy-sound : (l : Lane) → l.phase ≢ idle → Tidy l → sound_lane l ≡ true
tidy-sound l busy t =
    busy_is l busy
    ∙ together _ (sound_count l.phase l.count)
    (together _ (is_order l.order) (together _ (leb l.direction 1) (ap not (ne_eqb l.owner 0 t.owned)) t.directed) t.ordered) t.counted

-- and an idle one
pub idle_is : (l : Lane) → l.phase ≡ idle → sound_lane l ≡ all_zero (everything l)
unfolding sound_lane sound_count
idle_is l e =
    let three : Bool = not (eqb l.owner 0) && leb l.direction 1 && is_order l.order in
    ap (λ (t : Bool). all_zero (everything l) || t) (ap (λ (p : ℕ). three && sound_count p l.count) e ∙ and-false three)
    ∙ or-false (all_zero (everything l))

-- the idle lane is sound
pub idle-sound : sound_lane idle_lane ≡ true
unfolding idle_lane
idle-sound = idle_is idle_lane refl ∙ idle_is_zero

-- whom a lane admits: anyone while it is idle, and then its owner
pub idle-admits : (l : Lane) (caller : ℕ) → l.phase ≡ idle → admits l caller ≡ true
unfolding admits
idle-admits l caller e = rw e

pub busy-admits : (l : Lane) (caller : ℕ) → l.phase ≢ idle → admits l caller ≡ eqb l.owner caller
unfolding admits
busy-admits l caller busy = rw (ne_eqb l.phase 0 busy)

-- a lane with a running record that is sound has turns left
pub running-count : (l : Lane) → sound_lane l ≡ true → l.phase ≡ running → l.count < 8
unfolding sound_count
running-count l s e =
    let h : leb l.count 7 ≡ true = rw e at (tidy l s (λ z. eqb-false 1 0 refl (sym e ∙ z))).counted in
    omega (arith, leb-true l.count 7 h)

pub finished-count : (l : Lane) → sound_lane l ≡ true → l.phase ≡ finished → l.count ≡ 8
unfolding sound_count
finished-count l s e =
    let h : eqb l.count 8 ≡ true = rw e at (tidy l s (λ z. eqb-false 2 0 refl (sym e ∙ z))).counted in
    eqb-true l.count 8 h

-- an idle record has count 0
idle-count : (l : Lane) → sound_lane l ≡ true → l.phase ≡ idle → l.count ≡ 0
unfolding everything all_zero
idle-count l s e =
    let p1 = both (eqb l.phase 0) _ (sym (idle_is l e) ∙ s) in
    let p2 = both (eqb l.direction 0) _ p1.1 in
    let p3 = both (eqb l.owner 0) _ p2.1 in
    eqb-true l.count 0 (both (eqb l.count 0) _ p3.1).0

pub sound-count : (l : Lane) → sound_lane l ≡ true → l.count ≤ 8
unfolding sound_count
sound-count l s =
    elim (ℕ_discrete l.phase idle) [
      | yes e ↦ omega (arith, idle-count l s e)
      | no ne ↦ go l.phase (tidy l s ne).counted
    ]
  where
    go : (p : ℕ) → sound_count p l.count ≡ true → l.count ≤ 8
    go zero e = absurd (false≢true e)
    go (suc zero) e = omega (arith, leb-true l.count 7 e)
    go (suc (suc zero)) e = omega (arith, eqb-true l.count 8 e)
    go (suc (suc (suc p))) e = absurd (false≢true e)

-- below 8 is at most 7, as tests
below-leb : (c m : ℕ) → ltb c (m + 1) ≡ leb c m
below-leb c m =
    elim (dec_le c m) [
      | yes h ↦ lt-ltb c (m + 1) (omega arith) ∙ sym (le-leb c m h)
      | no h ↦ le-ltb c (m + 1) (omega arith) ∙ sym (lt-leb c m (omega arith))
    ]

-- a record whose phase is another than idle: sound as its owner, its direction and its order are, and then as its count is
module _ (l : Lane) {t : Bool} (e : (not (eqb l.owner 0) && leb l.direction 1 && is_order l.order) ≡ t) where
  pub running_is : running ≡ l.phase → sound_lane l ≡ (t && ltb l.count 8)
  unfolding sound_count
  running_is p =
      busy_is l (λ z. eqb-false 1 0 refl (p ∙ z)) ∙ (rw (e, ← p)) ∙ ap (λ (c : Bool). t && c) (sym (below-leb l.count 7))

  pub finished_is : finished ≡ l.phase → sound_lane l ≡ (t && eqb l.count 8)
  unfolding sound_count
  finished_is p = busy_is l (λ z. eqb-false 2 0 refl (p ∙ z)) ∙ (rw (e, ← p))

-- a fourth phase is none
pub no_phase : (l : Lane) → finished < l.phase → sound_lane l ≡ false
unfolding sound_count
no_phase l h =
    let three : Bool = not (eqb l.owner 0) && leb l.direction 1 && is_order l.order in
    busy_is l (λ z. absurd (omega (arith, z))) ∙ ap (λ (t : Bool). three && t) (go l.phase h) ∙ and-false three
  where
    go : (p : ℕ) → finished < p → sound_count p l.count ≡ false
    go zero k = absurd (omega arith)
    go (suc zero) k = absurd (omega arith)
    go (suc (suc zero)) k = absurd (omega arith)
    go (suc (suc (suc p))) k = refl

-- a sound lane with eight turns is finished
pub eight-finished : (l : Lane) → sound_lane l ≡ true → l.count ≡ 8 → l.phase ≡ finished
unfolding sound_count
eight-finished l s e =
    elim (ℕ_discrete l.phase idle) [
      | yes z ↦ absurd (eqb-false 8 0 refl (sym e ∙ idle-count l s z))
      | no ne ↦ go l.phase (tidy l s ne).counted
    ]
  where
    go : (p : ℕ) → sound_count p l.count ≡ true → p ≡ finished
    go zero h = absurd (false≢true h)
    go (suc zero) h = absurd (omega (arith, e, leb-true l.count 7 h))
    go (suc (suc zero)) h = refl
    go (suc (suc (suc p))) h = absurd (false≢true h)
