-- A sound bench, as facts: as many records as lanes, one of them last served, each of them sound; and what keeps it so.
use mathlib.Core.Path.{◌≡◌, refl, sym, ap, ◌∙◌}
use mathlib.Core.Bool.{Bool, true, ◌&&◌, and-true, and_assoc}
use mathlib.Core.List.{List, [], ◌∷◌, map}
use mathlib.Core.Logic.{◌≢◌}
use Prim.Native.Nat.{ℕ, zero, suc, ◌+◌, ◌≤◌, ◌<◌}
use native.Mathlib.Nat.{not-suc-le-zero, le_of_suc-le-suc}
use native.Mathlib.Numerals.{add-one}
use native.Mathlib.Decide.{ℕ_discrete}
use native.Mathlib.Omega.{arith}
use lib.Dec.{eqb, ltb}
use lib.ListN.{length, drop, set, length-map, length-set, drop_of_length-le}
use lib.Seq.{drop-cons, get_or-set_same, get_or-set_other}
use borrow.Author.Tests.{eq-eqb, eqb-true, lt-ltb, ltb-true}
use Rattle.bits.proofs.Truth.{both, together}
use Rattle.lane.specs.declared.Lane.{Lane}
use Rattle.lane.specs.Record.{sound_lane}
use Rattle.bench_orders.specs.Orders.{lane_count}
use Rattle.bench_turns.specs.declared.Bench.{Bench}
use Rattle.bench_turns.specs.Turning.{lane_at}
use Rattle.bench_turns.specs.Sound.{all_sound, sound_bench}

pub record Sound (b : Bench) : Type 0 where
  pub size : length b.lanes ≡ lane_count
  pub last_lt : b.last < lane_count
  pub each : (i : ℕ) → i < lane_count → sound_lane (lane_at b.lanes i) ≡ true

all_at : (ls : List Lane) → all_sound ls ≡ true → (i : ℕ) → i < length ls → sound_lane (lane_at ls i) ≡ true
unfolding all_sound
all_at [] e i h = absurd (not-suc-le-zero h)
all_at (l ∷ ls) e zero h = (both (sound_lane l) (all_sound ls) e).0
all_at (l ∷ ls) e (suc i) h = all_at ls (both (sound_lane l) (all_sound ls) e).1 i (le_of_suc-le-suc h)

all_of : (ls : List Lane) → ((i : ℕ) → i < length ls → sound_lane (lane_at ls i) ≡ true) → all_sound ls ≡ true
unfolding all_sound
all_of [] f = refl
all_of (l ∷ ls) f = together (sound_lane l) (all_sound ls) (f 0 (omega arith)) (all_of ls (λ i h. f (suc i) (omega arith)))

-- the records from place i on are sound where the one there is, and those after it
all_from : (ls : List Lane) (i : ℕ) → i < length ls → all_sound (drop i ls) ≡ sound_lane (lane_at ls i) && all_sound (drop (i + 1) ls)
unfolding all_sound
all_from ls i h = ap all_sound (drop-cons ls i _ h) ∙ ap (λ (j : ℕ). sound_lane (lane_at ls i) && all_sound (drop j ls)) (sym (add-one i))

-- looking at the records one by one: whether those before place i are sound, and those from there on
module _ (ls : List Lane) (i : ℕ) (sound : Bool) (so_far : (sound && all_sound (drop i ls)) ≡ all_sound ls) where
  pub one_more : {ok : Bool} → ok ≡ sound_lane (lane_at ls i) → i < length ls → ((sound && ok) && all_sound (drop (i + 1) ls)) ≡ all_sound ls
  one_more {ok} e h =
      ap (λ (t : Bool). (sound && t) && all_sound (drop (i + 1) ls)) e
      ∙ and_assoc sound (sound_lane (lane_at ls i)) (all_sound (drop (i + 1) ls))
      ∙ ap (λ (t : Bool). sound && t) (sym (all_from ls i h)) ∙ so_far

  pub all_seen : length ls ≤ i → sound ≡ all_sound ls
  unfolding all_sound
  all_seen h = sym (and-true sound) ∙ ap (λ (l : List Lane). sound && all_sound l) (sym (drop_of_length-le ls h)) ∙ so_far

module _ (b : Bench) where
  pub is_sound : sound_bench b ≡ true → Sound b
  unfolding sound_bench
  is_sound e =
      let two : Bool = eqb (length b.lanes) lane_count && ltb b.last lane_count in
      let h : (two ≡ true) × (all_sound b.lanes ≡ true) = both two (all_sound b.lanes) e in
      let g : (eqb (length b.lanes) lane_count ≡ true) × (ltb b.last lane_count ≡ true) = both _ (ltb b.last lane_count) h.0 in
      let size : length b.lanes ≡ lane_count = eqb-true (length b.lanes) lane_count g.0 in
      record { size = size; last_lt = ltb-true b.last lane_count g.1; each = λ i l. all_at b.lanes h.1 i (rw size l) }

  pub says_sound : Sound b → sound_bench b ≡ true
  unfolding sound_bench
  says_sound s =
      together _ (all_sound b.lanes)
      (together _ (ltb b.last lane_count) (eq-eqb (length b.lanes) lane_count s.size) (lt-ltb b.last lane_count s.last_lt))
      (all_of b.lanes (λ i h. s.each i (rw s.size at h)))

-- an array of records is known to be long enough as what the machine keeps of them
pub unmapped : (X Y : Type 0) (f : X → Y) (l : List X) (n : ℕ) → length (map f l) ≡ n → length l ≡ n
unmapped X Y f l n e = sym (length-map l f) ∙ e

-- ---- a list of records with another one at place i

module _ (ls : List Lane) (i : ℕ) (l : Lane) where
  pub set_here : i < length ls → lane_at (set ls i l) i ≡ l
  set_here h = get_or-set_same ls i l _ h

  pub set_there : (j : ℕ) → j ≢ i → lane_at (set ls i l) j ≡ lane_at ls j
  set_there j ne = get_or-set_other ls i j l _ ne

-- another sound record in a lane, whichever lane was last served
pub sound-set : (b : Bench) (i last : ℕ) (l : Lane) → Sound b → i < lane_count → last < lane_count → sound_lane l ≡ true
    → Sound (record { lanes = set b.lanes i l; last = last })
sound-set b i last l s hi hl ok =
    record {
      size = length-set b.lanes i l ∙ s.size;
      last_lt = hl;
      each = λ j hj. elim (ℕ_discrete j i) [
        | yes e ↦ rw e (ap sound_lane (set_here b.lanes i l (rw s.size hi)) ∙ ok)
        | no ne ↦ ap sound_lane (set_there b.lanes i l j ne) ∙ s.each j hj
      ];
    }
