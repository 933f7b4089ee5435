-- One turn and many: what a turn leaves sound, and that turns made are the smaller of those asked for and those lacking.
use mathlib.Core.Path.{◌≡◌, refl, sym, ap, ◌∙◌}
use mathlib.Core.Bool.{Bool, true, false, cond}
use mathlib.Core.List.{List, [], ◌∷◌}
use Prim.Native.Nat.{ℕ, zero, suc, ◌+◌, ◌≤◌, ◌<◌, min}
use native.Mathlib.Nat.{not-suc-le-zero, le_of_suc-le-suc}
use native.Mathlib.Omega.{arith}
use lib.ListN.{length, set}
use borrow.Author.Tests.{lt-ltb, le-ltb}
use Rattle.bits.proofs.Computed.{cond-true, cond-false}
use Rattle.lane.specs.declared.Lane.{Lane}
use Rattle.lane.specs.Record.{running, sound_lane}
use Rattle.lane_turns.specs.Turns.{served, lacks}
use Rattle.lane_turns.proofs.Serving.{served-count, served-lacks, served-sound}
use Rattle.bench_orders.specs.Orders.{lane_count}
use Rattle.bench_turns.specs.declared.Bench.{Bench}
use Rattle.bench_turns.specs.Turning.{lane_at, runs, after, seek, chosen, any_runs, turned, turned_by, served_by, total}
use Rattle.bench_turns.proofs.Soundness.{Sound, sound-set}
use Rattle.bench_turns.proofs.Seeking.{runs-phase, chosen_is, chosen-lt, chosen-runs, none_runs}

-- ---- sums over the lanes

pub total-set : (f : Lane → ℕ) (ls : List Lane) (i : ℕ) (l : Lane) → i < length ls → total f (set ls i l) + f (lane_at ls i) ≡ total f ls + f l
unfolding total
total-set f [] i l h = absurd (not-suc-le-zero h)
total-set f (k ∷ ls) zero l h = omega arith
total-set f (k ∷ ls) (suc i) l h = omega (arith, total-set f ls i l (le_of_suc-le-suc h))

total_none : (f : Lane → ℕ) (ls : List Lane) → ((i : ℕ) → i < length ls → f (lane_at ls i) ≡ 0) → total f ls ≡ 0
unfolding total
total_none f [] h = refl
total_none f (l ∷ ls) h = omega (arith, h 0 (omega arith), total_none f ls (λ i k. h (suc i) (omega arith)))

-- ---- one turn

module _ (b : Bench) where
  pub turned_none : any_runs b ≡ false → turned b ≡ b
  unfolding turned
  turned_none e = cond-false (any_runs b) _ b e

  -- where a search that starts after the last served lane finds none, and where it finds one
  pub none_found : {i : ℕ} → i ≡ after b.last → seek lane_count b.lanes i ≡ lane_count → any_runs b ≡ false
  unfolding any_runs chosen
  none_found e f = le-ltb (chosen b) lane_count (omega (arith, sym (ap (seek lane_count b.lanes) e) ∙ f))

  pub chosen_any : (n : ℕ) → n ≡ chosen b → n < lane_count → any_runs b ≡ true
  unfolding any_runs
  chosen_any n e h = lt-ltb (chosen b) lane_count (rw e at h)

  pub chosen_none : (n : ℕ) → n ≡ chosen b → lane_count ≤ n → any_runs b ≡ false
  unfolding any_runs
  chosen_none n e h = le-ltb (chosen b) lane_count (rw e at h)

  module _ (any : any_runs b ≡ true) where
    -- what a turn leaves where a lane runs
    pub turned_is : turned b ≡ record { lanes = set b.lanes (chosen b) (served (lane_at b.lanes (chosen b))); last = chosen b }
    unfolding turned
    turned_is = cond-true (any_runs b) _ b any

    pub chosen-phase : (lane_at b.lanes (chosen b)).phase ≡ running
    chosen-phase = runs-phase b.lanes (chosen b) (chosen-runs b any)

    module _ (s : Sound b) where
      pub chosen-sound : sound_lane (lane_at b.lanes (chosen b)) ≡ true
      chosen-sound = s.each (chosen b) (chosen-lt b any)

      pub turned-sound : Sound (turned b)
      turned-sound =
          rw turned_is
          (sound-set b (chosen b) (chosen b) _ s (chosen-lt b any) (chosen-lt b any) (served-sound (lane_at b.lanes (chosen b)) chosen-sound chosen-phase))

      -- a number of each lane that one turn of its own changes by one changes by one in the sum
      turned-total : (f : Lane → ℕ) → total f (turned b).lanes + f (lane_at b.lanes (chosen b)) ≡ total f b.lanes + f (served (lane_at b.lanes (chosen b)))
      turned-total f = rw turned_is (total-set f b.lanes (chosen b) _ (rw s.size (chosen-lt b any)))

      pub lacks_less : suc (total lacks (turned b).lanes) ≡ total lacks b.lanes
      lacks_less = omega (arith, turned-total lacks, served-lacks (lane_at b.lanes (chosen b)) chosen-sound chosen-phase)

      pub counts_more : total (λ k. k.count) (turned b).lanes ≡ suc (total (λ k. k.count) b.lanes)
      counts_more = omega (arith, turned-total (λ k. k.count), served-count (lane_at b.lanes (chosen b)) chosen-sound chosen-phase)

-- what a turn leaves that serves lane n
pub turned_at : (b : Bench) (n : ℕ) (l : Lane) → n ≡ chosen b → n < lane_count → l ≡ served (lane_at b.lanes n)
    → record { lanes = set b.lanes n l; last = n } ≡ turned b
turned_at b n l e h f = rw (f, e) (sym (turned_is b (chosen_any b n e h)))

pub one_found : (b : Bench) {i n : ℕ} {l : Lane} → i ≡ after b.last → n ≡ seek lane_count b.lanes i → n < lane_count → l ≡ served (lane_at b.lanes n)
    → (any_runs b ≡ true) × (record { lanes = set b.lanes n l; last = n } ≡ turned b)
one_found b {n = n} {l = l} e f h s = let is : n ≡ chosen b = chosen_is b e f in (chosen_any b n is h, turned_at b n l is h s)

-- ---- n turns

pub sound-turned : (b : Bench) → Sound b → Sound (turned b)
sound-turned b s = go (any_runs b) refl
  where
    go : (t : Bool) → any_runs b ≡ t → Sound (turned b)
    go true e = turned-sound b e s
    go false e = rw (turned_none b e) s

pub sound-turns : (n : ℕ) (b : Bench) → Sound b → Sound (turned_by n b)
unfolding turned_by
sound-turns zero b s = s
sound-turns (suc n) b s = sound-turns n (turned b) (sound-turned b s)

-- where no lane runs, turns make nothing
pub none_turned : (n : ℕ) (b : Bench) → any_runs b ≡ false → turned_by n b ≡ b
unfolding turned_by
none_turned zero b e = refl
none_turned (suc n) b e = ap (turned_by n) (turned_none b e) ∙ none_turned n b e

pub none_served : (n : ℕ) (b : Bench) → any_runs b ≡ false → served_by n b ≡ []
unfolding served_by
none_served zero b e = refl
none_served (suc n) b e = cond-false (any_runs b) _ [] e

pub one_served : (n : ℕ) (b : Bench) → any_runs b ≡ true → served_by (suc n) b ≡ chosen b ∷ served_by n (turned b)
unfolding served_by
one_served n b e = cond-true (any_runs b) _ [] e

-- what is proved of n turns turn by turn: of n, the bench before, the lanes served and the bench after
pub by_turns : (P : ℕ → Bench → List ℕ → Bench → Type 0) → ((b : Bench) → P 0 b [] b)
    → ((n : ℕ) (b : Bench) → Sound b → any_runs b ≡ false → P (suc n) b [] b)
    → ((n : ℕ) (b : Bench) (is : List ℕ) (e : Bench) → Sound b → any_runs b ≡ true → P n (turned b) is e → P (suc n) b (chosen b ∷ is) e)
    → (n : ℕ) (b : Bench) → Sound b → P n b (served_by n b) (turned_by n b)
unfolding served_by turned_by
by_turns P nil none more zero b s = nil b
by_turns P nil none more (suc n) b s = go (any_runs b) refl (by_turns P nil none more n (turned b) (sound-turned b s))
  where
    go : (t : Bool) → any_runs b ≡ t → P n (turned b) (served_by n (turned b)) (turned_by n (turned b))
        → P (suc n) b (cond t (chosen b ∷ served_by n (turned b)) []) (turned_by n (turned b))
    go true e later = more n b (served_by n (turned b)) (turned_by n (turned b)) s e later
    go false e later = rw (turned_none b e, none_turned n b e) (none n b s e)

-- where no lane runs, none is lacking
pub none_lacking : (b : Bench) → Sound b → any_runs b ≡ false → total lacks b.lanes ≡ 0
unfolding lacks runs
none_lacking b s e = total_none lacks b.lanes (λ i h. cond-false _ _ 0 (none_runs b e i (rw s.size at h)))

pub made_is : (n : ℕ) (b : Bench) → Sound b → length (served_by n b) ≡ min n (total lacks b.lanes)
made_is =
    by_turns (λ n b is e. length is ≡ min n (total lacks b.lanes)) (λ b. omega arith) (λ n b s none. omega (arith, none_lacking b s none))
    (λ n b is e s any h. omega (arith, lacks_less b any s, h))
