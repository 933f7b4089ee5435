-- No call over lent records has a second outcome: its promise, and one law. The last served number comes back from a call for turns alone; in the others it stays.
use mathlib.Core.Path.{◌≡◌, refl}
use mathlib.Core.Bool.{Bool, true, false, cond}
use mathlib.Core.List.{List}
use Prim.Native.Nat.{ℕ}
use lib.Dec.{eqb}
use Rattle.answers.proofs.Outcome.{one_answer}
use Rattle.lane.specs.declared.Lane.{Lane}
use Rattle.bench_turns.specs.declared.Bench.{Bench}
use Rattle.bench.specs.Calls.{put, answered, open_of, take_of, close_of}
use Rattle.bench_lent.specs.declared.Turns.{Turns}
use Rattle.bench_lent.specs.Lent.{bench_of, Opens, Serves, Takes, Closes}

both : {A B : Type 0} {a x x' : A} {b y y' : B} → (x ≡ a) × (y ≡ b) → (x' ≡ a) × (y' ≡ b) → (x ≡ x') × (y ≡ y')
both p q = (one_answer p.0 q.0, one_answer p.1 q.1)

module _ (ls : List Lane) (last lane owner direction order asked : ℕ) (key block out : List ℕ) where
  pub open_lane : (r r' : ℕ) (e e' : List Lane) → Opens ls last lane owner direction order key block r e → Opens ls last lane owner direction order key block r' e' → (r ≡ r') × (e ≡ e')
  open_lane r r' e e' = both

  pub turn : (r r' : Turns) (e e' : List Lane) → Serves ls last asked r e → Serves ls last asked r' e' → (r ≡ r') × (e ≡ e')
  turn r r' e e' = both

  pub take : (r r' : ℕ) (e e' : List Lane) (u u' : List ℕ) → Takes ls last lane owner out r e u → Takes ls last lane owner out r' e' u' → (r ≡ r') × (e ≡ e') × (u ≡ u')
  take r r' e e' u u' p q = let h = both p.0 q.0 in (h.0, h.1, one_answer p.1 q.1)

  pub close : (r r' : ℕ) (e e' : List Lane) → Closes ls last lane owner r e → Closes ls last lane owner r' e' → (r ≡ r') × (e ≡ e')
  close r r' e e' = both

  -- done or refused, the number is that of the bench that came in
  stays : (number made : ℕ) (new : Bench) → new.last ≡ last → (answered number made new (bench_of ls last)).bench.last ≡ last
  unfolding answered
  stays number made new e = go (eqb number 0)
    where
      go : (z : Bool) → (cond z new (bench_of ls last)).last ≡ last
      go true = e
      go false = refl

  pub open_stays : (open_of (bench_of ls last) lane owner direction order key block).bench.last ≡ last
  unfolding open_of put
  open_stays = stays _ _ _ refl

  pub take-stays : (take_of (bench_of ls last) lane owner out).bench.last ≡ last
  unfolding take_of put
  take-stays = stays _ _ _ refl

  pub close-stays : (close_of (bench_of ls last) lane owner).bench.last ≡ last
  unfolding close_of put
  close-stays = stays _ _ _ refl
