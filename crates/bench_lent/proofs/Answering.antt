-- What the calls answer, from what their parts told: a refusal leaves the records, and what is done changes the one that is named.
use mathlib.Core.Path.{◌≡◌, refl, ap, ◌∙◌}
use mathlib.Core.List.{List}
use Prim.Native.Nat.{ℕ}
use lib.ListN.{length, set, length-set}
use Rattle.bits.proofs.Truth.{cond_either}
use Rattle.lane.specs.declared.Lane.{Lane}
use Rattle.bench_turns.specs.declared.Bench.{Bench}
use Rattle.bench_turns.specs.Turning.{any_runs, turned}
use Rattle.bench.specs.Calls.{Answer, put}
use Rattle.bench.proofs.Answered.{answer}
use Rattle.bench_lent.specs.Lent.{bench_of, Leaves, tells}

-- the number and the records of an answer
pub leaves : {c : ℕ} {d : Bench} {a : Answer} → answer c 0 d ≡ a → Leaves a c d.lanes
leaves e = (ap (λ (a : Answer). a.code) e, ap (λ (a : Answer). a.bench.lanes) e)

-- another record put where the lane that is named lies
pub stored : (ys : List Lane) (last lane : ℕ) {l m : Lane} → l ≡ m → bench_of (set ys lane l) last ≡ put (bench_of ys last) lane m
unfolding put
stored ys last lane e = ap (λ (k : Lane). bench_of (set ys lane k) last) e

-- what a call for turns tells, and the records that it leaves
pub serves : {code made : ℕ} {d : Bench} {a : Answer} → answer code made d ≡ a → (record { code = code; made = made; last = d.last } ≡ tells a) × (d.lanes ≡ a.bench.lanes)
serves e = (ap tells e, ap (λ (a : Answer). a.bench.lanes) e)

-- a turn leaves as many records as there were
pub turned-size : (b : Bench) {d : Bench} → d ≡ turned b → length d.lanes ≡ length b.lanes
unfolding turned
turned-size b e =
    ap (λ (k : Bench). length k.lanes) e
    ∙ cond_either (λ (k : Bench). length k.lanes ≡ length b.lanes) (any_runs b) _ b (λ _. length-set b.lanes _ _) (λ _. refl)
