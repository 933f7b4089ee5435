-- The loop of turns: what is left of the turns asked for, done from here, gives what all of them give from the start.
use mathlib.Core.Path.{◌≡◌, sym, ap, ◌∙◌}
use mathlib.Core.Bool.{true, false}
use Prim.Native.Nat.{ℕ, suc, ◌+◌, ◌-◌, ◌≤◌}
use native.Mathlib.Nat.{add-zero}
use native.Mathlib.Omega.{arith}
use lib.ListN.{length}
use Rattle.bench_turns.specs.declared.Bench.{Bench}
use Rattle.bench_turns.specs.Turning.{any_runs, turned, turned_by, served_by}
use Rattle.bench_turns.proofs.Made.{none_turned, none_served, one_served}

module _ (asked : ℕ) (start : Bench) where
  abbrev pub Done : ℕ → Bench → Type 0
  Done made b = (made ≡ length (served_by asked start)) × (b ≡ turned_by asked start)

  -- after `made` turns, on bench b
  abbrev pub Rest : ℕ → Bench → Type 0
  Rest made b = (k : ℕ) → made + k ≡ asked → (made + length (served_by k b) ≡ length (served_by asked start)) × (turned_by k b ≡ turned_by asked start)

  pub rest_all : Rest 0 start
  rest_all k e = let f : k ≡ asked = omega (arith, e) in (rw f (omega arith), rw f)

  module _ (made : ℕ) (b : Bench) (rest : Rest made b) where
    pub rest_one : any_runs b ≡ true → Rest (made + 1) (turned b)
    unfolding turned_by
    rest_one any k e =
        let r = rest (suc k) (omega (arith, e)) in
        (omega (arith, r.0, ap length (one_served k b any)), r.1)

    pub rest_none : any_runs b ≡ false → made ≤ asked → Done made b
    rest_none none h =
        let k : ℕ = asked - made in
        let r = rest k (omega arith) in
        (omega (arith, r.0, ap length (none_served k b none)), sym (none_turned k b none) ∙ r.1)

    pub rest_over : made ≡ asked → Done made b
    unfolding turned_by served_by
    rest_over e = let r = rest 0 (add-zero made ∙ e) in (omega (arith, r.0), r.1)
