-- No call of the bench has a second outcome: what each answers has a name, the source promises to equal it, and one law does the rest.
use mathlib.Core.Path.{◌≡◌}
use mathlib.Core.List.{List}
use Prim.Native.Nat.{ℕ}
use Rattle.answers.proofs.Outcome.{one_answer}
use Rattle.bench_turns.specs.declared.Bench.{Bench}
use Rattle.bench.specs.Calls.{Answer, open_of, turn_of, take_of, taken_bytes, close_of}

module _ (b : Bench) (lane owner direction order asked : ℕ) (key block out : List ℕ) where
  pub open_lane : (r r' : Answer) → r ≡ open_of b lane owner direction order key block → r' ≡ open_of b lane owner direction order key block → r ≡ r'
  open_lane r r' = one_answer

  pub turn : (r r' : Answer) → r ≡ turn_of b asked → r' ≡ turn_of b asked → r ≡ r'
  turn r r' = one_answer

  pub take : (r r' : Answer) (e e' : List ℕ) → (r ≡ take_of b lane owner out) × (e ≡ taken_bytes b lane owner out) → (r' ≡ take_of b lane owner out) × (e' ≡ taken_bytes b lane owner out)
      → (r ≡ r') × (e ≡ e')
  take r r' e e' p q = (one_answer p.0 q.0, one_answer p.1 q.1)

  pub close : (r r' : Answer) → r ≡ close_of b lane owner → r' ≡ close_of b lane owner → r ≡ r'
  close r r' = one_answer
