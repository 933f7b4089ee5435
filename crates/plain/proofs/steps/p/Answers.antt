-- `plain::steps::p` is P as it is written; no part of it is large.
use mathlib.Core.Path.{refl}
use Prim.Native.Nat.{ℕ, ◌+◌, ◌*◌, ◌/◌, ◌%◌, ◌≤◌}
use native.Mathlib.Nat.{mul-le-mul}
use native.Mathlib.Omega.{arith}
use Rattle.published.specs.Rounds.{P}
use Rattle.plain.proofs.steps.p.Goals as goal

three_quarters : (n k : ℕ) → n ≤ 128 → n / 4 * (k % 4) ≤ 96
three_quarters n k h = let q : n / 4 ≤ 32 = omega arith in let m : k % 4 ≤ 3 = omega arith in mul-le-mul q m

pub overflow_mul-result-3 : goal.overflow_mul-result-3
overflow_mul-result-3 c = omega (arith, three_quarters c.args.n (3 * (c.args.i % 16 / 4) + c.args.i % 4) c.requires.1)

pub overflow_add-result-2 : goal.overflow_add-result-2
overflow_add-result-2 c = omega (arith, three_quarters c.args.n (3 * (c.args.i % 16 / 4) + c.args.i % 4) c.requires.1)

pub overflow_add-result-3 : goal.overflow_add-result-3
overflow_add-result-3 c = omega (arith, three_quarters c.args.n (3 * (c.args.i % 16 / 4) + c.args.i % 4) c.requires.1)

pub returns : goal.returns
unfolding P
returns c = refl
