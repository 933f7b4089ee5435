-- `key_schedule::store` leaves the twenty words.
use mathlib.Core.Path.{ap, ◌∙◌}
use mathlib.Core.List.{List, ◌++◌}
use Prim.Native.Nat.{ℕ, ◌^◌, ◌<◌}
use native.Mathlib.Omega.{arith}
use lib.ListN.{length-set, drop_of_length-le}
use lib.Seq.{sets-eq}
use borrow.Author.Rules.{rules}
use Rattle.key_schedule.specs.InnerTwenty.{words_in}
use Rattle.key_schedule.proofs.Halves.{low-lt}
use Rattle.key_schedule.proofs.store.Goals.{Start}
use Rattle.key_schedule.proofs.store.Goals as goal

wide : (c : Start) → (c.args.t.v0 < 2 ^ 64) × (c.args.t.u0 < 2 ^ 64) × (c.args.t.v1 < 2 ^ 64) × (c.args.t.u1 < 2 ^ 64) × (c.args.t.v2 < 2 ^ 64) × (c.args.t.u2 < 2 ^ 64) × (c.args.t.v3 < 2 ^ 64) × (c.args.t.u3 < 2 ^ 64) × (c.args.t.v4 < 2 ^ 64) × (c.args.t.u4 < 2 ^ 64)
wide c = search rules

pub returns : goal.returns
returns c =
    let ws : List ℕ = c.args.ws.now in
    let t = c.args.t in
    sets-eq (words_in t) ws 0 (omega arith) ∙ ap (λ (r : List ℕ). words_in t ++ r) (drop_of_length-le ws {i = 20} (omega arith))

pub overflow_cast-ws : goal.overflow_cast-ws
overflow_cast-ws c = record { fits = low-lt c.args.t.v0 }

pub overflow_cast-ws-2 : goal.overflow_cast-ws-2
overflow_cast-ws-2 c = record { fits = low-lt c.args.t.u0 }

pub bounds-ws-1 : goal.bounds-ws-1
bounds-ws-1 c = simp length-set (omega arith)

pub overflow_cast-ws-3 : goal.overflow_cast-ws-3
overflow_cast-ws-3 c = record { fits = low-lt c.args.t.v1 }

pub bounds-ws-2 : goal.bounds-ws-2
bounds-ws-2 c = simp length-set (omega arith)

pub overflow_cast-ws-4 : goal.overflow_cast-ws-4
overflow_cast-ws-4 c = record { fits = low-lt c.args.t.u1 }

pub bounds-ws-3 : goal.bounds-ws-3
bounds-ws-3 c = simp length-set (omega arith)

pub overflow_cast-ws-5 : goal.overflow_cast-ws-5
overflow_cast-ws-5 c = record { fits = low-lt c.args.t.v2 }

pub bounds-ws-4 : goal.bounds-ws-4
bounds-ws-4 c = simp length-set (omega arith)

pub overflow_cast-ws-6 : goal.overflow_cast-ws-6
overflow_cast-ws-6 c = record { fits = low-lt c.args.t.u2 }

pub bounds-ws-5 : goal.bounds-ws-5
bounds-ws-5 c = simp length-set (omega arith)

pub overflow_cast-ws-7 : goal.overflow_cast-ws-7
overflow_cast-ws-7 c = record { fits = low-lt c.args.t.v3 }

pub bounds-ws-6 : goal.bounds-ws-6
bounds-ws-6 c = simp length-set (omega arith)

pub overflow_cast-ws-8 : goal.overflow_cast-ws-8
overflow_cast-ws-8 c = record { fits = low-lt c.args.t.u3 }

pub bounds-ws-7 : goal.bounds-ws-7
bounds-ws-7 c = simp length-set (omega arith)

pub overflow_cast-ws-9 : goal.overflow_cast-ws-9
overflow_cast-ws-9 c = record { fits = low-lt c.args.t.v4 }

pub bounds-ws-8 : goal.bounds-ws-8
bounds-ws-8 c = simp length-set (omega (arith, c.requires))

pub overflow_cast-ws-10 : goal.overflow_cast-ws-10
overflow_cast-ws-10 c = record { fits = low-lt c.args.t.u4 }

pub bounds-ws-9 : goal.bounds-ws-9
bounds-ws-9 c = simp length-set (omega (arith, c.requires))
