-- `eight::each`: a loop of four, in every lane a call of the closure.
use Rattle.std.proofs.Common.{◌≡◌, length}
use Rattle.eight.specs.Inner.{state_at}
use Rattle.eight.proofs.Loop.{Done}
use Rattle.eight.proofs.each.Given as goal

abbrev pub invariant-loop-l : goal.invariant-loop-l
invariant-loop-l g l =
    (length l.a ≡ 4) × (length l.b ≡ 4) × (length l.c ≡ 4) × (length l.d ≡ 4)
    × Done (λ k t. goal.F-post g l.f (state_at l.initial.a l.initial.b l.initial.c l.initial.d k) t) l.l l.initial.a l.initial.b l.initial.c l.initial.d l.a l.b l.c l.d
