-- `eight::read`: a loop of four, into every lane the words of its block.
use mathlib.Core.Path.{◌≡◌}
use Prim.Native.Nat.{◌*◌}
use lib.ListN.{length, take, drop}
use Rattle.packing.specs.Packing.{packed}
use Rattle.eight.proofs.Loop.{Done}
use Rattle.eight.proofs.read.Given as goal

abbrev pub invariant-loop-l : goal.invariant-loop-l
invariant-loop-l s =
    (length s.a ≡ 4) × (length s.b ≡ 4) × (length s.c ≡ 4) × (length s.d ≡ 4) × Done (λ k t. t ≡ packed 1 (take 16 (drop (16 * k) s.input))) s.l s.initial.a s.initial.b s.initial.c s.initial.d s.a s.b s.c s.d
