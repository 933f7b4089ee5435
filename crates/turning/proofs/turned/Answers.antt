-- `turning::turned`: three levels, and the test of their places, for both steps.
use Prim.Native.Nat.{ℕ, ◌*◌}
use lib.Dec.{T}
use Rattle.std.proofs.Common.{IsTrue}
use Rattle.bits.proofs.Computed.{below}
use Rattle.turning.specs.Inner.{is_step, from_in, to_in}
use Rattle.turning.proofs.Crossing.{level, three, turned_by, steps}
use Rattle.turning.proofs.turned.Goals as goal

fits : (s : ℕ) → IsTrue (is_step s) → T (below 8 (λ k. below 64 (three (4 * s) (2 * s) s (from_in s) (to_in s) k)))
fits = steps (λ s. T (below 8 (λ k. below 64 (three (4 * s) (2 * s) s (from_in s) (to_in s) k)))) tt tt

pub returns : goal.returns
returns g c =
    let s : ℕ = g.row.STEP in
    turned_by (4 * s) (2 * s) s (from_in s) (to_in s) (fits s c.requires)
    (level c.cross-a0.ensures c.cross-a1.ensures c.cross-a2.ensures c.cross-a3.ensures)
    (level c.cross-b0.ensures c.cross-b1.ensures c.cross-b2.ensures c.cross-b3.ensures)
    (level c.cross-c0.ensures c.cross-c1.ensures c.cross-c2.ensures c.cross-c3.ensures)
