-- `turning::load`: the halves below place r are right.
use mathlib.Core.Path.{refl, ap, ◌∙◌}
use mathlib.Core.List.{List, []}
use Prim.Native.Nat.{ℕ, ◌+◌, ◌-◌, ◌*◌, ◌/◌, ◌%◌, ◌<◌}
use native.Mathlib.Omega.{arith}
use lib.ListN.{get_or}
use Rattle.std.specs.Int.{w64, from_be_bytes}
use Rattle.bits.specs.Digit.{bit}
use Rattle.turning.proofs.Passes.{HalfAt, up_more, half_read}
use Rattle.turning.proofs.load.Goals as goal

pub loop-r-preserved : goal.loop-r-preserved
loop-r-preserved c =
    let l = c.loop-r in
    let in_range : l.r < 128 = omega arith in
    let read = c.from_be_bytes.ensures ∙ ap (λ (hs : List (List ℕ)). from_be_bytes w64 (get_or hs (l.r / 2 * 2 + (1 - l.r % 2)) [])) c.as_chunks.ensures.front in
    let right : HalfAt c.args.input.now l.r c.from_be_bytes.result =
    λ p h. ap (λ (w : ℕ). bit w p) read ∙ half_read c.args.input.now c.told-input c.fits-input l.r in_range p h in
    up_more l.r _ (l.r + 1) refl refl in_range right l.invariant
