-- `eight::scatter`: its five exchanges take each bit from where order 0 has it to where order 1 has it.
use mathlib.Core.Path.{sym, ap, ◌∙◌}
use native.Mathlib.Omega.{arith}
use Rattle.bits.specs.Digit.{bit, digit}
use Rattle.published.proofs.Seen.{inward, read-words-number}
use Rattle.primitives.specs.declared.State.{State}
use Rattle.primitives.specs.Packed.{block_of, state_of}
use Rattle.primitives.proofs.Blocks.{block_of_lt}
use Rattle.eight.proofs.Turned.{swap_at, flip_at, middle_at, flipped, from_itself, from_flip, from_middle, from_cross, from_order}
use Rattle.eight.proofs.scatter.Goals as goal

pub returns : goal.returns
unfolding bit digit
returns c =
    let s : State = c.args.s in
    let f0 = from_cross 0x55555555 1 tt tt (λ p. p) s s c.cross-x0.result (from_itself s) c.cross-x0.ensures in
    let f1 = from_cross 0x0f0f0f0f 4 tt tt _ s _ c.cross-x2.result f0 c.cross-x2.ensures in
    let f2 = from_cross 0x0000ffff 16 tt tt _ s _ c.cross-x4.result f1 c.cross-x4.ensures in
    let f3 = from_middle _ s c.cross-x4.result f2 in
    let f4 = from_cross 0x33333333 2 tt tt _ s _ c.cross-x1.result f3 c.cross-x1.ensures in
    let f5 = from_cross 0x00ff00ff 8 tt tt _ s _ c.cross-x3.result f4 c.cross-x3.ensures in
    let f6 = from_flip _ s c.cross-x3.result f5 in
    from_order inward
    (λ p. swap_at 0x55555555 1 (swap_at 0x0f0f0f0f 4 (swap_at 0x0000ffff 16 (middle_at (swap_at 0x33333333 2 (swap_at 0x00ff00ff 8 (flip_at p))))))) tt tt s (flipped c.cross-x3.result)
    (omega (arith, c.cross-x3.type_inv)) f6
    ∙ ap state_of (sym (read-words-number (block_of s) (block_of_lt s)))
