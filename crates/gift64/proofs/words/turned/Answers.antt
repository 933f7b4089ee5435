-- `gift64::words::turned`: its two swaps turn both halves, by a test of their places.
use mathlib.Core.Path.{refl}
use Rattle.bits.specs.Digit.{bit, digit}
use Rattle.primitives.proofs.Swaps.{exchange}
use Rattle.quintuple.proofs.Shapes.{same_move, swapped, one_after}
use Rattle.gift64.specs.Inner.{turn}
use Rattle.gift64.proofs.words.turned.Goals as goal

pub returns : goal.returns
unfolding bit digit
returns c =
    let w = c.args.w in
    same_move (λ i. exchange 0x0a0a0a0a 3 (exchange 0x00cc00cc 6 i)) turn tt w _ _
    (one_after (exchange 0x00cc00cc 6) (exchange 0x0a0a0a0a 3) tt w _ _ (swapped 0x0a0a0a0a 3 tt w _ c.swapmovesingle-a.ensures)
    (swapped 0x00cc00cc 6 tt c.swapmovesingle-a.result _ c.swapmovesingle.ensures)) refl
