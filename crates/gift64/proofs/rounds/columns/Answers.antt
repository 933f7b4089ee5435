-- `gift64::rounds::columns`: its swaps are the moves of a round from packed words, by tests of their places.
use mathlib.Core.Path.{refl}
use Rattle.bits.specs.Digit.{bit, digit}
use Rattle.primitives.specs.declared.State.{State}
use Rattle.primitives.proofs.Swaps.{exchange}
use Rattle.primitives.proofs.Blocks.{same_words}
use Rattle.quintuple.proofs.Shapes.{same_move, swapped, one_after}
use Rattle.gift64.specs.Inner.{move, moved_by}
use Rattle.gift64.proofs.rounds.columns.Goals as goal

pub returns : goal.returns
unfolding bit digit move moved_by
returns c =
    let s : State = c.args.s in
    same_words _ _
    (same_move (exchange 0x2222 2) (move 0 0) tt s.s0 _ _ (swapped 0x2222 2 tt s.s0 _ c.swapmovesingle-s0.ensures) refl)
    (same_move (exchange 0x5555 1) (move 0 1) tt s.s1 _ _ (swapped 0x5555 1 tt s.s1 _ c.swapmovesingle-s1.ensures) refl)
    (same_move (exchange 0x1111 2) (move 0 2) tt s.s2 _ _ (swapped 0x1111 2 tt s.s2 _ c.swapmovesingle-s2.ensures) refl)
    (same_move (λ i. exchange 0x5555 1 (exchange 0x3333 2 i)) (move 0 3) tt s.s3 _ _
    (one_after (exchange 0x3333 2) (exchange 0x5555 1) tt s.s3 _ _ (swapped 0x5555 1 tt s.s3 _ c.swapmovesingle-t3.ensures)
    (swapped 0x3333 2 tt c.swapmovesingle-t3.result _ c.swapmovesingle-s3.ensures)) refl)
