-- `quintuple::unmoved`: its rotations and swaps are the moves of each round, undone.
use mathlib.Core.Path.{◌≡◌, sym, ap, ◌∙◌}
use Prim.Native.Nat.{ℕ}
use native.Mathlib.Omega.{arith}
use Rattle.bits.specs.Digit.{bit, digit}
use Rattle.published.specs.Rounds.{P}
use Rattle.primitives.specs.declared.State.{State}
use Rattle.primitives.specs.Words.{ror_in}
use Rattle.primitives.proofs.Swaps.{exchange}
use Rattle.round_words.specs.Arranged.{N, nibble_at}
use Rattle.quintuple.specs.Inner.{unmove, unmoved_in}
use Rattle.quintuple.proofs.Shapes.{is_unmoved, one_after, swapped}
use Rattle.quintuple.proofs.unmoved.Goals as goal

pub returns-in-0 : goal.returns-in-0
unfolding P N nibble_at unmove
returns-in-0 g c =
    is_unmoved 0 (ror_in 4 3) (ror_in 4 2) (ror_in 4 1) tt tt tt c.args.s _ _ _ c.nibble_ror_3.ensures c.nibble_ror_2.ensures c.nibble_ror_1.ensures
    ∙ ap (λ (k : ℕ). unmoved_in k c.args.s) (sym c.in-0.is)

pub returns-in-1 : goal.returns-in-1
unfolding P N nibble_at unmove
returns-in-1 g c =
    is_unmoved 1 (ror_in 16 12) (ror_in 16 8) (ror_in 16 4) tt tt tt c.args.s _ _ _ c.half_ror_12.ensures c.half_ror_8.ensures c.half_ror_4.ensures
    ∙ ap (λ (k : ℕ). unmoved_in k c.args.s) (sym c.in-1.is)

pub returns-in-2 : goal.returns-in-2
unfolding bit digit P N nibble_at unmove
returns-in-2 g c =
    let s : State = c.args.s in
    is_unmoved 2 (λ i. exchange 0x55550000 1 (ror_in 32 16 i)) (exchange 0x55555555 1) (λ i. exchange 0x00005555 1 (ror_in 32 16 i)) tt tt tt s
    c.ror-s0.result c.swapmovesingle-s1.result c.ror-s2.result
    (one_after (ror_in 32 16) (exchange 0x55550000 1) tt s.s0 c.swapmovesingle-y0.result _ (swapped 0x55550000 1 tt s.s0 _ c.swapmovesingle-y0.ensures)
    c.ror-s0.ensures)
    (swapped 0x55555555 1 tt s.s1 _ c.swapmovesingle-s1.ensures)
    (one_after (ror_in 32 16) (exchange 0x00005555 1) tt s.s2 c.swapmovesingle-y2.result _ (swapped 0x00005555 1 tt s.s2 _ c.swapmovesingle-y2.ensures)
    c.ror-s2.ensures)
    ∙ ap (λ (k : ℕ). unmoved_in k s) (sym c.in-2.is)

pub returns-in-3 : goal.returns-in-3
unfolding P N nibble_at unmove
returns-in-3 g c =
    is_unmoved 3 (ror_in 8 2) (ror_in 8 4) (ror_in 8 6) tt tt tt c.args.s _ _ _ c.byte_ror_2.ensures c.byte_ror_4.ensures c.byte_ror_6.ensures
    ∙ ap (λ (k : ℕ). unmoved_in k c.args.s) (sym c.in-3.is)

pub returns-in_default : goal.returns-in_default
unfolding P N nibble_at unmove
returns-in_default g c =
    let last : 4 ≡ g.row.K = omega arith in
    is_unmoved 4 (ror_in 32 8) (ror_in 32 16) (ror_in 32 24) tt tt tt c.args.s _ _ _ c.ror.ensures c.ror-in_default.ensures c.ror-in_default-2.ensures
    ∙ ap (λ (k : ℕ). unmoved_in k c.args.s) last
