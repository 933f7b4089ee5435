-- `quintuple::unarranged`: four swaps are four moves, and the four together put a word of arrangement 1 in place.
use mathlib.Core.Path.{refl}
use Prim.Native.Nat.{ℕ}
use Rattle.bits.specs.Digit.{bit, digit}
use Rattle.published.specs.Rounds.{P}
use Rattle.primitives.proofs.Swaps.{exchange}
use Rattle.round_words.specs.Arranged.{N, nibble_at, stands}
use Rattle.quintuple.proofs.Shapes.{same_move, swapped, one_after}
use Rattle.quintuple.proofs.unarranged.Goals as goal

pub returns : goal.returns
unfolding bit digit P N nibble_at stands
returns c =
    let x : ℕ = c.args.x in
    let p = exchange 0x000000ff 24 in
    let q = exchange 0x00003333 18 in
    let r = exchange 0x000f000f 12 in
    let s = exchange 0x00550055 9 in
    let first = swapped 0x000000ff 24 tt x c.swapmovesingle-a.result c.swapmovesingle-a.ensures in
    let second = one_after q p tt x _ c.swapmovesingle-b.result first (swapped 0x00003333 18 tt _ _ c.swapmovesingle-b.ensures) in
    let third = one_after r (λ i. p (q i)) tt x _ c.swapmovesingle-c.result second (swapped 0x000f000f 12 tt _ _ c.swapmovesingle-c.ensures) in
    let fourth = one_after s (λ i. p (q (r i))) tt x _ c.swapmovesingle.result third (swapped 0x00550055 9 tt _ _ c.swapmovesingle.ensures) in
    same_move (λ i. p (q (r (s i)))) (nibble_at 4) tt x x c.swapmovesingle.result fourth refl
