-- `primitives::ror` rotates by any number of places, all 32 of them tested at once.
use mathlib.Core.Path.{◌∙◌}
use Prim.Native.Nat.{ℕ, ◌-◌, ◌%◌}
use native.Mathlib.Nat.{mod-lt}
use lib.Dec.{lit<}
use Rattle.bits.proofs.Computed.{at}
use Rattle.bits.proofs.Reflect.{W, var, or, shr, shl}
use Rattle.primitives.specs.Words.{ror_in}
use Rattle.primitives.proofs.Moves.{moves, is_move}
use Rattle.primitives.proofs.ror.Goals as goal

abbrev turned : ℕ → W
turned n = or (shr (var 0) n) (shl (var 0) ((32 - n) % 32))

pub returns : goal.returns
returns c =
    let n : ℕ = c.args.y % 32 in
    c.rotate_right.ensures
    ∙ moves (ror_in 32 n) (turned n) (at 32 (λ k. is_move (ror_in 32 k) (turned k)) tt n (mod-lt c.args.y (lit< tt))) c.args.x c.ranges.x.fits
