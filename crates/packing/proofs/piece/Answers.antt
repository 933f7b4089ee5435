-- `packing::piece` is a digit to base 65536.
use mathlib.Core.Path.{sym, ap}
use Prim.Native.Nat.{ℕ, ◌/◌, ◌%◌}
use Rattle.bits.specs.Digit.{digit}
use Rattle.bits.proofs.Digits.{pow-mul}
use Rattle.packing.proofs.piece.Goals as goal

pub returns : goal.returns
unfolding digit
returns c = ap (λ (m : ℕ). c.args.x / m % 65536) (sym (pow-mul 2 16 c.args.j))
