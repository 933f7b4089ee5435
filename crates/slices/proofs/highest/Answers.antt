-- `slices::highest`: one slice of all ones.
use mathlib.Core.Path.{refl}
use mathlib.Core.Bool.{true, false}
use lib.Dec.{eqb, lit<}
use Rattle.slices.proofs.Flips.{bit-everywhere, flip_none, flip, highest_others}
use Rattle.slices.proofs.highest.Goals as goal

pub returns : goal.returns
returns c =
    flip (λ q. false) (λ q. eqb q 127) 127 0xffffffffffffffff true (lit< tt) (bit-everywhere true) highest_others refl
    (flip_none (λ q. false) c.args.y.now c.told-y (λ q. refl))
