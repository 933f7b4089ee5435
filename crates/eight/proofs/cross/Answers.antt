-- `eight::cross`: two exchanges, side by side.
use Rattle.eight.specs.Inner.{crossed}
use Rattle.eight.proofs.cross.Goals as goal

pub returns : goal.returns
unfolding crossed
returns c =
    let low = c.swapmove-low.ensures in
    let high = c.swapmove-high.ensures in
    λ i. record { s0 = low.0 i; s1 = low.1 i; s2 = high.0 i; s3 = high.1 i }
