-- `cmac::Mac::digest`: what is left leaves the same as all did.
use mathlib.Core.Path.{◌≡◌}
use lib.ListN.{length}
use Rattle.cmac.specs.Calls.{fed}
use Rattle.cmac.specs.Inner.{emptied}
use Rattle.cmac.proofs.Mac.digest.Given as goal

abbrev pub invariant-loop-rest : goal.invariant-loop-rest
invariant-loop-rest l = fed (emptied l.self) l.rest ≡ fed (emptied l.initial.self) l.initial.rest

abbrev pub decreases-loop-rest : goal.decreases-loop-rest
decreases-loop-rest l = length l.rest
