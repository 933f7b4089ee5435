-- `bundle_format::kinds_of`, edition by edition.
use mathlib.Core.Path.{sym}
use native.Mathlib.Omega.{arith}
use Rattle.bundle_format.specs.Format.{kinds}
use Rattle.bundle_format.proofs.Editions.{kinds-last}
use Rattle.bundle_format.proofs.kinds_of.Goals as goal

pub returns-in-0 : goal.returns-in-0
unfolding kinds
returns-in-0 c = rw c.in-0.is

pub returns-in-1 : goal.returns-in-1
unfolding kinds
returns-in-1 c = rw c.in-1.is

pub returns-in_default : goal.returns-in_default
returns-in_default c = sym (kinds-last c.args.edition (λ e. omega arith) (λ e. omega arith))
