-- `round_words::arrange`: four arrangements by name, and the two that leave a word as it is.
use native.Mathlib.Omega.{arith}
use Rattle.round_words.proofs.Arrangements.{kept}
use Rattle.round_words.proofs.arrange.Goals as goal

pub returns-in_default : goal.returns-in_default
returns-in_default c = kept c.args.k c.args.w c.requires (λ e. omega arith) (λ e. omega arith) (λ e. omega arith) (λ e. omega arith) c.ranges.w.fits
