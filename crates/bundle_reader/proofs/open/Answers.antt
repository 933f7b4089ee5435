-- `bundle_reader::open`: the count and the size of what is not refused, or the refusal's number.
use mathlib.Core.Path.{refl, sym, ◌∙◌}
use native.Mathlib.Omega.{arith}
use Rattle.bundle_reader.proofs.Steps.{room, opened-refused, opened-done, no_refusal_is_done}
use Rattle.bundle_reader.proofs.open.Goals as goal

pub overflow_cast-result : goal.overflow_cast-result
overflow_cast-result c = omega (arith, (room _ _ _ (sym c.in-Ok.ensures.is)).most)

pub returns-in-Ok : goal.returns-in-Ok
returns-in-Ok c = rw (← c.from-reader.ensures) (opened-done _ _ _ 0 c.in-Ok.ensures.is refl _ c.in-Ok.ensures.count)

pub returns-in-Err : goal.returns-in-Err
returns-in-Err c = rw (← c.from-reader.ensures) (opened-refused _ _ _ _ (c.from.ensures ∙ c.in-Err.ensures.is) (λ e. no_refusal_is_done c.in-Err.refusal (sym c.from.ensures ∙ e)))
