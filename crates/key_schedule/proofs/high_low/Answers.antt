-- `key_schedule::high_low`: two halves side by side fit a number of 64 bits.
use Rattle.key_schedule.specs.InnerHalves.{low_of, high_of}
use Rattle.key_schedule.proofs.Halves.{joined-lt, low-lt, high_lt}
use Rattle.key_schedule.proofs.high_low.Goals as goal

pub overflow_add-result : goal.overflow_add-result
overflow_add-result c =
    let x = c.args.x in
    let y = c.args.y in
    record { fits = joined-lt (high_of x) (low_of y) (high_lt x c.ranges.x.fits) (low-lt y) }
