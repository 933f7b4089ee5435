-- `bundle_writer::judge::good_settings`: the settings before the row at hand are good; that has id `low` at least, and `rest` is what is left of the pool.
use mathlib.Core.Path.{◌≡◌}
use lib.ListN.{length, drop}
use Rattle.bundle_format.specs.Format.{good_from}
use Rattle.bundle_writer.specs.Inner.{settings_in, sizes_in}
use Rattle.bundle_writer.proofs.judge.good_settings.Given as goal

abbrev pub invariant-loop-row : goal.invariant-loop-row
invariant-loop-row l =
    (sizes_in (drop l.row-index l.rows) ≡ length l.rest) × (good_from l.edition 0 (settings_in l.rows l.pool) ≡ good_from l.edition l.low (settings_in (drop l.row-index l.rows) l.rest))
