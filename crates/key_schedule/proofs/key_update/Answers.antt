-- `key_schedule::key_update` moves the bits as the published update does, by the test.
use mathlib.Core.Path.{sym, ◌∙◌}
use Rattle.primitives.proofs.Moves.{moves}
use Rattle.key_schedule.proofs.Updates.{turned, updated-move, ◌∣◌, down, up}
use Rattle.key_schedule.proofs.key_update.Goals as goal

pub returns : goal.returns
returns c =
    moves turned (down 12 0x0000000f ∣ up 0x00000fff 4 ∣ down 2 0x3fff0000 ∣ up 0x00030000 14) tt c.args.x c.ranges.x.fits
    ∙ sym (updated-move c.args.x)
