-- `cmac::piece`: a state that is not refused claims no more than it can hold.
use mathlib.Core.Path.{sym}
use Rattle.cmac_parts.proofs.Passing.{piece-passed}
use Rattle.cmac.proofs.piece.Goals as goal

pub feed-requires : goal.feed-requires
feed-requires c = piece-passed _ (sym c.in_ok-piece_code.ensures)
