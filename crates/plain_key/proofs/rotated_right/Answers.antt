-- `plain_key::rotated_right`: the two parts of a word change places.
use Rattle.plain_key.proofs.Keys.{rotation}
use Rattle.plain_key.proofs.rotated_right.Goals as goal

pub returns : goal.returns
returns c = rotation c.args.r c.args.k c.requires.0 c.requires.1 c.ranges.k.fits
