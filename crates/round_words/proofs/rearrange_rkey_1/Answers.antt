-- `round_words::rearrange_rkey_1` puts a word into arrangement 2, by the test.
use mathlib.Core.Path.{◌∙◌}
use mathlib.Core.List.{[], ◌∷◌}
use Rattle.bits.specs.Digit.{digit, bit}
use Rattle.published.specs.Rounds.{P}
use Rattle.round_words.specs.Arranged.{N, nibble_at}
use Rattle.round_words.proofs.Exchanges.{◌with◌, swaps_arrange}
use Rattle.round_words.proofs.rearrange_rkey_1.Goals as goal

pub returns : goal.returns
unfolding bit digit nibble_at N P
returns c = c.swapped.ensures ∙ swaps_arrange 2 ((0x11111111 with 3) ∷ (0x03030303 with 6) ∷ (0x000f000f with 12) ∷ (0x000000ff with 24) ∷ []) c.args.x tt c.ranges.x.fits
