-- `round_words::rearrange_rkey_2` puts a word into arrangement 3, by the test.
use mathlib.Core.Path.{◌∙◌}
use mathlib.Core.List.{[], ◌∷◌}
use Rattle.bits.specs.Digit.{digit, bit}
use Rattle.published.specs.Rounds.{P}
use Rattle.round_words.specs.Arranged.{N, nibble_at}
use Rattle.round_words.proofs.Exchanges.{◌with◌, swaps_arrange}
use Rattle.round_words.proofs.rearrange_rkey_2.Goals as goal

pub returns : goal.returns
unfolding bit digit nibble_at N P
returns c = c.swapped.ensures ∙ swaps_arrange 3 ((0x0000aaaa with 15) ∷ (0x00003333 with 18) ∷ (0x0000f0f0 with 12) ∷ (0x000000ff with 24) ∷ []) c.args.x tt c.ranges.x.fits
