-- `slices::wide_groups`: n groups are written.
use Rattle.std.proofs.Common.{◌≡◌, ◌*◌, ◌/◌, length, take}
use Rattle.published.specs.Blocks.{each_of}
use Rattle.published.specs.Gift128.{rounds_all}
use Rattle.published.specs.Seen.{seen}
use Rattle.round_words.specs.Arranged.{pairs_from}
use Rattle.slices.specs.InnerMasks.{masks_of}
use Rattle.slices.proofs.wide_groups.Given as goal

abbrev pub invariant-loop-n : goal.invariant-loop-n
invariant-loop-n l =
    record {
      keyed : l.masks ≡ masks_of l.rkey;
      long : length l.output ≡ length l.input;
      done : take (1024 * l.n) l.output ≡ each_of 16 (seen l.order (rounds_all l.back (pairs_from 0 l.rkey))) (1024 * l.n / 16) l.input;
    }
