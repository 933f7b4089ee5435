-- `eight::groups`: the blocks before place a are written, and none or four and more are left.
use mathlib.Core.Path.{◌≡◌}
use Prim.Native.Nat.{◌+◌, ◌-◌, ◌/◌, ◌%◌, ◌≤◌, ◌<◌}
use lib.ListN.{length, take}
use Rattle.published.specs.Blocks.{each_of}
use Rattle.published.specs.Gift128.{rounds_all}
use Rattle.published.specs.Seen.{seen}
use Rattle.round_words.specs.Arranged.{pairs_from}
use Rattle.eight.proofs.groups.Given as goal

abbrev pub invariant-loop-a : goal.invariant-loop-a
invariant-loop-a l =
    record {
      whole : length l.input % 16 ≡ 0;
      long : length l.initial.output ≡ length l.input;
      at : l.a % 16 ≡ 0;
      within : l.a ≤ length l.input;
      left : l.a < length l.input → l.a + 64 ≤ length l.input;
      same : length l.output ≡ length l.initial.output;
      done : take l.a l.output ≡ each_of 16 (seen l.fn.order (rounds_all l.back (pairs_from 0 l.rkey))) (l.a / 16) l.input;
    }

abbrev pub decreases-loop-a : goal.decreases-loop-a
decreases-loop-a l = length l.input - l.a
