-- `eight::put`: the blocks of the lanes before n are written, one after the other.
use mathlib.Core.Path.{◌≡◌, refl, sym, ap, ◌∙◌}
use Prim.Native.Nat.{ℕ, ◌+◌, ◌-◌, ◌*◌, ◌≤◌}
use native.Mathlib.Omega.{arith}
use lib.ListN.{length}
use lib.Seq.{take_all}
use borrow.Author.Rules.{rules}
use borrow.Rule.Slice.PartMut.{same_len_mid}
use Rattle.published.specs.Blocks.{joined}
use Rattle.published.specs.Seen.{write_in}
use Rattle.published.proofs.Many.{one_part}
use Rattle.published.proofs.Groups.{joined_none}
use Rattle.primitives.specs.Packed.{block_of}
use Rattle.packing.proofs.Inverse.{unpacked-block}
use Rattle.eight.specs.Inner.{lane_at}
use Rattle.eight.proofs.Bytes.{put_more}
use Rattle.eight.proofs.put.Goals as goal

pub loop-n-init : goal.loop-n-init
loop-n-init c = (search rules, search rules, search rules, search rules, search rules, sym (joined_none _))

pub loop-n-preserved : goal.loop-n-preserved
loop-n-preserved c =
    let call = c.unpacking_words in
    let q = c.loop-n in
    let room : 16 * q.n + 16 ≤ length q.output = omega arith in
    let part : ℕ = 16 * q.n in
    let len : length call.new.output ≡ 16 = call.auto.output ∙ one_part 16 part q.output room in (
      q.invariant.0,
      q.invariant.1,
      q.invariant.2,
      q.invariant.3,
      same_len_mid part (part + 16 - part) q.output call.new.output call.auto.output ∙ q.invariant.4,
      put_more _ q.output call.new.output _ q.n (omega arith) len q.invariant.5
          (call.ensures ∙ unpacked-block 1 _ _ refl (one_part 16 part q.output room)),
    )

pub returns : goal.returns
returns c =
    let q = c.loop-n in
    let all : q.n ≡ 4 = omega arith in
    sym (take_all (16 * q.n) q.output (omega arith)) ∙ q.invariant.5 ∙ ap (λ (n : ℕ). joined n (λ k. write_in 1 (block_of (lane_at c.args.s k)))) all
