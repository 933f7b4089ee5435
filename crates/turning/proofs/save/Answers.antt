-- `turning::save`: the blocks before place 16 b are written.
use mathlib.Core.Path.{◌≡◌, refl, sym, ◌∙◌}
use Prim.Native.Nat.{◌+◌, ◌-◌, ◌*◌}
use native.Mathlib.Omega.{arith}
use lib.ListN.{length}
use borrow.Rule.Slice.PartMut.{same_len_mid}
use Rattle.published.proofs.Many.{one_part}
use Rattle.published.proofs.Groups.{joined_none}
use Rattle.turning.proofs.Blocks.{block-put}
use Rattle.turning.proofs.save.Invariants.{block}
use Rattle.turning.proofs.save.Goals as goal

pub loop-b-init : goal.loop-b-init
loop-b-init c = (omega arith, refl, sym (joined_none _))

pub loop-b-preserved : goal.loop-b-preserved
loop-b-preserved c =
    let call = c.put_block in
    let l = c.loop-b in
    let size : length l.output ≡ 1024 = l.invariant.1 ∙ c.told-output in
    let len : length call.new.output ≡ 16 = call.auto.output ∙ one_part 16 (16 * l.b) l.output (omega arith) in (
      omega arith,
      same_len_mid (16 * l.b) (16 * l.b + 16 - 16 * l.b) l.output call.new.output call.auto.output ∙ l.invariant.1,
      block-put (block c.args.x.now) l.output call.new.output _ l.b (omega arith) len l.invariant.2 call.ensures,
    )
