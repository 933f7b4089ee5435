-- `counter::counter_blocks`: the first k counter blocks are written.
use mathlib.Core.Path.{◌≡◌, sym, ◌∙◌}
use Prim.Native.Nat.{◌+◌, ◌*◌, ◌≤◌}
use native.Mathlib.Omega.{arith}
use lib.ListN.{length}
use Rattle.counter.proofs.Blocks.{blocks_none, one_more}
use Rattle.counter.proofs.Chunks.{some_of}
use Rattle.counter.proofs.counter_blocks.Goals as goal

pub loop-k-init : goal.loop-k-init
loop-k-init c = sym (blocks_none _ _ _)

pub loop-k-preserved : goal.loop-k-preserved
loop-k-preserved c =
    let l = c.loop-k in
    let a = c.args in
    let room : 16 * l.k + 16 ≤ length l.blocks = omega arith in
    let sixteen : length c.copy_from_slice.new.self ≡ 16 = c.copy_from_slice.ensures.len ∙ some_of l.blocks (16 * l.k) 16 room in
    one_more (λ t. t) a.nonce.now l.blocks c.copy_from_slice.new.self _ a.counter l.k (omega arith) sixteen l.invariant (c.copy_from_slice.ensures.after ∙ c.counter_block-block.ensures)
