-- `turning::pass`: eight more words a turn.
use Prim.Native.Nat.{ℕ}
use native.Mathlib.Omega.{arith}
use Rattle.turning.specs.Inner.{from_in, to_in}
use Rattle.turning.proofs.Passes.{eight_more, part, from-small, up_is}
use Rattle.turning.proofs.pass.Goals as goal

pub loop-i-preserved : goal.loop-i-preserved
loop-i-preserved g c =
    let s : ℕ = g.row.STEP in
    let put = c.put_eight in
    let made = c.turned-t in
    let read = c.eight_at in
    let l = c.loop-i in (
      omega arith,
      up_is put.ensures
          (eight_more l.i l.y made.result (omega arith)
          (part (from_in s) (to_in s) (from-small s c.requires) c.args.x.now l.i made.result (rw read.ensures at made.ensures)) l.invariant.1),
    )
