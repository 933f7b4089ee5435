-- `differ::first_from`: every entry before place i has a lower id.
use mathlib.Core.Path.{◌∙◌}
use Prim.Native.Nat.{◌<◌}
use native.Mathlib.Omega.{arith}
use borrow.Author.Count.{below_none, below_more}
use Rattle.bundle_format.specs.Reader.{rows_of, tell_at}
use Rattle.differ.proofs.Tables.{entry-told, first_there, first_none}
use Rattle.differ.proofs.first_from.Goals as goal

pub loop-i-init : goal.loop-i-init
loop-i-init c = (omega arith, below_none _)

pub returns-then-low-id : goal.returns-then-low-id
returns-then-low-id c =
    let a = c.args in
    let l = c.loop-i in
    let t = c.entry-told in
    first_there a.side.seen a.side.bundle.now a.side.looked a.side.formed a.low l.i t.result (omega arith) l.invariant.1 t.ensures c.if-low-id.true (omega arith)

pub loop-i-preserved : goal.loop-i-preserved
loop-i-preserved c =
    let a = c.args in
    let l = c.loop-i in
    let t = c.entry-told in
    let here : (tell_at 2 l.i (rows_of a.side.bundle.now)).id < a.low = rw (t.ensures ∙ entry-told a.side.seen a.side.bundle.now a.side.looked a.side.formed l.i) at c.if-low-id.false in
    (omega arith, below_more _ l.i l.invariant.1 here)

pub returns : goal.returns
returns c =
    let a = c.args in
    let l = c.loop-i in
    first_none a.side.seen a.side.bundle.now a.side.looked a.side.formed a.low c.requires (λ j k. l.invariant.1 j (omega arith))
