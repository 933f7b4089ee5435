-- `cmac::Mac::digest`: block after block, and what is left is held.
use mathlib.Core.Path.{refl, sym, ap, ◌∙◌}
use native.Mathlib.Omega.{arith}
use Prim.Native.Nat.{◌<◌}
use lib.ListN.{length}
use Rattle.cmac.specs.declared.Mac.{Mac}
use Rattle.cmac.specs.Calls.{fed}
use Rattle.cmac.specs.Inner.{emptied}
use Rattle.cmac.proofs.Pieces.{fed_little, fed_more}
use Rattle.cmac.proofs.Mac.digest.Goals as goal

pub loop-rest-preserved : goal.loop-rest-preserved
loop-rest-preserved c =
    let l = c.loop-rest in
    let two = c.split_at.ensures in
    let some : 0 < length c.split_at.result.1.now = omega (arith, two.back_len) in
    ap (λ (s : Mac). fed (emptied s) c.split_at.result.1.now) c.absorb.ensures
    ∙ fed_more (emptied l.self) l.rest.now c.split_at.result.0.now c.split_at.result.1.now l.self.held two.front_len some (sym two.by_index.0)
    ∙ l.invariant

pub returns : goal.returns
returns c =
    let l = c.loop-rest in
    fed_little (emptied l.self) l.rest.now _ _ (omega arith) refl c.hold.ensures ∙ l.invariant
