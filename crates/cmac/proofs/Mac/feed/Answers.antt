-- `cmac::Mac::feed`: what has room is held; else the held block is filled and chained, and the rest digested.
use borrow.Author.Rules.{rules}
use mathlib.Core.Path.{◌≡◌, sym, ap, ◌∙◌}
use mathlib.Core.List.{List, ◌++◌, append_assoc}
use Prim.Native.Nat.{ℕ, ◌+◌, ◌<◌}
use native.Mathlib.Omega.{arith}
use lib.ListN.{length, take, length-append}
use lib.Seq.{length-take-le}
use Rattle.cmac.specs.declared.Mac.{Mac}
use Rattle.cmac.specs.Calls.{fed}
use Rattle.cmac.specs.Inner.{emptied}
use Rattle.cmac.proofs.LastBlock.{kept_whole}
use Rattle.cmac.proofs.Pieces.{fed_little, fed_more}
use Rattle.cmac.proofs.Mac.feed.Goals as goal

pub returns-then-bytes-room : goal.returns-then-bytes-room
returns-then-bytes-room c =
    let s = c.args.self.now in
    let sixteen : length s.held ≡ 16 = search rules in
    let front : length (take s.count s.held) ≡ s.count = length-take-le s.count s.held (omega arith) in
    let size : length (take s.count s.held ++ c.args.bytes.now) ≡ s.count + length c.args.bytes.now = length-append (take s.count s.held) c.args.bytes.now ∙ ap (λ (k : ℕ). k + length c.args.bytes.now) front in
    fed_little s c.args.bytes.now _ _ (omega arith) (sym size) c.hold.ensures

pub returns : goal.returns
returns c =
    let s = c.args.self.now in
    let two = c.split_at.ensures in
    let first : List ℕ = c.split_at.result.0.now in
    let rest : List ℕ = c.split_at.result.1.now in
    let sixteen : length s.held ≡ 16 = search rules in
    let front : length (take s.count s.held) ≡ s.count = length-take-le s.count s.held (omega arith) in
    let full : length (take s.count s.held ++ first) ≡ 16 = length-append (take s.count s.held) first ∙ omega (arith, front, two.front_len) in
    let some : 0 < length rest = omega (arith, two.back_len) in
    let block : c.hold-2.new.block ≡ take s.count s.held ++ first = c.hold-2.ensures ∙ kept_whole (take s.count s.held ++ first) full in
    let whole : c.hold-2.new.block ++ rest ≡ take s.count s.held ++ c.args.bytes.now =
    ap (λ (l : List ℕ). l ++ rest) block ∙ append_assoc (take s.count s.held) first rest ∙ ap (λ (l : List ℕ). take s.count s.held ++ l) (sym two.by_index.0) in
    c.digest.ensures ∙ ap (λ (t : Mac). fed (emptied t) rest) c.absorb.ensures
    ∙ fed_more s c.args.bytes.now c.hold-2.new.block rest c.hold-2.new.block (ap length block ∙ full) some whole
