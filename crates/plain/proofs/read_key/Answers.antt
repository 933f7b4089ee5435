-- `plain::read_key`: the words of the first i pairs of bytes are there. (That bytes are bytes is known where one is read.)
use mathlib.Core.Path.{◌≡◌, ◌∙◌}
use mathlib.Core.List.{List}
use Prim.Native.Nat.{ℕ, ◌+◌, ◌*◌}
use native.Mathlib.Omega.{arith}
use lib.ListN.{get_or}
use borrow.Author.Rules.{rules}
use Rattle.published.specs.Bytes.{Bytes}
use Rattle.plain.proofs.Bytes.{key_none, key_next, key_all}
use Rattle.plain.proofs.read_key.Goals as goal

pub loop-i-init : goal.loop-i-init
loop-i-init c = (omega arith, λ h. omega arith, key_none _)

pub loop-i-preserved : goal.loop-i-preserved
loop-i-preserved c =
    let l = c.loop-i in
    let key : List ℕ = c.args.key.now in
    let bytes : Bytes key = search rules in
    let two : c.from_be_bytes.result ≡ get_or key (2 * l.i) 0 * 256 + get_or key (2 * l.i + 1) 0 = c.from_be_bytes.ensures ∙ omega arith in
    (omega arith, λ h. bytes, rw two (key_next key c.requires bytes l.k l.i (omega arith) l.invariant.2))

pub returns : goal.returns
returns c =
    let l = c.loop-i in
    key_all c.args.key.now c.requires (l.invariant.1 (omega arith)) l.k l.i (omega arith) l.invariant.2

pub bounds-k-i : goal.bounds-k-i
bounds-k-i c = omega (arith, c.loop-i.invariant.2.long)
