-- `cmac_parts::shift`: the block as one number.
use borrow.Author.Rules.{rules}
use mathlib.Core.Path.{◌≡◌, ◌∙◌}
use Prim.Native.Nat.{◌*◌, ◌%◌, ◌^◌}
use lib.ListN.{length}
use Rattle.std.specs.Int.{w128, from_be_bytes, to_be_bytes}
use Rattle.cmac_parts.proofs.Subkeys.{shifted_is}
use Rattle.cmac_parts.proofs.shift.Goals as goal

pub returns : goal.returns
returns c =
    let x = c.args.block in
    let long : length x ≡ 16 = search rules in
    let written : c.to_be_bytes.result ≡ to_be_bytes w128 (from_be_bytes w128 x * 2 ^ 1 % 2 ^ 128) = rw c.from_be_bytes.ensures at c.to_be_bytes.ensures in
    written ∙ shifted_is x long
