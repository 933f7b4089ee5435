-- `cmac_parts::next`: shifted, and R xored in if a one went out.
use borrow.Author.Rules.{rules}
use mathlib.Core.Path.{◌≡◌}
use lib.ListN.{length}
use Rattle.published.specs.Bytes.{Bytes}
use Rattle.cmac_parts.proofs.Subkeys.{subkey_is}
use Rattle.cmac_parts.proofs.next.Goals as goal

pub returns : goal.returns
returns c =
    let long : length c.args.block ≡ 16 = search rules in
    let bytes : Bytes c.args.block = search rules in
    subkey_is c.args.block c.shift-key.result long bytes c.shift-key.ensures
