-- `cmac::Mac::last`: the key xored with the bytes, padded if they are not a full block.
use borrow.Author.Rules.{rules}
use mathlib.Core.Path.{◌≡◌, ap₂, ◌∙◌}
use lib.ListN.{length}
use Rattle.gift128.specs.Calls.{encrypted_by}
use Rattle.cmac_parts.specs.Standard.{◌⊕◌}
use Rattle.cmac.proofs.LastBlock.{last_is}
use Rattle.cmac.proofs.Mac.last.Goals as goal

pub returns : goal.returns
returns c =
    let s = c.args.self.now in
    let sixteen : length s.held ≡ 16 = search rules in
    c.mix.ensures ∙ ap₂ ◌⊕◌ c.last_key-block.ensures c.pad.ensures ∙ last_is (encrypted_by s.words) s.held s.count sixteen c.requires
