-- `cmac::tag`: the last block with its key into the chain, which is the tag.
use borrow.Author.Rules.{rules}
use mathlib.Core.Path.{◌≡◌, refl, sym, ap, ◌∙◌}
use mathlib.Core.List.{List}
use Prim.Native.Nat.{ℕ}
use lib.ListN.{length}
use Rattle.answers.proofs.Outcome.{done}
use Rattle.gift128.specs.Calls.{encrypted_by}
use Rattle.cmac_parts.specs.Standard.{◌⊕◌, chained}
use Rattle.cmac_parts.proofs.Passing.{tag-passed}
use Rattle.cmac.specs.declared.Mac.{Mac}
use Rattle.cmac.specs.Calls.{tag_of}
use Rattle.cmac.proofs.tag.Goals as goal

pub last-block-requires : goal.last-block-requires
last-block-requires c = (tag-passed _ _ (sym c.in_ok-tag_code.ensures)).0

pub copy_from_slice-requires : goal.copy_from_slice-requires
copy_from_slice-requires c =
    let sixteen : length c.absorb.new.self.chain ≡ 16 = search rules in
    (tag-passed _ _ (sym c.in_ok-tag_code.ensures)).1 ∙ sym sixteen

pub returns : goal.returns
unfolding tag_of chained
returns c =
    let s = c.args.state in
    done c.in_ok-tag_code.ensures refl
    (c.copy_from_slice.ensures.after ∙ ap (λ (t : Mac). t.chain) c.absorb.ensures ∙ ap (λ (b : List ℕ). encrypted_by s.words (s.chain ⊕ b)) c.last-block.ensures)
