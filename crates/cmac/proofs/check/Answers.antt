-- `cmac::check`: the message's tag compared with the one given.
use mathlib.Core.Path.{refl, sym, ap, ◌∙◌}
use Rattle.answers.proofs.Outcome.{done}
use Rattle.published.proofs.Calls.{key-passed}
use Rattle.cmac.specs.Calls.{same}
use Rattle.cmac.proofs.Pieces.{tagged}
use Rattle.cmac.proofs.check.Goals as goal

pub same_tags-requires : goal.same_tags-requires
same_tags-requires c = let passed = key-passed _ _ (sym c.in_ok-key_code.ensures) in passed.1 ∙ sym c.whole.auto.out

pub returns : goal.returns
returns c =
    let a = c.args in
    let passed = key-passed _ _ (sym c.in_ok-key_code.ensures) in
    done c.in_ok-key_code.ensures refl
    (c.same_tags.ensures ∙ ap (same a.tag.now) (tagged a.key.now a.message.now _ passed.0 refl c.whole.ensures))
