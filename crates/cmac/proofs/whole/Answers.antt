-- `cmac::whole`: a start, one piece and the tag of the state.
use mathlib.Core.Path.{sym, ◌∙◌}
use Rattle.answers.proofs.NotDone.{no_refusal_is_done}
use Rattle.published.proofs.Calls.{key-passed}
use Rattle.cmac.proofs.Pieces.{start-done, fresh-done, in_one_piece}
use Rattle.cmac.proofs.whole.Goals as goal

pub returns-in_err-start : goal.returns-in_err-start
returns-in_err-start c =
    let long = (key-passed _ _ (sym c.in_ok-key_code.ensures)).0 in
    absurd (no_refusal_is_done c.in_err-start.field-0.0 (c.in_err-start.ensures.is ∙ start-done c.args.key.now long))

pub returns-in_err-piece : goal.returns-in_err-piece
returns-in_err-piece c =
    let long = (key-passed _ _ (sym c.in_ok-key_code.ensures)).0 in
    absurd (no_refusal_is_done c.in_err-piece.field-0.0 (c.in_err-piece.ensures.is ∙ fresh-done c.args.key.now long c.in_ok-start.ensures))

pub returns : goal.returns
returns c =
    let a = c.args in
    in_one_piece a.key.now a.message.now a.out.now _ _ (key-passed _ _ (sym c.in_ok-key_code.ensures)).0
    c.in_ok-start.ensures c.in_ok-piece.ensures c.tag.ensures
