-- `counter::counter_block`: the caller's bytes, then the counter's.
use borrow.Author.Rules.{rules}
use mathlib.Core.Path.{◌≡◌, ◌∙◌}
use lib.ListN.{length}
use Rattle.counter.proofs.Blocks.{laid}
use Rattle.counter.proofs.counter_block.Goals as goal

pub returns : goal.returns
returns c =
    let a = c.args in
    let long : length a.nonce.now ≡ 12 = search rules in
    laid a.nonce.now c.copy_from_slice.new.self c.copy_from_slice-2.new.self a.counter long
    c.copy_from_slice.ensures.after (c.copy_from_slice-2.ensures.after ∙ c.to_be_bytes-four.ensures)
