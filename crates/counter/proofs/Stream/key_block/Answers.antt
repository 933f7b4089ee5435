-- `counter::Stream::key_block`: a counter block, encrypted.
use borrow.Author.Rules.{rules}
use mathlib.Core.Path.{◌≡◌, ap, ◌∙◌}
use mathlib.Core.List.{List}
use Prim.Native.Nat.{ℕ}
use lib.ListN.{length}
use Rattle.gift128.specs.Calls.{encrypted_by}
use Rattle.gift128.proofs.OrderZero.{encrypts}
use Rattle.counter.proofs.Stream.key_block.Goals as goal

pub returns : goal.returns
returns c =
    let words : List ℕ = c.args.self.now.words in
    let eighty : length words ≡ 80 = search rules in
    let sixteen : length c.counter_block-block.result ≡ 16 = search rules in
    encrypts words c.counter_block-block.result eighty sixteen c.encrypt_by_words.ensures ∙ ap (encrypted_by words) c.counter_block-block.ensures
