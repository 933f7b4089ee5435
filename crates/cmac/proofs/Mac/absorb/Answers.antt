-- `cmac::Mac::absorb`: xored and encrypted.
use borrow.Author.Rules.{rules}
use mathlib.Core.Path.{◌≡◌, ap, ◌∙◌}
use lib.ListN.{length}
use Rattle.gift128.specs.Calls.{encrypted_by}
use Rattle.gift128.proofs.OrderZero.{encrypts}
use Rattle.cmac.proofs.Mac.absorb.Goals as goal

pub returns : goal.returns
returns c =
    let s = c.args.self.now in
    let eighty : length s.words ≡ 80 = search rules in
    let sixteen : length c.mix.new.block ≡ 16 = search rules in
    let made = encrypts s.words c.mix.new.block eighty sixteen c.encrypt_by_words.ensures ∙ ap (encrypted_by s.words) c.mix.ensures in
    λ i. record { words = s.words; chain = made i; held = s.held; count = s.count }
