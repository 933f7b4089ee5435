-- `key_schedule::expand` leaves the eighty words of the key.
use mathlib.Core.Path.{◌≡◌, ap, ◌∙◌}
use mathlib.Core.List.{◌++◌}
use lib.ListN.{length}
use Rattle.key_schedule.specs.declared.Four.{Four}
use Rattle.key_schedule.specs.declared.Twenty.{Twenty}
use Rattle.key_schedule.specs.InnerTens.{five_rounds, five_later, ten_later, ten_further}
use Rattle.key_schedule.specs.InnerTwenty.{joined_tens, in_both_tens, words_in}
use Rattle.key_schedule.proofs.Parts.{four-parts}
use Rattle.key_schedule.proofs.Expanded.{twenties-expanded}
use Rattle.key_schedule.proofs.expand.Goals as goal

pub returns : goal.returns
returns c =
    let a : Twenty = c.first_twenty-a.result in
    let b = c.twenty_later-b.ensures in
    let w0 = c.store.ensures in
    let w1 = c.store-2.ensures ∙ ap words_in b in
    let w2 = c.store_later.ensures in
    let w3 : c.store_later-2.new.ws ≡ words_in (in_both_tens ten_further (in_both_tens ten_later a)) =
    c.store_later-2.ensures ∙ ap (λ (t : Twenty). words_in (in_both_tens ten_further t)) b in
    four-parts c.args.rkey.now c.store.new.ws c.store-2.new.ws c.store_later.new.ws c.store_later-2.new.ws c.requires
    (ap length w0) (ap length w1) (ap length w2)
    ∙ (λ i. w0 i ++ (w1 i ++ (w2 i ++ w3 i)))
    ∙ twenties-expanded c.args.key.now a c.told-key c.fits-key
    (c.first_twenty-a.ensures ∙ ap (λ (w : Four). joined_tens (five_rounds w) (five_rounds (five_later w))) c.first_words.ensures)
