-- `cmac::Mac::last_key`: L, K1, and for a block that is not full K2.
use borrow.Author.Rules.{rules}
use mathlib.Core.Path.{◌≡◌, refl, sym, ap, ◌∙◌}
use mathlib.Core.List.{List}
use Prim.Native.Nat.{ℕ}
use lib.ListN.{length}
use Rattle.bits.proofs.Computed.{cond-true, cond-false}
use Rattle.gift128.specs.Calls.{encrypted_by}
use Rattle.gift128.proofs.OrderZero.{encrypts}
use Rattle.cmac_parts.specs.Standard.{zero_block, subkey, K1, K2}
use Rattle.cmac_parts.proofs.Subkeys.{doubled_is}
use Rattle.cmac.proofs.Mac.last_key.Goals as goal

-- K1, as made from a block of zeros
first_key : (ws e k : List ℕ) → e ≡ encrypted_by ws zero_block → k ≡ subkey e → k ≡ K1 (encrypted_by ws)
unfolding K1
first_key ws e k made key = key ∙ ap subkey made

pub returns-then-full : goal.returns-then-full
unfolding zero_block
returns-then-full c =
    let s = c.args.self.now in
    let eighty : length s.words ≡ 80 = search rules in
    first_key s.words c.encrypt_by_words.new.block c.double.new.block
    (encrypts s.words zero_block eighty refl c.encrypt_by_words.ensures) (doubled_is _ _ c.encrypt_by_words.auto.block c.double.ensures)
    ∙ sym (cond-true _ _ _ c.if-full.true)

pub returns : goal.returns
unfolding zero_block K2
returns c =
    let s = c.args.self.now in
    let eighty : length s.words ≡ 80 = search rules in
    doubled_is _ _ (c.double.auto.block ∙ c.encrypt_by_words.auto.block) c.double-2.ensures
    ∙ ap subkey
    (first_key s.words c.encrypt_by_words.new.block c.double.new.block
    (encrypts s.words zero_block eighty refl c.encrypt_by_words.ensures) (doubled_is _ _ c.encrypt_by_words.auto.block c.double.ensures))
    ∙ sym (cond-false _ _ _ c.if-full.false)
