-- `gift64::words::expand`: the words of the first 2 i rounds are stored, and the key state stands after them.
use mathlib.Core.Path.{ap, ◌∙◌}
use Prim.Native.Nat.{ℕ, ◌*◌}
use native.Mathlib.Omega.{arith}
use borrow.Author.Rules.{rules}
use Rattle.published.specs.Bytes.{from_bytes}
use Rattle.published.specs.Key.{update}
use Rattle.primitives.specs.Words.{permuted}
use Rattle.key_schedule.specs.declared.Four.{Four}
use Rattle.key_schedule.proofs.KeyState.{four_of}
use Rattle.gift64.specs.Inner.{pair_in, turn}
use Rattle.gift64.proofs.Keys.{after, pair-packed, pair-turned, two_further, first_four, none_stored, two_stored, all_stored}
use Rattle.gift64.proofs.words.expand.Goals as goal

pub loop-i-init : goal.loop-i-init
loop-i-init c =
    (omega arith, first_four c.args.key.now c.requires (search rules) c.key_words-k.ensures, none_stored _ _ (search rules))

pub loop-i-preserved : goal.loop-i-preserved
unfolding four_of
loop-i-preserved c =
    let l = c.loop-i in
    let key : ℕ = from_bytes c.args.key.now in
    let s : ℕ = after (2 * l.i) key in (
      omega arith,
      two_further key l.i l.invariant.1 c.two_later-k.ensures,
      two_stored key l.i l.words _ _ l.invariant.2 (omega arith)
          (ap (pair_in 1) (c.turned.ensures ∙ ap (λ (k : Four). permuted turn k.v0) l.invariant.1) ∙ pair-turned s)
          (ap (λ (k : Four). pair_in 0 k.v1) l.invariant.1 ∙ pair-packed (update s)),
    )

pub returns : goal.returns
returns c =
    let l = c.loop-i in
    all_stored c.args.key.now l.words l.i (omega arith) l.invariant.2
