-- `plain_key::v_of`: two of the key state's words, and one in GIFT-64.
use mathlib.Core.Path.{sym, ap, ◌∙◌}
use mathlib.Core.Bool.{Bool, cond}
use mathlib.Core.List.{List}
use Prim.Native.Nat.{ℕ}
use lib.ListN.{get_or}
use mir.Syntax.{w16}
use mir.Val.{Fits}
use borrow.Author.Rules.{rules}
use borrow.Author.Tests.{eq-eqb, ne_eqb}
use Rattle.published.specs.Gift128.{pair_of}
use Rattle.published.specs.Gift64.{pair_of64}
use Rattle.plain_key.specs.Inner.{key_of}
use Rattle.plain_key.proofs.Keys.{v_is, small_v_is}
use Rattle.plain_key.proofs.v_of.Goals as goal

-- which of the two, by the number of nibbles
picked : List ℕ → Bool → ℕ
picked k t = (cond t (pair_of64 (key_of k)) (pair_of (key_of k))).v

pub returns-then-n-eq-SMALL : goal.returns-then-n-eq-SMALL
unfolding picked
returns-then-n-eq-SMALL c = let word : (i : ℕ) → Fits w16 (get_or c.args.k i 0) = λ i. search rules in small_v_is c.args.k (λ i. (word i).fits) ∙ sym (ap (picked c.args.k) (eq-eqb _ 16 c.if-n-eq-SMALL.true))

pub returns : goal.returns
unfolding picked
returns c = let word : (i : ℕ) → Fits w16 (get_or c.args.k i 0) = λ i. search rules in v_is c.args.k (λ i. (word i).fits) ∙ sym (ap (picked c.args.k) (ne_eqb _ 16 c.if-n-eq-SMALL.false))
