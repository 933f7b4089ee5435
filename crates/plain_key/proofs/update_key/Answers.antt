-- `plain_key::update_key`: each word is the one that the update puts there.
use mathlib.Core.Path.{ap₂, ◌∙◌}
use mathlib.Core.List.{List, [], ◌∷◌}
use Prim.Native.Nat.{ℕ}
use lib.ListN.{get_or}
use mir.Syntax.{w16}
use mir.Val.{Fits}
use borrow.Author.Rules.{rules}
use Rattle.plain_key.specs.Inner.{key_of}
use Rattle.plain_key.proofs.Keys.{update_is}
use Rattle.plain_key.proofs.update_key.Goals as goal

pub returns : goal.returns
returns c =
    let k : List ℕ = c.args.k in
    ap₂ (λ (a b : ℕ). key_of (get_or k 2 0 ∷ get_or k 3 0 ∷ get_or k 4 0 ∷ get_or k 5 0 ∷ get_or k 6 0 ∷ get_or k 7 0 ∷ a ∷ b ∷ [])) c.rotated_right.ensures c.rotated_right-2.ensures
    ∙ update_is k (λ i. let word : Fits w16 (get_or k i 0) = search rules in word.fits)
