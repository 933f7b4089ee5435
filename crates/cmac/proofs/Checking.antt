-- A check says yes exactly if all sixteen bytes are the message's tag.
use mathlib.Core.Path.{◌≡◌, refl, sym, ap, ap₂, ◌∙◌}
use mathlib.Core.Bool.{Bool, true, false, cond}
use mathlib.Core.List.{List}
use Prim.Native.Nat.{ℕ}
use lib.Dec.{eqb}
use lib.ListN.{length}
use borrow.Author.Tests.{eqb-true}
use Rattle.answers.proofs.Outcome.{if_done_lem}
use Rattle.published.specs.Calls.{block_code, key_code}
use Rattle.published.specs.Gift128.{encrypted}
use Rattle.cmac_parts.specs.Standard.{cmac}
use Rattle.cmac.specs.Calls.{same, Checks}
use Rattle.cmac.proofs.Strings.{same_refl, same_only, false_not_true}
use Rattle.cmac.proofs.Chaining.{length-encrypted, length-cmac}

-- a yes: the call is done, and the tag is the message's
pub yes_only : (key m tag : List ℕ) (n : ℕ) → Checks key m tag n true → (n ≡ 0) × (tag ≡ cmac (encrypted key) m)
yes_only key m tag n c = go (eqb number 0) refl
  where
    number : ℕ
    number = key_code (length key) (length tag)

    go : (t : Bool) → eqb number 0 ≡ t → (n ≡ 0) × (tag ≡ cmac (encrypted key) m)
    go true e =
        (c.is ∙ eqb-true number 0 e, same_only tag (cmac (encrypted key) m) (sym (c.leaves ∙ ap (λ (b : Bool). cond b (same tag (cmac (encrypted key) m)) false) e)))
    go false e = absurd (false_not_true (sym (c.leaves ∙ ap (λ (b : Bool). cond b (same tag (cmac (encrypted key) m)) false) e)))

-- the message's tag, by a key of sixteen bytes: the call is done, and says yes
pub yes_if : (key m : List ℕ) (n : ℕ) (says : Bool) → length key ≡ 16 → Checks key m (cmac (encrypted key) m) n says → (n ≡ 0) × (says ≡ true)
unfolding key_code block_code
yes_if key m n says len c = (c.is ∙ zero-code, c.leaves ∙ if_done_lem _ (same tag tag) false zero-code ∙ same_refl tag)
  where
    tag : List ℕ
    tag = cmac (encrypted key) m

    zero-code : key_code (length key) (length tag) ≡ 0
    zero-code = ap₂ key_code len (length-cmac (encrypted key) m (λ b. length-encrypted key b))
