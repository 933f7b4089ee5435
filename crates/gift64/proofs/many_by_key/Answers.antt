-- `gift64::many_by_key`: past the refusals, each block by the words of the key.
use mathlib.Core.Path.{◌≡◌, refl, ap, fun_ext, ◌∙◌}
use mathlib.Core.List.{List}
use Prim.Native.Nat.{ℕ}
use lib.ListN.{length}
use borrow.Author.Rules.{rules}
use Rattle.answers.proofs.Outcome.{done}
use Rattle.published.specs.Blocks.{all_of}
use Rattle.published.specs.Calls.{many_code}
use Rattle.gift64.proofs.Crossing.{crossed-key}
use Rattle.gift64.proofs.many_by_key.Goals as goal

pub returns : goal.returns
unfolding many_code
returns c =
    let a = c.args in
    let told : 0 ≡ many_code 8 (length a.key.now) (length a.input.now) (length a.output.now) = search rules in
    done told refl
    (c.all.ensures
    ∙ ap (λ (f : List ℕ → List ℕ). all_of 8 f a.input.now) (fun_ext (λ block. crossed-key a.back a.key.now c.expand-words.result block c.expand-words.ensures)))
