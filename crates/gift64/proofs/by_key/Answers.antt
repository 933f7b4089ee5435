-- `gift64::by_key`: past the refusals, the block by the words of the key.
use mathlib.Core.Path.{◌≡◌, refl, ◌∙◌}
use mathlib.Core.List.{List}
use Prim.Native.Nat.{ℕ}
use lib.ListN.{length}
use borrow.Author.Rules.{rules}
use Rattle.answers.proofs.Outcome.{done}
use Rattle.published.specs.Calls64.{key_code64}
use Rattle.gift64.proofs.Crossing.{crossing, crossed-key}
use Rattle.gift64.proofs.by_key.Goals as goal

pub returns : goal.returns
unfolding key_code64
returns c =
    let a = c.args in
    let key : List ℕ = a.key.now in
    let block : List ℕ = a.block.now in
    let ws : List ℕ = c.expand-words.result in
    let eight : length block ≡ 8 = search rules in
    let told : 0 ≡ key_code64 (length key) (length block) = search rules in
    done told refl
    (crossing a.back ws c.packing_64-s.result c.through-t.result block block _ eight (search rules) eight
    c.packing_64-s.ensures c.through-t.ensures c.unpacking_64.ensures
    ∙ crossed-key a.back key ws block c.expand-words.ensures)
