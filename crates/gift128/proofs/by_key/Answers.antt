-- `gift128::by_key`: the words of the cipher made are those of the key.
use mathlib.Core.Path.{◌≡◌, refl, ap, ◌∙◌}
use mathlib.Core.List.{List}
use Prim.Native.Nat.{ℕ}
use lib.ListN.{length}
use borrow.Author.Rules.{rules}
use Rattle.answers.proofs.Outcome.{done}
use Rattle.published.specs.Seen.{seen}
use Rattle.published.specs.Calls.{key_code, block_code}
use Rattle.packing.specs.Orders.{order_number}
use Rattle.key_schedule.specs.Expand.{expand_code, expanded}
use Rattle.gift128.specs.Calls.{order_code, rounds_by}
use Rattle.gift128.proofs.Blocks.{crossed-key}
use Rattle.gift128.proofs.by_key.Goals as goal

pub returns : goal.returns
unfolding order_code key_code block_code expand_code
returns c =
    let a = c.args in
    let key : List ℕ = a.key.now in
    let block : List ℕ = a.block.now in
    let ws : List ℕ = c.precompute_rkeys.new.rkey in
    let kept : ws ≡ expanded key = search rules in
    let told : 0 ≡ order_code a.order (key_code (length key) (length block)) = search rules in
    let asked : order_number c.in_ok-order.order ≡ a.order = search rules in
    done told refl
    (c.in_place.ensures
    ∙ ap (λ (o : ℕ). seen o (rounds_by a.back ws) block) asked
    ∙ ap (λ (ws : List ℕ). seen a.order (rounds_by a.back ws) block) kept
    ∙ crossed-key a.order a.back key block)
