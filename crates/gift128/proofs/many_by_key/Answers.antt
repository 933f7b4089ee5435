-- `gift128::many_by_key`: the words of the cipher made are those of the key.
use mathlib.Core.Path.{◌≡◌, refl, ap, fun_ext, ◌∙◌}
use mathlib.Core.List.{List}
use Prim.Native.Nat.{ℕ}
use lib.ListN.{length}
use borrow.Author.Rules.{rules}
use Rattle.answers.proofs.Outcome.{done}
use Rattle.published.specs.Seen.{seen}
use Rattle.published.specs.Calls.{many_code}
use Rattle.packing.specs.Orders.{order_number}
use Rattle.key_schedule.specs.Expand.{expand_code, expanded}
use Rattle.gift128.specs.Calls.{order_code, rounds_by, all_blocks}
use Rattle.gift128.proofs.Blocks.{crossed-key}
use Rattle.gift128.proofs.many_by_key.Goals as goal

pub returns : goal.returns
unfolding order_code many_code expand_code
returns c =
    let a = c.args in
    let key : List ℕ = a.key.now in
    let input : List ℕ = a.input.now in
    let ws : List ℕ = c.precompute_rkeys.new.rkey in
    let kept : ws ≡ expanded key = search rules in
    let told : 0 ≡ order_code a.order (many_code 16 (length key) (length input) (length a.output.now)) = search rules in
    let asked : order_number c.in_ok-order.order ≡ a.order = search rules in
    done told refl
    (c.all.ensures
    ∙ ap (λ (o : ℕ). all_blocks (seen o (rounds_by a.back ws)) input) asked
    ∙ ap (λ (ws : List ℕ). all_blocks (seen a.order (rounds_by a.back ws)) input) kept
    ∙ ap (λ (f : List ℕ → List ℕ). all_blocks f input) (fun_ext (crossed-key a.order a.back key)))
