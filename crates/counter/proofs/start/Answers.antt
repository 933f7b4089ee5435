-- `counter::start`: the words of the key and the caller's bytes.
use mathlib.Core.Path.{◌≡◌, refl, sym, ◌∙◌}
use mathlib.Core.List.{List}
use Prim.Native.Nat.{ℕ}
use lib.ListN.{length}
use Rattle.answers.proofs.Outcome.{done}
use Rattle.gift128.proofs.Blocks.{filled}
use Rattle.counter_orders.proofs.Passing.{start-passed}
use Rattle.counter.specs.Steps.{zero_block}
use Rattle.counter.specs.Calls.{started_by}
use Rattle.counter.proofs.start.Goals as goal

pub copy_from_slice-requires : goal.copy_from_slice-requires
copy_from_slice-requires c = sym (start-passed _ _ (sym c.in_ok-start_code.ensures)).1

pub returns : goal.returns
unfolding started_by
returns c =
    let a = c.args in
    let key : List ℕ = a.key.now in
    let long : length key ≡ 16 = (start-passed _ _ (sym c.in_ok-start_code.ensures)).0 in
    let words = c.precompute_rkeys.ensures.leaves ∙ filled key long in
    let nonce = c.copy_from_slice.ensures.after in
    done c.in_ok-start_code.ensures refl (λ i. record { words = words i; nonce = nonce i; counter = a.counter; block = zero_block; unused = 0; spent = 0 })
