-- `gift64::rounds::decrypt_state`: the rounds from 2 i on are undone.
use mathlib.Core.Path.{◌≡◌, refl, ap, ◌∙◌}
use mathlib.Core.List.{List}
use Prim.Native.Nat.{ℕ, ◌+◌, ◌-◌, ◌*◌, ◌%◌, ◌<◌}
use native.Mathlib.Omega.{arith}
use borrow.Author.Rules.{rules}
use Rattle.published.specs.Rounds.{unrounds}
use Rattle.published.specs.Gift64.{unrounds64}
use Rattle.primitives.specs.Packed.{block_of64}
use Rattle.gift64.specs.Inner.{pairs_in}
use Rattle.gift64.proofs.Turning.{undone-words}
use Rattle.gift64.proofs.Rounding.{backward}
use Rattle.gift64.proofs.rounds.decrypt_state.Goals as goal

pub loop-i-init : goal.loop-i-init
unfolding unrounds pairs_in
loop-i-init c = (omega arith, search rules, refl)

pub loop-i-preserved : goal.loop-i-preserved
loop-i-preserved c =
    let l = c.loop-i in
    let ws : List ℕ = c.args.words.now in
    let x : ℕ = block_of64 c.args.s in
    let i : ℕ = 2 * (l.i - 1) in
    let even : i % 2 ≡ 0 = omega arith in
    let more : i < 28 = omega arith in
    let two : 2 * l.i ≡ i + 2 = omega arith in (
      omega arith,
      undone-words 0 _ _ _ c.unround-state.ensures,
      backward ws i even more l.state c.unround-t.result _ c.round_constant-c.ensures c.round_constant-d.ensures
          x l.invariant.1 (search rules) c.unround-t.ensures c.unround-state.ensures
          (l.invariant.2 ∙ ap (λ (j : ℕ). unrounds64 (pairs_in (28 - j) j ws) j x) two),
    )

pub returns : goal.returns
returns c =
    let l = c.loop-i in
    let none : 2 * l.i ≡ 0 = omega arith in
    l.invariant.2 ∙ ap (λ (i : ℕ). unrounds64 (pairs_in (28 - i) i c.args.words.now) i (block_of64 c.args.s)) none
