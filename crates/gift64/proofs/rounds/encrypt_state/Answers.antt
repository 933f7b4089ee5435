-- `gift64::rounds::encrypt_state`: the rounds from 2 i on of the block that the words stand for give what all of them give.
use mathlib.Core.Path.{◌≡◌, refl, ap, ◌∙◌}
use mathlib.Core.List.{List}
use Prim.Native.Nat.{ℕ, ◌+◌, ◌-◌, ◌*◌, ◌%◌, ◌<◌}
use native.Mathlib.Omega.{arith}
use Rattle.published.specs.Rounds.{rounds}
use Rattle.published.specs.Gift64.{rounds64}
use Rattle.primitives.specs.Packed.{block_of64}
use Rattle.gift64.specs.Inner.{pairs_in}
use Rattle.gift64.proofs.Rounding.{forward}
use Rattle.gift64.proofs.rounds.encrypt_state.Goals as goal

pub loop-i-init : goal.loop-i-init
loop-i-init c = (omega arith, refl)

pub loop-i-preserved : goal.loop-i-preserved
loop-i-preserved c =
    let l = c.loop-i in
    let ws : List ℕ = c.args.words.now in
    let even : (2 * l.i) % 2 ≡ 0 = omega arith in
    let more : 2 * l.i < 28 = omega arith in
    let two : 2 * (l.i + 1) ≡ 2 * l.i + 2 = omega arith in (
      omega arith,
      ap (λ (r : ℕ). rounds64 (pairs_in (28 - r) r ws) r (block_of64 c.round-state.result)) two
          ∙ forward ws (2 * l.i) even more l.state c.round-t.result _ c.round_constant-c.ensures c.round_constant-d.ensures
          c.round-t.ensures c.round-state.ensures
          ∙ l.invariant.1,
    )

pub returns : goal.returns
unfolding rounds pairs_in
returns c =
    let l = c.loop-i in
    let ws : List ℕ = c.args.words.now in
    let all : 28 ≡ 2 * l.i = omega arith in
    let done : rounds64 (pairs_in 0 28 ws) 28 (block_of64 l.state) ≡ rounds64 (pairs_in (28 - 2 * l.i) (2 * l.i) ws) (2 * l.i) (block_of64 l.state) =
    ap (λ (i : ℕ). rounds64 (pairs_in (28 - i) i ws) i (block_of64 l.state)) all in
    done ∙ l.invariant.1
