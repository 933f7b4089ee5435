-- `quintuple::first_round`: round 1 on words is the published round, and its words are put in place.
use mathlib.Core.Path.{◌≡◌, refl, sym, ap, ◌∙◌}
use mathlib.Core.List.{List}
use Prim.Native.Nat.{ℕ, ◌≤◌}
use native.Mathlib.Omega.{arith}
use lib.Dec.{lit<}
use lib.ListN.{length, get_or}
use borrow.Author.Tests.{le-leb, lt-leb}
use Rattle.bits.proofs.Computed.{cond-true, cond-false}
use Rattle.published.specs.Rounds.{rounds}
use Rattle.published.specs.Gift128.{rounds128}
use Rattle.primitives.specs.declared.State.{State}
use Rattle.primitives.specs.Packed.{block_of, state_of}
use Rattle.primitives.proofs.Blocks.{same_words, state_of_block_of}
use Rattle.round_words.specs.Arranged.{stands, pairs_from}
use Rattle.quintuple.specs.Quintuple.{first_round}
use Rattle.quintuple.proofs.Fixslice.{block_in_none}
use Rattle.quintuple.proofs.Five.{carried, go_on, first_two, in_place}
use Rattle.quintuple.proofs.first_round.Goals as goal

pub returns-then-rkey-lt2 : goal.returns-then-rkey-lt2
unfolding first_round
returns-then-rkey-lt2 c = sym (cond-false _ _ _ (lt-leb 2 (length c.args.rkey.now) c.if-rkey-lt2.true))

pub returns : goal.returns
unfolding first_round rounds pairs_from
returns c =
    let a = c.args in
    let ws : List ℕ = a.rkey.now in
    let few : 2 ≤ length ws = c.if-rkey-lt2.false in
    let x : State = c.exchanged-x.result in
    let r : State = record { s0 = c.unarranged-s0.result; s1 = c.unarranged-s1.result; s2 = c.unarranged-s2.result; s3 = c.unarranged-s3.result } in
    let placed : r ≡ record { s0 = stands 1 x.s0; s1 = stands 1 x.s1; s2 = stands 1 x.s2; s3 = stands 1 x.s3 } =
    same_words _ _ c.unarranged-s0.ensures c.unarranged-s1.ensures c.unarranged-s2.ensures c.unarranged-s3.ensures in
    let b =
    go_on 0 a.state c.round.result x (get_or ws 0 0) (get_or ws 1 0) c.round_constant.result 1 _ (lit< tt)
    (carried 0 0 0 _ (lit< tt) refl refl c.round_constant.ensures) (block_in_none a.state) c.round.ensures c.exchanged-x.ensures in
    sym
    (cond-true _ _ _ (le-leb 2 (length ws) few)
    ∙ ap (λ (l : List ℕ). state_of (rounds128 (pairs_from 0 l) 0 (block_of a.state))) (first_two ws few)
    ∙ ap state_of (sym (ap block_of placed ∙ in_place 1 x ∙ b))
    ∙ state_of_block_of r (omega (arith, c.unarranged-s0.type_inv, c.unarranged-s1.type_inv, c.unarranged-s2.type_inv, c.unarranged-s3.type_inv)))
