-- `counter::Stream::feed`: the key stream, the input xored into it, and the stream that is left.
use mathlib.Core.Path.{◌≡◌, refl, sym, ◌∙◌}
use Prim.Native.Nat.{◌<◌}
use native.Mathlib.Omega.{arith}
use lib.ListN.{length}
use borrow.Author.Rules.{rules}
use borrow.Author.Tests.{eqb-true, eqb-false}
use Rattle.answers.proofs.Outcome.{done}
use Rattle.counter_orders.proofs.Passing.{piece-passed}
use Rattle.counter_orders.specs.Orders.{counters}
use Rattle.counter.proofs.Leaving.{fits_left, fed_none, fed_is}
use Rattle.counter.proofs.Stream.feed.Goals as goal

pub returns-then-is_empty : goal.returns-then-is_empty
returns-then-is_empty c =
    let a = c.args in
    let code = rw c.place-place.ensures at c.in_ok-piece_code.ensures in
    let passed = piece-passed _ _ _ _ _ (sym code) in
    let none : length a.input.now ≡ 0 = eqb-true (length a.input.now) 0 (sym c.is_empty.ensures ∙ c.if-is_empty.true) in
    done code refl (fed_none a.self.now a.input.now a.output.now none passed.1)

pub key_bytes-block-requires : goal.key_bytes-block-requires
key_bytes-block-requires c = (piece-passed _ _ _ _ _ (sym (rw c.place-place.ensures at c.in_ok-piece_code.ensures))).0

pub mix-requires : goal.mix-requires
mix-requires c = sym (c.key_bytes-block.auto.output ∙ (piece-passed _ _ _ _ _ (sym (rw c.place-place.ensures at c.in_ok-piece_code.ensures))).1)

pub moves-to-requires-clause-unused_bound : goal.moves-to-requires-clause-unused_bound
moves-to-requires-clause-unused_bound c = (piece-passed _ _ _ _ _ (sym c.in_ok-piece_code.ensures)).0

pub moves-to-requires-clause-n_bound : goal.moves-to-requires-clause-n_bound
moves-to-requires-clause-n_bound c =
    let s = c.args.self.now in
    let passed = piece-passed _ _ _ _ _ (sym (rw c.place-place.ensures at c.in_ok-piece_code.ensures)) in
    let lt : s.counter < counters = search rules in
    let fits = fits_left s.counter s.spent _ lt passed.2 in
    rw c.place-place.ensures (omega arith)

pub returns : goal.returns
returns c =
    let a = c.args in
    let s = a.self.now in
    let code = rw c.place-place.ensures at c.in_ok-piece_code.ensures in
    let passed = piece-passed _ _ _ _ _ (sym code) in
    let lt : s.counter < counters = search rules in
    let keying = c.key_bytes-block in
    let long : length s.block ≡ 16 = search rules in
    let some : length a.input.now ≡ 0 → ⊥ = eqb-false (length a.input.now) 0 (sym c.is_empty.ensures ∙ c.if-is_empty.false) in
    done code refl
    (fed_is s a.input.now keying.result keying.new.output c.mix.new.output c.moves-to.result c.kept-self.result
    (omega (arith, some)) passed.0 long lt passed.2 (length a.output.now) passed.1 keying.ensures c.mix.ensures (rw c.place-place.ensures at c.moves-to.ensures) c.kept-self.ensures)
