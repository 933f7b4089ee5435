-- `plain::decrypt`, which calls itself: those that follow a round are undone, and then it.
use mathlib.Core.Path.{ap, ap₂, ◌∙◌}
use mathlib.Core.List.{List}
use Prim.Native.Nat.{ℕ, ◌+◌, ◌*◌, ◌^◌, ◌≤◌, ◌<◌}
use native.Mathlib.Omega.{arith}
use lib.ListN.{length}
use Rattle.published.specs.Rounds.{Pair, unround}
use Rattle.published.proofs.Undone.{unrounds-lt}
use Rattle.plain_key.specs.Inner.{key_of, count_of, place_of, uv_of}
use Rattle.plain.specs.Inner.{state_of, nibbles_of, pair, unrounds_from}
use Rattle.plain.proofs.Nibbles.{again, same_length, state_of_lt, state_of_nibbles_of, width_of}
use Rattle.plain.proofs.Rounds.{constant_next, unrounds-done, round-last, nibbles_of_state, count_most, place-lt}
use Rattle.plain.proofs.+decrypt.Goals as goal

pub decrypt-requires : goal.decrypt-requires
decrypt-requires t c =
    let a = c.args in
    let s : List ℕ = a.s.now in
    let n : ℕ = length s in
    let ok = c.requires.nibbles in
    -- a round more is one of this member's
    let some : a.r < count_of n = rw c.rounds_of.ensures at c.if-r-rounds_of.true in
    let more : a.r + 1 ≤ count_of n = omega (arith, some) in (
      omega (arith, some, count_most n),
      (ok, (more, constant_next a.r c.requires.r_bound.1 c.step_constant-next.ensures)),
    )

pub unround-requires : goal.unround-requires
unround-requires t c = (again c.args.s.now _ c.decrypt.ensures c.requires.nibbles, rw c.v_place.ensures (place-lt (length c.args.s.now)))

pub returns-then-r-rounds_of : goal.returns-then-r-rounds_of
returns-then-r-rounds_of t c =
    let a = c.args in
    let s : List ℕ = a.s.now in
    let n : ℕ = length s in
    let ok = c.requires.nibbles in
    let some : a.r < count_of n = rw c.rounds_of.ensures at c.if-r-rounds_of.true in
    let next : ℕ = c.step_constant-next.result in
    let p : Pair = pair c.u_of.result c.v_of.result in
    let x : ℕ = unrounds_from n (key_of c.update_key.result) (a.r + 1) (state_of s) in
    let x_lt : x < 2 ^ (4 * n) = unrounds-lt (4 * n) (place_of n) (width_of s ok) _ (a.r + 1) (state_of s) (state_of_lt s ok.small) in
    c.unround.ensures
    ∙ ap₂ (λ (l y : ℕ). nibbles_of l (unround (4 * l) c.v_place.result p next y)) (same_length s x c.decrypt.ensures) (ap state_of c.decrypt.ensures ∙ state_of_nibbles_of n x x_lt)
    ∙ ap (nibbles_of n)
    (ap (λ (j : ℕ). unround (4 * n) j p next x) c.v_place.ensures
    ∙ round-last (4 * n) (place_of n) (uv_of n) (count_of n) a.r (key_of a.k) (state_of s) some (ap₂ pair c.u_of.ensures c.v_of.ensures)
    (constant_next a.r c.requires.r_bound.1 c.step_constant-next.ensures) c.update_key.ensures)

pub returns-else-r-rounds_of : goal.returns-else-r-rounds_of
returns-else-r-rounds_of t c =
    let a = c.args in
    let n : ℕ = length a.s.now in
    let none : count_of n ≤ a.r = rw c.rounds_of.ensures at c.if-r-rounds_of.false in
    nibbles_of_state a.s.now _ c.requires.nibbles (unrounds-done (4 * n) (place_of n) (uv_of n) (count_of n) a.r (key_of a.k) (state_of a.s.now) none)
