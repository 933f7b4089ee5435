-- `plain::encrypt`, which calls itself: one round and those that follow.
use mathlib.Core.Path.{◌≡◌, ap, ap₂, ◌∙◌}
use mathlib.Core.List.{List}
use Prim.Native.Nat.{ℕ, ◌+◌, ◌*◌, ◌≤◌, ◌<◌}
use native.Mathlib.Omega.{arith}
use lib.ListN.{length}
use Rattle.published.specs.Rounds.{Pair, round}
use Rattle.published.proofs.Undone.{round-lt}
use Rattle.plain_key.specs.Inner.{key_of, count_of, place_of, uv_of}
use Rattle.plain.specs.Inner.{state_of, nibbles_of, pair, rounds_from}
use Rattle.plain.proofs.Nibbles.{again, same_length, width_of}
use Rattle.plain.proofs.Rounds.{constant_next, rounds-done, round_first, state_after, nibbles_of_state, count_most, place-lt}
use Rattle.plain.proofs.+encrypt.Goals as goal

pub round-requires : goal.round-requires
round-requires t c = (c.requires.nibbles, rw c.v_place.ensures (place-lt (length c.args.s.now)))

pub encrypt-requires : goal.encrypt-requires
encrypt-requires t c =
    let a = c.args in
    let s : List ℕ = a.s.now in
    let n : ℕ = length s in
    let ok = c.requires.nibbles in
    -- a round more is one of this member's
    let some : a.r < count_of n = rw c.rounds_of.ensures at c.if-r-rounds_of.true in
    let same = same_length s _ c.round.ensures in
    let more : a.r + 1 ≤ count_of n = omega (arith, some) in (
      omega (arith, some, count_most n),
      (again s _ c.round.ensures ok, (rw same more, constant_next a.r c.requires.r_bound.1 c.step_constant-next.ensures)),
    )

pub returns-then-r-rounds_of : goal.returns-then-r-rounds_of
returns-then-r-rounds_of t c =
    let a = c.args in
    let s : List ℕ = a.s.now in
    let n : ℕ = length s in
    let ok = c.requires.nibbles in
    let some : a.r < count_of n = rw c.rounds_of.ensures at c.if-r-rounds_of.true in
    let next : ℕ = c.step_constant-next.result in
    let p : Pair = pair c.u_of.result c.v_of.result in
    let here : length c.round.new.s ≡ n = same_length s _ c.round.ensures in
    let once : state_of c.round.new.s ≡ round (4 * n) (place_of n) p next (state_of s) =
    state_after (λ m. round m c.v_place.result p next) s (round-lt (4 * n) c.v_place.result (width_of s ok) p next (state_of s)) c.round.ensures
    ∙ ap (λ (j : ℕ). round (4 * n) j p next (state_of s)) c.v_place.ensures in
    c.encrypt.ensures
    ∙ ap (λ (m : ℕ). nibbles_of m (rounds_from m (key_of c.update_key.result) (a.r + 1) (state_of c.round.new.s))) here
    ∙ ap (nibbles_of n)
    (round_first (4 * n) (place_of n) (uv_of n) (count_of n) a.r (key_of a.k) (state_of s) some (ap₂ pair c.u_of.ensures c.v_of.ensures)
    (constant_next a.r c.requires.r_bound.1 c.step_constant-next.ensures) c.update_key.ensures once)

pub returns-else-r-rounds_of : goal.returns-else-r-rounds_of
returns-else-r-rounds_of t c =
    let a = c.args in
    let n : ℕ = length a.s.now in
    let none : count_of n ≤ a.r = rw c.rounds_of.ensures at c.if-r-rounds_of.false in
    nibbles_of_state a.s.now _ c.requires.nibbles (rounds-done (4 * n) (place_of n) (uv_of n) (count_of n) a.r (key_of a.k) (state_of a.s.now) none)
