-- `primitives::ror_within` is a move of bits: all groups and numbers of places that it may be given are tested at once.
use mathlib.Core.Bool.{Bool, not, ◌||◌, true, false}
use Prim.Native.Nat.{ℕ, ◌-◌, ◌*◌, ◌/◌, ◌%◌, ◌^◌, ◌<◌}
use native.Mathlib.Omega.{arith}
use lib.Dec.{T}
use Rattle.std.proofs.Common.{IsTrue, rules}
use Rattle.std.proofs.lemmas.Bool.Decides.{nat_tests}
use Rattle.bits.proofs.Computed.{below, at}
use Rattle.bits.proofs.Reflect.{W, var, lit, and, or, shr, shl}
use Rattle.primitives.specs.Words.{ror_in, is_turn}
use Rattle.primitives.proofs.Moves.{moves, is_move}
use Rattle.primitives.proofs.ror_within.Goals as goal

-- the n lowest places of each group of g
abbrev lowest : ℕ → ℕ → ℕ
lowest g n = 4294967295 / (1 * 2 ^ g % 4294967296 - 1) * (1 * 2 ^ n % 4294967296 - 1)

abbrev turned : ℕ → ℕ → W
turned g k = or (and (shr (var 0) k) (lit (lowest g (g - k)))) (shl (and (var 0) (lit (lowest g k))) (g - k))

abbrev right : ℕ → ℕ → Bool
right g k = not (is_turn g k) || is_move (ror_in g k) (turned g k)

small : (g k : ℕ) → IsTrue (is_turn g k) → (g < 17) × (k < 17)
small g k t = grind (arith, nat_tests)

passed : (b c : Bool) → IsTrue b → T (not b || c) → T c
passed true c e t = t
passed false c e t = search rules

pub returns : goal.returns
returns c =
    let g : ℕ = c.args.group in
    let k : ℕ = c.args.k in
    let s = small g k c.requires in
    let each : T (right g k) = at 17 (right g) (at 17 (λ g. below 17 (right g)) tt g s.0) k s.1 in
    moves (ror_in g k) (turned g k) (passed (is_turn g k) (is_move (ror_in g k) (turned g k)) c.requires each) c.args.x c.ranges.x.fits
