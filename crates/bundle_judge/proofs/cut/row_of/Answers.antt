-- `bundle_judge::cut::row_of`: its five numbers.
use mathlib.Core.List.{List}
use Prim.Native.Nat.{ℕ, ◌≤◌}
use native.Mathlib.Omega.{arith}
use lib.ListN.{length}
use Rattle.bundle_judge.proofs.Cutting.{number_one, number_two, number_four, row_there}
use Rattle.bundle_judge.proofs.cut.row_of.Goals as goal

pub returns : goal.returns
returns c =
    let t : List ℕ = c.args.entry.now in
    let h : 12 ≤ length t = omega arith in
    row_there 0 t _ _ _ _ _
    (omega (arith, c.from_be_bytes.ensures, number_four 0 t (omega arith)))
    (omega (arith, c.from_be_bytes-2.ensures, number_four 4 t (omega arith)))
    (omega (arith, c.from_be_bytes-3.ensures, c.from.ensures, number_two 8 t (omega arith)))
    (omega (arith, c.from-2.ensures, number_one 10 t (omega arith)))
    (omega (arith, c.from-3.ensures, number_one 11 t (omega arith)))
