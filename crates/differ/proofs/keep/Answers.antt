-- `differ::keep`: a row more, if the id differs.
use mathlib.Core.Path.{◌≡◌, refl, ◌∙◌}
use Prim.Native.Nat.{◌+◌, ◌*◌, ◌≤◌}
use native.Mathlib.Omega.{arith}
use lib.ListN.{length}
use Rattle.std.specs.declared.option.Option.TheVariants.{None, Some}
use Rattle.differ.specs.Inner.{line_in}
use Rattle.differ.proofs.Rows.{one_line, no_line, none_kept, one_kept}
use Rattle.differ.proofs.keep.Goals as goal

pub returns-in-None : goal.returns-in-None
returns-in-None c =
    let a = c.args in
    rw c.in-None.is (omega (arith, no_line None refl), none_kept a.rows.now a.k)

pub slice_bounds-copy_from_slice-end : goal.slice_bounds-copy_from_slice-end
slice_bounds-copy_from_slice-end c =
    let a = c.args in
    let one : length (line_in a.found) ≡ 1 = rw c.in-Some.is (one_line (Some c.in-Some.line) refl) in
    omega arith

pub returns-in-Some : goal.returns-in-Some
returns-in-Some c =
    let a = c.args in
    let one : length (line_in a.found) ≡ 1 = rw c.in-Some.is (one_line (Some c.in-Some.line) refl) in
    let room : 9 * a.k + 9 ≤ length a.rows.now = omega arith in
    rw c.in-Some.is (omega (arith, one_line (Some c.in-Some.line) refl), one_kept a.rows.now a.k c.in-Some.line c.copy_from_slice.new.self room (c.copy_from_slice.ensures.after ∙ c.numbers.ensures))
