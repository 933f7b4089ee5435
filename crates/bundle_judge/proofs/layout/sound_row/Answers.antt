-- `bundle_judge::layout::sound_row`: in its place, and then right in kind.
use mathlib.Core.Path.{◌≡◌, ap, ◌∙◌}
use Prim.Native.Nat.{ℕ, ◌+◌, ◌-◌}
use native.Mathlib.Omega.{arith}
use lib.ListN.{take, drop}
use Rattle.bits.proofs.Truth.{told-false, told-true}
use Rattle.bundle_format.proofs.Editions.{stands_only}
use Rattle.bundle_format.specs.Reader.{in_kind}
use Rattle.bundle_judge.proofs.layout.sound_row.Goals as goal

pub returns-then-not-in_place : goal.returns-then-not-in_place
returns-then-not-in_place c = rw (told-false c.in_place.ensures c.if-not-in_place.true)

pub slice_bounds-in_kind-end : goal.slice_bounds-in_kind-end
slice_bounds-in_kind-end c =
    let s = stands_only _ _ _ _ (told-true c.in_place.ensures c.if-not-in_place.false) in
    omega (arith, s.begins, s.ends)

pub returns : goal.returns
returns c =
    let a = c.args in
    let size : a.row.at + a.row.len - a.row.at ≡ a.row.len = omega arith in
    rw (told-true c.in_place.ensures c.if-not-in_place.false)
    (c.in_kind.ensures ∙ ap (λ (k : ℕ). in_kind a.reader a.edition a.row.kind (take k (drop a.row.at a.b.now))) size)
