-- `Page::put_side`, by its state.
use mathlib.Core.Path.{ap, ◌∙◌}
use mathlib.Core.List.{List}
use Prim.Native.Nat.{ℕ}
use Rattle.bundle_format.specs.Reader.{Answer, value}
use Rattle.differ_text.specs.Rendered.{side_text}
use Rattle.differ_text.proofs.Laid.{puts_as}
use Rattle.differ_text.proofs.Sides.{clipped, told-value, told-unknown, told-absent, told-refused, told-no_state}
use Rattle.differ_text.proofs.Page.put_side.Goals as goal

pub returns-in-Ok-Value : goal.returns-in-Ok-Value
returns-in-Ok-Value c =
    let b : List ℕ = c.args.bundle.now in
    let t = c.args.told in
    puts_as c.put_value.ensures
    (ap (λ (x : List ℕ). side_text (value t.kind x)) (clipped b t.at t.len c.min-start.result c.min-end.result c.min-start.ensures c.min-end.ensures)
    ∙ ap side_text (told-value b t (rw c.in-Ok-Value.field-0-is at c.in-Ok-Value.ensures)))

pub returns-in-Ok-Unknown : goal.returns-in-Ok-Unknown
unfolding side_text
returns-in-Ok-Unknown c =
    puts_as c.put_all.ensures (ap side_text (told-unknown c.args.bundle.now c.args.told (rw c.in-Ok-Unknown.field-0-is at c.in-Ok-Unknown.ensures)))

pub returns-in-Ok-Absent : goal.returns-in-Ok-Absent
unfolding side_text
returns-in-Ok-Absent c =
    puts_as c.put_all-in-Ok-Absent.ensures (ap side_text (told-absent c.args.bundle.now c.args.told (rw c.in-Ok-Absent.field-0-is at c.in-Ok-Absent.ensures)))

pub returns-in-Ok-Refused : goal.returns-in-Ok-Refused
unfolding side_text
returns-in-Ok-Refused c =
    puts_as c.put_all-in-Ok-Refused.ensures (ap side_text (told-refused c.args.bundle.now c.args.told (rw c.in-Ok-Refused.field-0-is at c.in-Ok-Refused.ensures)))

pub returns-in-Err : goal.returns-in-Err
unfolding side_text
returns-in-Err c =
    puts_as c.put_all-in-Err.ensures (ap side_text (told-no_state c.args.bundle.now c.args.told _ c.in-Err.ensures))
