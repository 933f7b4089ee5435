-- `bundle_reader::ask`: the id, of what is not refused.
use mathlib.Core.Path.{◌≡◌, refl, sym, ap, ◌∙◌}
use mathlib.Core.List.{List}
use Prim.Native.Nat.{ℕ}
use native.Mathlib.Omega.{arith}
use lib.ListN.{drop}
use Rattle.std.specs.Prelude.{map}
use Rattle.answers.proofs.Outcome.{done}
use Rattle.bundle_format.specs.Reader.{row_of, rows_from, tell_in}
use Rattle.bundle_judge.proofs.Cutting.{entries_rows}
use Rattle.bundle_reader.proofs.Steps.{Room, room}
use Rattle.bundle_reader.proofs.ask.Goals as goal

pub returns : goal.returns
returns c =
    let a = c.args in
    let b : List ℕ = a.bundle.now in
    let k = c.in_ok-count.ensures in
    let r : Room b = room _ _ _ (sym k.is) in
    let n : ℕ = c.in_ok-count.count in
    let rows : map row_of c.table.result.now ≡ rows_from n (drop 8 b) = ap (map row_of) c.table.ensures ∙ entries_rows n b (omega (arith, r.table, k.count)) in
    rw (← c.from-reader.ensures) (done k.is refl (c.tell_id.ensures ∙ ap (tell_in c.from-reader.result a.id) (rows ∙ ap (λ (m : ℕ). rows_from m (drop 8 b)) k.count)))
