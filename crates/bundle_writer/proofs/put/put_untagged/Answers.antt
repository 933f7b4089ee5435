-- `bundle_writer::put::put_untagged`: header, table and bodies, one after the other.
use mathlib.Core.Path.{◌≡◌, ap, ◌∙◌}
use mathlib.Core.List.{List}
use Prim.Native.Nat.{ℕ, ◌+◌, ◌-◌, ◌*◌}
use native.Mathlib.Omega.{arith}
use lib.ListN.{length}
use Rattle.bundle_format.proofs.Encoded.{length-header}
use Rattle.bundle_writer.proofs.Stored.{untagged_is, length_lent, three-parts}
use Rattle.bundle_writer.proofs.put.put_untagged.Goals as goal

pub returns : goal.returns
returns c =
    let a = c.args in
    let rows : List (List ℕ) = a.rows.now in
    let pool : List ℕ = a.pool.now in
    let n : ℕ = length rows in
    let h = c.copy_from_slice.new.self in
    let t = c.put_table in
    let p = c.put_bytes.new.out in
    let eh = c.copy_from_slice.ensures.after ∙ c.header.ensures in
    let ep = c.put_bytes.ensures in
    let sizes-are = c.requires.rows_value in
    let length-is = c.requires.out_len in
    let lh : length h ≡ 8 = ap length eh ∙ length-header _ _ _ in
    let lt : length t.new.out ≡ 8 + 12 * n - 8 = ap length t.ensures ∙ length_lent (8 + 12 * n) rows ∙ omega arith in
    let lp : length p ≡ 8 + 12 * n + length pool - (8 + 12 * n) = ap length ep ∙ omega arith in
    three-parts a.out.now h t.new.out p (8 + 12 * n) (8 + 12 * n + length pool) (omega arith) (omega arith) length-is lh lt lp ∙ untagged_is a.edition rows pool h t.new.out p sizes-are eh t.ensures ep
