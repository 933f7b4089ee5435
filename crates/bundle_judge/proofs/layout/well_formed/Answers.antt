-- `bundle_judge::layout::well_formed`, test by test.
use mathlib.Core.Path.{◌≡◌, refl, ap, ap₂, ◌∙◌}
use mathlib.Core.List.{List}
use Prim.Native.Nat.{ℕ}
use native.Mathlib.Omega.{arith}
use lib.ListN.{length, drop}
use borrow.Author.Tests.{le-leb, lt-leb}
use Rattle.std.specs.Prelude.{map}
use Rattle.bundle_format.specs.Format.{first_body}
use Rattle.bundle_format.specs.Reader.{edition_of, row_of, rows_from, sound_rows}
use Rattle.bundle_format.specs.declared.Row.{Row}
use Rattle.bundle_judge.proofs.Cutting.{entries_all, entries_rows}
use Rattle.bundle_judge.proofs.Judging.{formed_by, short_not_formed}
use Rattle.bundle_judge.proofs.layout.well_formed.Goals as goal

pub returns-then-b-lt24 : goal.returns-then-b-lt24
returns-then-b-lt24 c = rw (short_not_formed _ _ c.if-b-lt24.true)

pub returns-then-edition-lt1 : goal.returns-then-edition-lt1
returns-then-edition-lt1 c =
    let e : c.from-edition.result ≡ edition_of c.args.b.now = cc in
    rw (formed_by _ _ _ _ e refl, lt-leb 1 _ c.if-edition-lt1.true)

pub returns-then-count-gt256 : goal.returns-then-count-gt256
returns-then-count-gt256 c =
    let e : c.from-edition.result ≡ edition_of c.args.b.now = cc in
    rw (formed_by _ _ _ _ e c.number2-count.ensures, le-leb 1 _ c.if-edition-lt1.false, lt-leb _ 256 c.if-count-gt256.true)

pub returns-then-b-count : goal.returns-then-b-count
returns-then-b-count c =
    let e : c.from-edition.result ≡ edition_of c.args.b.now = cc in
    rw (formed_by _ _ _ _ e c.number2-count.ensures, le-leb 1 _ c.if-edition-lt1.false, le-leb _ 256 c.if-count-gt256.false, lt-leb _ _ c.if-b-count.true)

pub sound_rows-requires : goal.sound_rows-requires
sound_rows-requires c =
    let b : List ℕ = c.args.b.now in
    let n : ℕ = c.number2-count.result in
    let count : length c.table.result.now ≡ n = ap length c.table.ensures ∙ entries_all n b (omega arith) in
    record { in_bounds = omega arith; count_bound = omega arith; edition_value = cc }

pub returns : goal.returns
returns c =
    let b : List ℕ = c.args.b.now in
    let n : ℕ = c.number2-count.result in
    let e : c.from-edition.result ≡ edition_of c.args.b.now = cc in
    let count : length c.table.result.now ≡ n = ap length c.table.ensures ∙ entries_all n b (omega arith) in
    let rows : map row_of c.table.result.now ≡ rows_from n (drop 8 b) = ap (map row_of) c.table.ensures ∙ entries_rows n b (omega arith) in
    rw (formed_by _ _ _ _ e c.number2-count.ensures, le-leb 1 _ c.if-edition-lt1.false, le-leb _ 256 c.if-count-gt256.false, le-leb _ _ c.if-b-count.false)
    (c.sound_rows.ensures ∙ ap₂ (λ (m : ℕ) (rs : List Row). sound_rows c.args.reader b 0 (first_body m) rs) count rows)
