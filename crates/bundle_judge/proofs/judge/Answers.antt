-- `bundle_judge::judge`: 22, 23, in this order.
use mathlib.Core.Path.{◌≡◌, ap, ◌∙◌}
use mathlib.Core.List.{List}
use Prim.Native.Nat.{ℕ}
use native.Mathlib.Omega.{arith}
use lib.ListN.{drop}
use Rattle.std.specs.Prelude.{map}
use Rattle.bits.proofs.Truth.{told-false, told-true}
use Rattle.bundle_format.specs.Reader.{count_of, row_of, rows_from, rows_of, all_known}
use Rattle.bundle_format.proofs.Accepted.{formed_only}
use Rattle.bundle_judge.specs.Inner.{judged_code}
use Rattle.bundle_judge.proofs.Cutting.{entries_rows}
use Rattle.bundle_judge.proofs.Judging.{count_in_lem}
use Rattle.bundle_judge.proofs.judge.Goals as goal

pub returns-then-not-well_formed-clause-is : goal.returns-then-not-well_formed-clause-is
unfolding judged_code
returns-then-not-well_formed-clause-is c = rw (told-false c.well_formed-2.ensures c.if-not-well_formed.true)

pub returns-then-not-all_known-clause-is : goal.returns-then-not-all_known-clause-is
unfolding judged_code
returns-then-not-all_known-clause-is c =
    let a = c.args in
    let b : List ℕ = a.b.now in
    let n : ℕ = c.count_of-count.result in
    let formed = told-true c.well_formed-2.ensures c.if-not-well_formed.false in
    let table = (formed_only _ _ formed).table in
    let count : n ≡ count_of b = c.count_of-count.ensures ∙ count_in_lem b (omega arith) in
    let rows : map row_of c.table.result.now ≡ rows_from n (drop 8 b) = ap (map row_of) c.table.ensures ∙ entries_rows n b (omega arith) in
    let same : c.all_known.result ≡ all_known a.reader (rows_of b) = c.all_known.ensures ∙ ap (all_known a.reader) rows ∙ ap (λ (m : ℕ). all_known a.reader (rows_from m (drop 8 b))) count in
    rw (formed, told-false same c.if-not-all_known.true)

pub returns-clause-is : goal.returns-clause-is
unfolding judged_code
returns-clause-is c =
    let a = c.args in
    let b : List ℕ = a.b.now in
    let n : ℕ = c.count_of-count.result in
    let formed = told-true c.well_formed-2.ensures c.if-not-well_formed.false in
    let table = (formed_only _ _ formed).table in
    let count : n ≡ count_of b = c.count_of-count.ensures ∙ count_in_lem b (omega arith) in
    let rows : map row_of c.table.result.now ≡ rows_from n (drop 8 b) = ap (map row_of) c.table.ensures ∙ entries_rows n b (omega arith) in
    let same : c.all_known.result ≡ all_known a.reader (rows_of b) = c.all_known.ensures ∙ ap (all_known a.reader) rows ∙ ap (λ (m : ℕ). all_known a.reader (rows_from m (drop 8 b))) count in
    rw (formed, told-true same c.if-not-all_known.false)

pub returns-clause-count : goal.returns-clause-count
returns-clause-count c =
    let table = (formed_only _ _ (told-true c.well_formed-2.ensures c.if-not-well_formed.false)).table in
    c.count_of-count.ensures ∙ count_in_lem c.args.b.now (omega arith)
