-- `bundle_writer::write`: the bundle, of what is not refused.
use mathlib.Core.Path.{sym}
use mathlib.Core.List.{List}
use Prim.Native.Nat.{ℕ}
use native.Mathlib.Omega.{arith}
use lib.ListN.{length}
use Rattle.bundle_writer.proofs.Numbered.{Rows, good-rows, Passed, write_passed}
use Rattle.bundle_writer.proofs.write.Goals as goal

pub put_bundle-requires : goal.put_bundle-requires
put_bundle-requires c =
    let a = c.args in
    let passed : Passed c.from-edition.result a.key.now a.rows.now a.pool.now (length a.out.now) = write_passed c.from-edition.result a.key.now a.rows.now a.pool.now (length a.out.now) (sym c.in_ok-total.ensures.is) in
    record { key_len = passed.keyed; pool_value = passed.good; pool_in_bounds = passed.fits }

pub overflow_cast-result : goal.overflow_cast-result
overflow_cast-result c =
    let a = c.args in
    let passed : Passed c.from-edition.result a.key.now a.rows.now a.pool.now (length a.out.now) = write_passed c.from-edition.result a.key.now a.rows.now a.pool.now (length a.out.now) (sym c.in_ok-total.ensures.is) in
    let r : Rows c.from-edition.result a.rows.now a.pool.now = good-rows c.from-edition.result a.rows.now a.pool.now passed.good in
    omega (arith, r.small, r.total, c.in_ok-total.ensures.total)
