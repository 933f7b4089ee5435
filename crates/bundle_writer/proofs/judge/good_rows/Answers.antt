-- `bundle_writer::judge::good_rows`, test by test.
use mathlib.Core.Path.{◌≡◌, refl, sym, ap, ◌∙◌}
use mathlib.Core.List.{List}
use Prim.Native.Nat.{ℕ, ◌/◌, ◌%◌}
use native.Mathlib.Omega.{arith}
use lib.ListN.{length}
use borrow.Author.Tests.{ne_eqb}
use Rattle.std.specs.Simd.{first_chunks}
use Rattle.bundle_format.specs.Format.{good_from}
use Rattle.bundle_format.specs.Writer.{sizes, good_rows}
use Rattle.bundle_writer.specs.Inner.{settings_in, sizes_in}
use Rattle.bundle_writer.proofs.Lent.{chunks_sizes, chunks_list}
use Rattle.bundle_writer.proofs.Numbered.{too_many, other_size, too_long, settings_left}
use Rattle.bundle_writer.proofs.judge.good_rows.Goals as goal

pub returns-then-left-ne0 : goal.returns-then-left-ne0
unfolding good_rows
returns-then-left-ne0 c = rw (ne_eqb (length c.args.rows.now % 4) 0 (λ e. c.if-left-ne0.true (c.as_chunks.ensures.back_len ∙ e)))

pub returns-then-lent-gt256 : goal.returns-then-lent-gt256
returns-then-lent-gt256 c =
    let a = c.args in
    let cut = c.as_chunks.ensures in
    let whole : length a.rows.now % 4 ≡ 0 = sym cut.back_len ∙ c.if-left-ne0.false in
    sym (too_many a.edition a.rows.now a.pool.now (length a.rows.now / 4) refl whole (omega (arith, cut.front_len)))

pub returns-then-size_of-pool : goal.returns-then-size_of-pool
returns-then-size_of-pool c =
    let a = c.args in
    let n : ℕ = length a.rows.now / 4 in
    let cut = c.as_chunks.ensures in
    let whole : length a.rows.now % 4 ≡ 0 = sym cut.back_len ∙ c.if-left-ne0.false in
    let front : c.as_chunks.result.0.now ≡ first_chunks 4 n a.rows.now = cut.front in
    sym (other_size a.edition a.rows.now a.pool.now n refl whole c.size_of.result (c.size_of.ensures ∙ ap sizes_in front ∙ chunks_sizes n a.rows.now) c.if-size_of-pool.true)

pub returns-then-lent-pool : goal.returns-then-lent-pool
returns-then-lent-pool c =
    let a = c.args in
    let n : ℕ = length a.rows.now / 4 in
    let cut = c.as_chunks.ensures in
    let whole : length a.rows.now % 4 ≡ 0 = sym cut.back_len ∙ c.if-left-ne0.false in
    let front : c.as_chunks.result.0.now ≡ first_chunks 4 n a.rows.now = cut.front in
    let all : sizes n a.rows.now ≡ length a.pool.now = sym (c.size_of.ensures ∙ ap sizes_in front ∙ chunks_sizes n a.rows.now) ∙ c.if-size_of-pool.false in
    sym (too_long a.edition a.rows.now a.pool.now n refl whole (omega (arith, cut.front_len)) all (omega (arith, cut.front_len)))

pub returns : goal.returns
returns c =
    let a = c.args in
    let n : ℕ = length a.rows.now / 4 in
    let cut = c.as_chunks.ensures in
    let whole : length a.rows.now % 4 ≡ 0 = sym cut.back_len ∙ c.if-left-ne0.false in
    let front : c.as_chunks.result.0.now ≡ first_chunks 4 n a.rows.now = cut.front in
    let all : sizes n a.rows.now ≡ length a.pool.now = sym (c.size_of.ensures ∙ ap sizes_in front ∙ chunks_sizes n a.rows.now) ∙ c.if-size_of-pool.false in
    c.good_settings.ensures
    ∙ ap (λ (l : List (List ℕ)). good_from a.edition 0 (settings_in l a.pool.now)) front
    ∙ ap (good_from a.edition 0) (chunks_list n a.rows.now a.pool.now)
    ∙ sym (settings_left a.edition a.rows.now a.pool.now n refl whole (omega (arith, cut.front_len)) all (omega (arith, cut.front_len)))
