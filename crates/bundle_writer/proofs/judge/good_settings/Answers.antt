-- `bundle_writer::judge::good_settings`: the settings before the row at hand are good; that has id `low` at least, and `rest` is what is left of the pool.
use mathlib.Core.Path.{◌≡◌, sym, ap, ◌∙◌}
use mathlib.Core.List.{List, []}
use Prim.Native.Nat.{ℕ, ◌+◌}
use native.Mathlib.Omega.{arith}
use lib.ListN.{drop, get_or}
use Rattle.bundle_format.specs.Format.{good_from}
use Rattle.bundle_writer.specs.Inner.{settings_in}
use Rattle.bundle_writer.proofs.Lent.{row_len, sizes_left, goods_stop, goods_more, goods_end}
use Rattle.bundle_writer.proofs.judge.good_settings.Goals as goal

pub split_at-requires : goal.split_at-requires
split_at-requires c =
    let rows : List (List ℕ) = c.args.rows.now in
    let l = c.loop-row in
    let r = c.lent_row-setting in
    let left = sizes_left rows l.row-index (omega arith) in
    let len = row_len 0 r.result (get_or rows l.row-index []) r.ensures in
    omega (arith, l.invariant.0)

pub returns-then-not-good_setting : goal.returns-then-not-good_setting
returns-then-not-good_setting c =
    let a = c.args in
    let l = c.loop-row in
    let r = c.lent_row-setting in
    sym (l.invariant.1 ∙ goods_stop a.edition l.low a.rows.now l.rest.now l.row-index (omega arith) r.result r.ensures _ c.split_at.ensures.front c.good_setting.result c.good_setting.ensures c.if-not-good_setting.true)

pub loop-row-preserved : goal.loop-row-preserved
loop-row-preserved c =
    let a = c.args in
    let rows : List (List ℕ) = a.rows.now in
    let l = c.loop-row in
    let r = c.lent_row-setting in
    let left = sizes_left rows l.row-index (omega arith) in
    let len = row_len 0 r.result (get_or rows l.row-index []) r.ensures in
    let cut = c.split_at.ensures in (
      omega (arith, l.invariant.0, cut.back_len),
      l.invariant.1
          ∙ goods_more a.edition l.low rows l.rest.now l.row-index (omega arith) r.result r.ensures _ cut.front c.good_setting.result c.good_setting.ensures c.if-not-good_setting.false
          ∙ ap (λ (b : List ℕ). good_from a.edition (r.result.id + 1) (settings_in (drop (l.row-index + 1) rows) b)) (sym cut.back),
    )

pub returns : goal.returns
returns c =
    let a = c.args in
    let l = c.loop-row in
    sym (l.invariant.1 ∙ goods_end a.edition l.low a.rows.now l.rest.now l.row-index (omega arith))
