-- `slices::fill_masks`: the masks of the words below r.
use Rattle.std.proofs.Common.{◌≡◌, ◌∙◌, ◌+◌, ◌-◌, ◌*◌, length, arith}
use borrow.Rule.Slice.PartMut.{same_len_mid}
use Rattle.published.proofs.Many.{one_part}
use Rattle.slices.proofs.Keys.{fills_part, word-masks, all_masks}
use Rattle.slices.proofs.fill_masks.Goals as goal

pub loop-r-preserved : goal.loop-r-preserved
loop-r-preserved c =
    let call = c.masks_at in
    let l = c.loop-r in
    let new = call.new.out in
    let len : length new ≡ 32 = call.auto.out ∙ one_part 32 (32 * l.r) l.masks (omega arith) in (
      same_len_mid (32 * l.r) (32 * l.r + 32 - 32 * l.r) l.masks new call.auto.out ∙ l.invariant.0,
      fills_part (32 * l.r) 32 (32 * (l.r + 1)) l.masks new _ (omega arith) len (omega arith)
          (word-masks c.args.rkey.now c.args.places.now new l.r (omega arith) c.requires call.ensures) l.invariant.1,
    )

pub returns : goal.returns
returns c = let l = c.loop-r in all_masks c.args.rkey.now l.masks (32 * l.r) (omega arith) l.invariant.0 l.invariant.1
