-- `slices::wide_groups`: n groups are written.
use Rattle.std.proofs.Common.{◌≡◌, refl, sym, subst, ◌∙◌, List, ℕ, ◌+◌, ◌-◌, ◌*◌, ◌/◌, ◌≤◌, length, take, drop, arith}
use borrow.Rule.Slice.PartMut.{put_mid, same_len_mid}
use Rattle.published.specs.Blocks.{each_of}
use Rattle.published.specs.Gift128.{rounds_all}
use Rattle.published.specs.Seen.{seen}
use Rattle.published.proofs.Many.{each_none, one_part}
use Rattle.published.proofs.Groups.{all_written}
use Rattle.published.proofs.Parts.{group_more}
use Rattle.round_words.specs.Arranged.{pairs_from}
use Rattle.slices.proofs.Groups.{group_by_words}
use Rattle.slices.proofs.wide_groups.Goals as goal

pub loop-n-init : goal.loop-n-init
loop-n-init c = record { keyed = c.key_masks.ensures; long = c.requires.output_len; done = sym (each_none 16 _ _) }

pub loop-n-preserved : goal.loop-n-preserved
loop-n-preserved c =
    let call = c.sixty_four in
    let q = c.loop-n in
    let a = c.args in
    let input : List ℕ = a.input.now in
    let f : List ℕ → List ℕ = seen a.order (rounds_all a.back (pairs_from 0 a.rkey.now)) in
    let at : ℕ = 1024 * q.n in
    let next : at + 1024 ≡ 1024 * (q.n + 1) = omega arith in
    let P : ℕ → Type 0 = λ k. take k (put_mid at (at + 1024 - at) q.output call.new.output) ≡ each_of 16 f (k / 16) input in
    let room : at + 1024 ≤ length q.output = omega arith in
    let len : length call.new.output ≡ 1024 = call.auto.output ∙ one_part 1024 at q.output room in
    record {
      keyed = q.invariant.keyed;
      long = same_len_mid at (at + 1024 - at) q.output call.new.output call.auto.output ∙ q.invariant.long;
      done = subst P next (group_more 64 1024 refl f input q.output call.new.output _ at (omega arith) (omega arith) len q.invariant.done
          (call.ensures ∙ group_by_words a.order a.back _ (take (at + 1024 - at) (drop at input)) a.rkey.now c.told-rkey q.invariant.keyed));
    }

pub returns : goal.returns
returns c =
    let q = c.loop-n in
    let a = c.args in
    all_written (seen a.order (rounds_all a.back (pairs_from 0 a.rkey.now))) a.input.now q.output (1024 * q.n) (omega arith) (omega arith) q.invariant.done
