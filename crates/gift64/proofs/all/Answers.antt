-- `gift64::all`: the first n blocks are written.
use mathlib.Core.Path.{◌≡◌, refl, sym, ap, ◌∙◌}
use mathlib.Core.List.{List}
use Prim.Native.Nat.{ℕ, suc, ◌+◌, ◌-◌, ◌*◌, ◌≤◌}
use native.Mathlib.Omega.{arith}
use lib.ListN.{length, take}
use borrow.Rule.Slice.PartMut.{same_len_mid, put_mid}
use Rattle.published.specs.Blocks.{each_of}
use Rattle.published.proofs.Many.{each_none, one_part, one_more}
use Rattle.gift64.specs.Inner.{crossed_by}
use Rattle.gift64.proofs.Crossing.{all_written}
use Rattle.gift64.proofs.all.Goals as goal

pub loop-n-init : goal.loop-n-init
loop-n-init c = (omega arith, refl, sym (each_none 8 _ _))

pub into-requires : goal.into-requires
into-requires c = let l = c.loop-n in
    let room : 8 * l.n + 8 ≤ length c.args.input.now = omega arith in
    let room' : 8 * l.n + 8 ≤ length l.output = omega arith in record { input_len = one_part 8 (8 * l.n) c.args.input.now room; output_len = one_part 8 (8 * l.n) l.output room' }

pub loop-n-preserved : goal.loop-n-preserved
loop-n-preserved c =
    let call = c.into in
    let l = c.loop-n in
    let input : List ℕ = c.args.input.now in
    let f : List ℕ → List ℕ = crossed_by c.args.back c.args.words.now in
    let room : 8 * l.n + 8 ≤ length l.output = omega arith in
    let len : length call.new.output ≡ 8 = call.auto.output ∙ one_part 8 (8 * l.n) l.output room in
    let next : 8 * (l.n + 1) ≡ 8 * l.n + 8 = omega arith in
    let more : suc l.n ≡ l.n + 1 = omega arith in (
      omega arith,
      same_len_mid (8 * l.n) (8 * l.n + 8 - 8 * l.n) l.output call.new.output call.auto.output ∙ l.invariant.1,
      ap (λ (m : ℕ). take m (put_mid (8 * l.n) (8 * l.n + 8 - 8 * l.n) l.output call.new.output)) next
          ∙ one_more 8 f input l.output call.new.output _ (8 * l.n) l.n refl (omega arith) len l.invariant.2 call.ensures
          ∙ ap (λ (m : ℕ). each_of 8 f m input) more,
    )

pub returns : goal.returns
returns c =
    let l = c.loop-n in
    all_written (crossed_by c.args.back c.args.words.now) c.args.input.now l.output l.n (omega arith) (omega arith) l.invariant.2
