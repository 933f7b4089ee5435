-- `gift128::Way::singles`: the first n blocks are written.
use mathlib.Core.Path.{◌≡◌, refl, sym, ap, ◌∙◌}
use mathlib.Core.List.{List}
use Prim.Native.Nat.{ℕ, suc, ◌+◌, ◌-◌, ◌*◌, ◌/◌, ◌≤◌}
use native.Mathlib.Omega.{arith}
use lib.ListN.{length, take}
use borrow.Rule.Slice.PartMut.{same_len_mid, put_mid}
use Rattle.published.specs.Blocks.{each_of}
use Rattle.published.specs.Seen.{seen}
use Rattle.published.proofs.Groups.{all_written}
use Rattle.published.proofs.Many.{each_none, one_part, one_more}
use Rattle.packing.specs.Orders.{order_number}
use Rattle.gift128.specs.Calls.{rounds_by}
use Rattle.gift128.proofs.Way.singles.Goals as goal

pub loop-n-init : goal.loop-n-init
loop-n-init c = (omega arith, refl, sym (each_none 16 _ _))

pub into-requires : goal.into-requires
into-requires c = let l = c.loop-n in
    let room : 16 * l.n + 16 ≤ length c.args.input.now = omega arith in
    let room' : 16 * l.n + 16 ≤ length l.output = omega arith in record { input_len = one_part 16 (16 * l.n) c.args.input.now room; output_len = one_part 16 (16 * l.n) l.output room' }

pub loop-n-preserved : goal.loop-n-preserved
loop-n-preserved c =
    let call = c.into in
    let l = c.loop-n in
    let input : List ℕ = c.args.input.now in
    let f : List ℕ → List ℕ = seen (order_number c.args.self.order) (rounds_by c.args.self.back c.args.self.words.now) in
    let room : 16 * l.n + 16 ≤ length l.output = omega arith in
    let len : length call.new.output ≡ 16 = call.auto.output ∙ one_part 16 (16 * l.n) l.output room in
    let next : 16 * (l.n + 1) ≡ 16 * l.n + 16 = omega arith in
    let more : suc l.n ≡ l.n + 1 = omega arith in (
      omega arith,
      same_len_mid (16 * l.n) (16 * l.n + 16 - 16 * l.n) l.output call.new.output call.auto.output ∙ l.invariant.1,
      ap (λ (m : ℕ). take m (put_mid (16 * l.n) (16 * l.n + 16 - 16 * l.n) l.output call.new.output)) next
          ∙ one_more 16 f input l.output call.new.output _ (16 * l.n) l.n refl (omega arith) len l.invariant.2 call.ensures
          ∙ ap (λ (m : ℕ). each_of 16 f m input) more,
    )

pub returns : goal.returns
returns c =
    let l = c.loop-n in
    let input : List ℕ = c.args.input.now in
    let f : List ℕ → List ℕ = seen (order_number c.args.self.order) (rounds_by c.args.self.back c.args.self.words.now) in
    let blocks : (16 * l.n) / 16 ≡ l.n = omega arith in
    all_written f input l.output (16 * l.n) (omega arith) (omega arith) (l.invariant.2 ∙ ap (λ (m : ℕ). each_of 16 f m input) (sym blocks))
