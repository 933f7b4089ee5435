-- `eight::groups`: the blocks before place a are written, and none or four and more are left.
use Rattle.std.proofs.Common.{◌≡◌, refl, sym, ap₂, ◌∙◌, cond, List, ℕ, ◌+◌, ◌-◌, ◌%◌, ◌≤◌, ◌<◌, leb, length, take, drop, arith, rules}
use Rattle.std.proofs.lemmas.Bool.Decides.{nat_tests}
use borrow.Rule.Slice.PartMut.{same_len_mid}
use Rattle.bits.proofs.Truth.{told-true}
use Rattle.bits.proofs.Computed.{cond-true}
use Rattle.published.specs.Blocks.{all_of}
use Rattle.published.specs.Gift128.{rounds_all}
use Rattle.published.specs.Seen.{seen}
use Rattle.published.proofs.Many.{each_none, one_part}
use Rattle.published.proofs.Groups.{all_written}
use Rattle.packing.specs.Orders.{order_number}
use Rattle.round_words.specs.Arranged.{pairs_from}
use Rattle.eight.proofs.Answers.{grouped}
use Rattle.eight.proofs.Parts.{part_more}
use Rattle.eight.proofs.groups.Goals as goal

pub loop-a-init : goal.loop-a-init
loop-a-init c =
    let a = c.args in
    let ok = grouped a.order (length a.rkey.now) (length a.input.now) (length a.output.now) (told-true c.in_groups.ensures c.if-not-in_groups.false) in
    record { whole = ok.2; long = ok.4; at = refl; within = omega arith; left = λ h. ok.3; same = refl; done = sym (each_none 16 _ _) }

-- a group of w bytes at place a of n, and what it leaves
record Fits (n a w : ℕ) : Type 0 where
  whole : w % 16 ≡ 0
  inside : a + w ≤ n
  leaves : a + w < n → a + w + 64 ≤ n

fits : (n a w : ℕ) → w ≡ cond (leb (n - a) 192) (n - a) 128 → n % 16 ≡ 0 → a % 16 ≡ 0 → a ≤ n → Fits n a w
fits n a w e whole at within = record { whole = grind (arith, nat_tests); inside = grind (arith, nat_tests); leaves = λ h. grind (arith, nat_tests) }

pub loop-a-preserved : goal.loop-a-preserved
loop-a-preserved c =
    let call = c.group in
    let q = c.loop-a in
    let a = c.args in
    let input : List ℕ = a.input.now in
    let w : ℕ = c.width.result in
    let g = fits (length input) q.a w c.width.ensures q.invariant.whole q.invariant.at q.invariant.within in
    let room : q.a + w ≤ length q.output = omega arith in
    let words : c.in-Ok-Some.words.now ≡ a.rkey.now = search rules in
    let named : order_number c.in-Ok-Some.named ≡ a.order = search rules in
    record {
      whole = q.invariant.whole;
      long = q.invariant.long;
      at = omega arith;
      within = g.inside;
      left = g.leaves;
      same = same_len_mid q.a (q.a + w - q.a) q.output call.new.output call.auto.output ∙ q.invariant.same;
      done = part_more (seen a.order (rounds_all a.back (pairs_from 0 a.rkey.now))) input q.output call.new.output _ q.a w q.invariant.at g.whole (omega arith) g.inside
          (call.auto.output ∙ one_part w q.a q.output room) q.invariant.done
          (call.ensures ∙ ap₂ (λ (o : ℕ) (ws : List ℕ). all_of 16 (seen o (rounds_all a.back (pairs_from 0 ws))) (take (q.a + w - q.a) (drop q.a input))) named words);
    }

pub returns : goal.returns
returns c =
    let q = c.loop-a in
    let a = c.args in
    all_written (seen a.order (rounds_all a.back (pairs_from 0 a.rkey.now))) a.input.now q.output q.a (omega arith) (omega arith) q.invariant.done
    ∙ sym (cond-true _ _ _ (told-true c.in_groups.ensures c.if-not-in_groups.false))
