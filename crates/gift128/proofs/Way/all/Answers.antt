-- `gift128::Way::all`: many at once, and then what is alone.
use mathlib.Core.Path.{◌≡◌, ◌∙◌, sym}
use mathlib.Core.List.{List}
use Prim.Native.Nat.{ℕ, ◌+◌, ◌-◌, ◌%◌, ◌≤◌}
use native.Mathlib.Nat.{le_refl}
use native.Mathlib.Omega.{arith}
use lib.ListN.{length, take, drop, length-take, length-drop}
use borrow.Rule.Slice.PartMut.{put_mid, same_len_mid}
use borrow.Author.Rules.{rules}
use Rattle.bits.proofs.Computed.{cond-true}
use Rattle.published.specs.Seen.{seen}
use Rattle.published.proofs.Seen.{orders}
use Rattle.published.proofs.Parts.{first_part, ended, part_length}
use Rattle.eight.proofs.Answers.{are_grouped}
use Rattle.packing.specs.Orders.{order_number}
use Rattle.packing.proofs.Inverse.{is_order_number}
use Rattle.gift128.specs.Calls.{rounds_by}
use Rattle.gift128.proofs.Way.all.Goals as goal

inside : (x y z : ℕ) → y ≡ z → x ≤ z → x ≤ y
inside x y z e h = omega arith

pub overflow_sub-m : goal.overflow_sub-m
overflow_sub-m c =
    omega (arith, c.alone.ensures.1 c.if-input-lt64.false)

pub slice_bounds-singles-count-2 : goal.slice_bounds-singles-count-2
slice_bounds-singles-count-2 c =
    let first = c.all_groups in
    let own = c.alone in
    let a = c.args in
    let input : List ℕ = a.input.now in
    let out : List ℕ = a.output.now in
    let whole : length input % 16 ≡ 0 = c.requires.input_len in
    let same : length out ≡ length input = c.requires.output_len in
    let room : own.result + 64 ≤ length input = own.ensures.1 c.if-input-lt64.false in
    let m : ℕ = length input - own.result in
    let out₁ : List ℕ = put_mid 0 (m - 0) out first.new.output in
    let same₁ : length out₁ ≡ length input = same_len_mid 0 (m - 0) out first.new.output first.auto.output ∙ same in
    inside _ _ _ same₁ (omega arith)

pub slice_bounds-singles-start-2 : goal.slice_bounds-singles-start-2
slice_bounds-singles-start-2 c = slice_bounds-singles-count-2 c

pub singles-requires-2 : goal.singles-requires-2
singles-requires-2 c = let first = c.all_groups in
    let own = c.alone in
    let a = c.args in
    let input : List ℕ = a.input.now in
    let out : List ℕ = a.output.now in
    let whole : length input % 16 ≡ 0 = c.requires.input_len in
    let same : length out ≡ length input = c.requires.output_len in
    let room : own.result + 64 ≤ length input = own.ensures.1 c.if-input-lt64.false in
    let m : ℕ = length input - own.result in
    let out₁ : List ℕ = put_mid 0 (m - 0) out first.new.output in
    let same₁ : length out₁ ≡ length input = same_len_mid 0 (m - 0) out first.new.output first.auto.output ∙ same in
    let left : length (take (length input - m) (drop m input)) ≡ length input - m = simp (length-take, length-drop) (omega arith) in
    let left₁ : length (take (length out₁ - m) (drop m out₁)) ≡ length input - m = simp (length-take, length-drop) (omega arith) in record { input_len = part_length input m (omega (arith, own.ensures.0)) whole; output_len = left₁ ∙ sym left }

pub returns : goal.returns
returns c =
    let last = c.singles-2 in
    let first = c.all_groups in
    let own = c.alone in
    let a = c.args in
    let input : List ℕ = a.input.now in
    let out : List ℕ = a.output.now in
    let whole : length input % 16 ≡ 0 = c.requires.input_len in
    let same : length out ≡ length input = c.requires.output_len in
    let room : own.result + 64 ≤ length input = own.ensures.1 c.if-input-lt64.false in
    let m : ℕ = length input - own.result in
    let out₁ : List ℕ = put_mid 0 (m - 0) out first.new.output in
    let same₁ : length out₁ ≡ length input = same_len_mid 0 (m - 0) out first.new.output first.auto.output ∙ same in
    let f : List ℕ → List ℕ = seen (order_number a.self.order) (rounds_by a.self.back a.self.words.now) in
    let part : m % 16 ≡ 0 = omega (arith, own.ensures.0) in
    let n : length (take (m - 0) input) ≡ m = simp length-take (omega arith) in
    let n' : length (take (m - 0) out) ≡ m = simp length-take (omega arith) in
    ended f (λ l. (orders (order_number a.self.order)).sixteen _) input out₁ last.new.output m m part part (le_refl m) (omega arith) whole same₁
    (first_part f input out first.new.output m part (omega arith) same (first.auto.output ∙ n')
    ((rw c.into.ensures at first.ensures) ∙ cond-true _ _ _ (are_grouped (order_number a.self.order) (length a.self.words.now) (length (take (m - 0) input)) (length (take (m - 0) out)) (is_order_number a.self.order) (search rules) (rw n part) (rw n (omega arith)) (n' ∙ sym n))))
    last.ensures
