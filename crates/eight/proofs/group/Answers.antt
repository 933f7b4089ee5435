-- `eight::group`: the first four blocks are written, the four after them if there are more than eight, and the last four: all of them are.
use mathlib.Core.Path.{◌≡◌, refl, ap, ◌∙◌}
use mathlib.Core.List.{List}
use Prim.Native.Nat.{ℕ, ◌-◌, ◌≤◌}
use native.Mathlib.Nat.{le_of_lt}
use native.Mathlib.Omega.{arith}
use lib.ListN.{length, take, drop, length-take, length-drop}
use borrow.Rule.Slice.PartMut.{put_mid}
use Rattle.std.proofs.Common.{Option, Some, None}
use Rattle.published.specs.Bytes.{Bytes}
use Rattle.published.specs.Gift128.{rounds_all}
use Rattle.published.specs.Seen.{seen}
use Rattle.published.proofs.Many.{one_part}
use Rattle.published.proofs.Reading.{bytes_take, bytes_drop}
use Rattle.published.proofs.Seen.{orders}
use Rattle.packing.specs.Orders.{order_number}
use Rattle.primitives.specs.declared.State.{State}
use Rattle.round_words.specs.Arranged.{pairs_from}
use Rattle.eight.specs.declared.Lanes.{Lanes}
use Rattle.eight.specs.Inner.{EachBy, IfFour}
use Rattle.eight.proofs.Bytes.{four_are}
use Rattle.eight.proofs.Parts.{in_two, in_three}
use Rattle.eight.proofs.group.Goals as goal
use Rattle.eight.proofs.group.Goals.{then-input-gt128, else-input-gt128, in-Some, in_default}

-- the last 64 bytes of n
last-part : (l : List ℕ) (n : ℕ) → length l ≡ n → 64 ≤ n → length (take (length l - (n - 64)) (drop (n - 64) l)) ≡ 64
last-part l n e h = simp (length-take, length-drop) (omega arith)

-- the third four, where it is told that there is one
third : (R : State → State → Type 0) (s r : Option Lanes) (x y : Lanes) → s ≡ Some x → r ≡ Some y → IfFour R s r → EachBy R x y
third R s r x y e f h = rw (e, f) at h

no_third : (R : State → State → Type 0) (s r : Option Lanes) (y : Lanes) → s ≡ None → r ≡ Some y → IfFour R s r → ⊥
no_third R s r y e f h = rw (e, f) at h

lost : (R : State → State → Type 0) (s r : Option Lanes) (x : Lanes) → s ≡ Some x → r ≡ None → IfFour R s r → ⊥
lost R s r x e f h = rw (e, f) at h

pub returns : goal.returns
returns c =
    let a = c.args in
    let input : List ℕ = a.input.now in
    let ws : List ℕ = a.rkey.now in
    let bytes : Bytes input = λ i. (c.type_inv.input i).fits in
    let n = c.requires.input_len in
    let long : 64 ≤ length input = n.1 in
    let e : ℕ = length input - 64 in
    let one = four_are (order_number a.order) a.back ws (take 64 (drop 0 input)) _ _ _ (one_part 64 0 input long) (bytes_take 64 input bytes) c.taken-x.ensures c.through.ensures.x_gone c.given.ensures in
    let last =
    four_are (order_number a.order) a.back ws (take (length input - e) (drop e input)) _ _ _ (last-part input (length input) refl long)
    (bytes_take (length input - e) (drop e input) (bytes_drop e input bytes)) c.taken-y.ensures c.through.ensures.y_gone c.given-2.ensures in
    elim c.match-t.branch [
      | in-Some w ↦ elim c.if-input-gt128.branch [
        | then-input-gt128 v ↦
            let longer : 128 ≤ length input = le_of_lt v.if-input-gt128.true in
            ap (λ (o : List ℕ). put_mid e (length o - e) o c.given-2.new.output) w.output-is
            ∙ in_three (seen (order_number a.order) (rounds_all a.back (pairs_from 0 ws))) (λ l. (orders (order_number a.order)).sixteen _) input a.output.now c.given.new.output n.0 long c.requires.output_len c.given.auto.output one
            w.given-in-Some.new.output longer w.given-in-Some.auto.output
            (four_are (order_number a.order) a.back ws (take 64 (drop 64 input)) _ _ _ (one_part 64 64 input longer) (bytes_take 64 (drop 64 input) (bytes_drop 64 input bytes)) v.taken.ensures
            (third _ _ _ _ _ v.z-is w.in-Some.is c.through.ensures.z_gone) w.given-in-Some.ensures)
            c.given-2.new.output n.2 last
        | else-input-gt128 v ↦ absurd (no_third _ _ _ _ v.z-is w.in-Some.is c.through.ensures.z_gone)
      ]
      | in_default w ↦ elim c.if-input-gt128.branch [
        | then-input-gt128 v ↦ absurd (lost _ _ _ _ v.z-is w.in_default.is c.through.ensures.z_gone)
        | else-input-gt128 v ↦
            ap (λ (o : List ℕ). put_mid e (length o - e) o c.given-2.new.output) w.output-is
            ∙ in_two (seen (order_number a.order) (rounds_all a.back (pairs_from 0 ws))) (λ l. (orders (order_number a.order)).sixteen _) input a.output.now c.given.new.output n.0 long c.requires.output_len c.given.auto.output one
            c.given-2.new.output v.if-input-gt128.false last
      ]
    ]
