-- From bytes to bytes: one block more of those that are put, a block that went through a lane, and four of them.
use mathlib.Core.Path.{◌≡◌, refl, sym, ap, ◌∙◌}
use mathlib.Core.Bool.{Bool}
use mathlib.Core.List.{List, ◌++◌}
use Prim.Native.Nat.{ℕ, zero, suc, ◌+◌, ◌*◌, ◌/◌, ◌^◌, ◌≤◌, ◌<◌}
use native.Mathlib.Numerals.{add-one}
use native.Mathlib.Omega.{arith}
use lib.ListN.{length, take, drop, length-take, length-drop}
use Rattle.published.specs.Bytes.{Bytes}
use Rattle.published.specs.Blocks.{each_of, all_of, joined}
use Rattle.published.specs.Seen.{Order, read_in, write_in, seen}
use Rattle.published.specs.Gift128.{rounds_all}
use Rattle.published.proofs.Gift128.{rounds_all_lt}
use Rattle.published.proofs.Reading.{bytes_take, bytes_drop}
use Rattle.published.proofs.Groups.{joined-put, joined_cong, each_joined}
use Rattle.published.proofs.Seen.{orders}
use Rattle.primitives.specs.declared.State.{State}
use Rattle.primitives.specs.Packed.{block_of, state_of}
use Rattle.primitives.proofs.Blocks.{block_of_state_of}
use Rattle.round_words.specs.Arranged.{pairs_from}
use Rattle.packing.specs.Packing.{packed}
use Rattle.packing.proofs.Inverse.{packed-block}
use Rattle.eight.specs.declared.Lanes.{Lanes}
use Rattle.eight.specs.Inner.{lane_at, Holds, Each, rewritten, arriving, leaving, forty}

-- the block of lane n was put: those before the next are
pub put_more : (g : ℕ → List ℕ) (out new rest : List ℕ) (n : ℕ) → 16 * n ≤ length out → length new ≡ 16 → take (16 * n) out ≡ joined n g → new ≡ g n
    → take (16 * (n + 1)) (take (16 * n) out ++ (new ++ rest)) ≡ joined (n + 1) g
put_more g out new rest n h len before here =
    let at : 16 * (n + 1) ≡ 16 * n + 16 = omega arith in
    ap (λ (k : ℕ). take k (take (16 * n) out ++ (new ++ rest))) at ∙ joined-put 16 g out new rest n h len before here ∙ ap (λ (k : ℕ). joined k g) (sym (add-one n))

-- ---- one block: read as order 1 has it, made as its own order has it, gone through, made back and put

in_order : (order : ℕ) (bs : List ℕ) → length bs ≡ 16 → Bytes bs → (r s : State) → r ≡ packed 1 bs → s ≡ arriving order r → s ≡ state_of (read_in order bs)
in_order zero bs len h r s e f =
    let o : Order (read_in 1) (write_in 1) = orders 1 in
    f ∙ ap (rewritten 1 0) (e ∙ packed-block 1 bs refl len)
    ∙ ap (λ (y : ℕ). state_of (read_in 0 (write_in 1 y))) (block_of_state_of (read_in 1 bs) (o.block bs len h))
    ∙ ap (λ (l : List ℕ). state_of (read_in 0 l)) (o.again bs len h)
in_order (suc _) bs len h r s e f = f ∙ e ∙ packed-block 1 bs refl len

out_of_order : (order y : ℕ) → y < 2 ^ 128 → (t u : State) → t ≡ state_of y → u ≡ leaving order t → write_in 1 (block_of u) ≡ write_in order y
out_of_order zero y y-lt t u e f =
    let o : Order (read_in 1) (write_in 1) = orders 1 in
    let out : List ℕ = write_in 0 y in
    let sixteen : length out ≡ 16 = (orders 0).sixteen y in
    ap (λ (z : State). write_in 1 (block_of z)) (f ∙ ap (rewritten 0 1) e)
    ∙ ap (λ (z : ℕ). write_in 1 (block_of (state_of (read_in 1 (write_in 0 z))))) (block_of_state_of y y-lt)
    ∙ ap (write_in 1) (block_of_state_of (read_in 1 out) (o.block out sixteen ((orders 0).bytes y)))
    ∙ o.again out sixteen ((orders 0).bytes y)
out_of_order (suc _) y y-lt t u e f = ap (λ (z : State). write_in 1 (block_of z)) (f ∙ e) ∙ ap (write_in 1) (block_of_state_of y y-lt)

through_lane : (order : ℕ) (back : Bool) (ws bs : List ℕ) → length bs ≡ 16 → Bytes bs → (r s t u : State)
    → r ≡ packed 1 bs → s ≡ arriving order r → t ≡ forty back ws s → u ≡ leaving order t → write_in 1 (block_of u) ≡ seen order (rounds_all back (pairs_from 0 ws)) bs
through_lane order back ws bs len h r s t u e f g k =
    let y : ℕ = read_in order bs in
    let y-lt : y < 2 ^ 128 = (orders order).block bs len h in
    out_of_order order (rounds_all back (pairs_from 0 ws) y) (rounds_all_lt back (pairs_from 0 ws) y y-lt) t u
    (g ∙ ap (forty back ws) (in_order order bs len h r s e f) ∙ ap (λ (z : ℕ). state_of (rounds_all back (pairs_from 0 ws) z)) (block_of_state_of y y-lt)) k

-- ---- four blocks

pub four_are : (order : ℕ) (back : Bool) (ws input e : List ℕ) (s t : Lanes) → length input ≡ 64 → Bytes input
    → Holds (λ k. arriving order (packed 1 (take 16 (drop (16 * k) input)))) s → Each (forty back ws) s t
    → e ≡ joined 4 (λ k. write_in 1 (block_of (leaving order (lane_at t k)))) → e ≡ all_of 16 (seen order (rounds_all back (pairs_from 0 ws))) input
unfolding all_of
four_are order back ws input e s t len h takes goes gives =
    let four : 4 ≡ length input / 16 = omega arith in
    gives
    ∙ joined_cong 4 _ _
    (λ k l.
    through_lane order back ws (take 16 (drop (16 * k) input)) (simp (length-take, length-drop) (omega arith)) (bytes_take 16 (drop (16 * k) input) (bytes_drop (16 * k) input h))
    _ (lane_at s k) (lane_at t k) _ refl (takes.lane k l) (goes.lane k l) refl)
    ∙ sym (each_joined 16 (seen order (rounds_all back (pairs_from 0 ws))) 4 input)
    ∙ ap (λ (n : ℕ). each_of 16 (seen order (rounds_all back (pairs_from 0 ws))) n input) four
