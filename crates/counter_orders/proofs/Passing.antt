-- What a call that is done has passed, and what one has that is refused with 12.
use mathlib.Core.Path.{◌≡◌, refl}
use mathlib.Core.Bool.{Bool, true, false}
use Prim.Native.Nat.{ℕ, ◌≤◌, ◌<◌}
use lib.Dec.{eqb, leb}
use borrow.Author.Tests.{eqb-true, eqb-false, leb-true, leb-false}
use Rattle.answers.specs.Numbers.{DONE, BAD_KEY_LENGTH, BAD_BLOCK_LENGTH, BAD_OUTPUT_LENGTH, BAD_STATE, TOO_FEW_COUNTERS}
use Rattle.answers.specs.Order.{unless}
use Rattle.answers.proofs.Passed.{passed}
use Rattle.counter_orders.specs.Orders.{start_code, needed, left, enough, piece_code}

pub start-passed : (key nonce : ℕ) → start_code key nonce ≡ 0 → (key ≡ 16) × (nonce ≡ 12)
unfolding start_code
start-passed key nonce e =
    let p1 = passed (eqb key 16) BAD_KEY_LENGTH _ refl e in
    let p2 = passed (eqb nonce 12) BAD_BLOCK_LENGTH DONE refl p1.1 in
    (eqb-true key 16 p1.0, eqb-true nonce 12 p2.0)

pub piece-passed : (counter unused spent input output : ℕ) → piece_code counter unused spent input output ≡ 0
    → (unused ≤ 15) × (output ≡ input) × (needed unused input ≤ left counter spent)
unfolding piece_code enough
piece-passed counter unused spent input output e =
    let p1 = passed (leb unused 15) BAD_STATE _ refl e in
    let p2 = passed (eqb output input) BAD_OUTPUT_LENGTH _ refl p1.1 in
    let p3 = passed (leb (needed unused input) (left counter spent)) TOO_FEW_COUNTERS DONE refl p2.1 in
    (leb-true unused 15 p1.0, eqb-true output input p2.0, leb-true (needed unused input) (left counter spent) p3.0)

-- a line of an order that gives another number than r, and the last line before r is not given
past : (t : Bool) (n next r : ℕ) → eqb n r ≡ false → unless t n next ≡ r → (t ≡ true) × (next ≡ r)
past true n next r z e = (refl, e)
past false n next r z e = absurd (eqb-false n r z e)

stopped : (t : Bool) (r next : ℕ) → eqb next r ≡ false → unless t r next ≡ r → t ≡ false
stopped true r next z e = absurd (eqb-false next r z e)
stopped false r next z e = refl

pub piece_short : (counter unused spent input output : ℕ) → piece_code counter unused spent input output ≡ TOO_FEW_COUNTERS
    → (unused ≤ 15) × (output ≡ input) × (left counter spent < needed unused input)
unfolding piece_code enough
piece_short counter unused spent input output e =
    let p1 = past (leb unused 15) BAD_STATE _ TOO_FEW_COUNTERS refl e in
    let p2 = past (eqb output input) BAD_OUTPUT_LENGTH _ TOO_FEW_COUNTERS refl p1.1 in
    let p3 = stopped (leb (needed unused input) (left counter spent)) TOO_FEW_COUNTERS DONE refl p2.1 in
    (leb-true unused 15 p1.0, eqb-true output input p2.0, leb-false (needed unused input) (left counter spent) p3)
