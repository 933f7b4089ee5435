-- The numbers of a piece and of a state's tag: what one that is not refused claims.
use mathlib.Core.Path.{◌≡◌, refl}
use Prim.Native.Nat.{ℕ, ◌≤◌}
use lib.Dec.{eqb, leb}
use borrow.Author.Tests.{leb-true, eqb-true}
use Rattle.answers.specs.Numbers.{DONE, BAD_BLOCK_LENGTH, BAD_STATE}
use Rattle.answers.proofs.Passed.{passed}
use Rattle.published.specs.Calls.{block_code}
use Rattle.cmac_parts.specs.Orders.{piece_code, tag_code}

-- what a state that is not refused claims
pub tag-passed : (count tag : ℕ) → tag_code count tag ≡ 0 → (count ≤ 16) × (tag ≡ 16)
unfolding tag_code block_code
tag-passed count tag e =
    let p1 = passed (leb count 16) BAD_STATE _ refl e in
    let p2 = passed (eqb tag 16) BAD_BLOCK_LENGTH DONE refl p1.1 in
    (leb-true count 16 p1.0, eqb-true tag 16 p2.0)

pub piece-passed : (count : ℕ) → piece_code count ≡ 0 → count ≤ 16
unfolding piece_code
piece-passed count e = leb-true count 16 (passed (leb count 16) BAD_STATE DONE refl e).0
