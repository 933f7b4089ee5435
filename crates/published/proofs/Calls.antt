-- One block by a key, and many: what a call that is done has passed.
use mathlib.Core.Path.{◌≡◌, refl}
use Prim.Native.Nat.{ℕ, ◌%◌}
use lib.Dec.{eqb}
use borrow.Author.Tests.{eqb-true}
use Rattle.answers.specs.Numbers.{DONE, BAD_KEY_LENGTH, BAD_BLOCK_LENGTH, BAD_OUTPUT_LENGTH}
use Rattle.answers.proofs.Passed.{passed}
use Rattle.published.specs.Calls.{block_code, key_code, many_code}

pub key-passed : (key block : ℕ) → key_code key block ≡ 0 → (key ≡ 16) × (block ≡ 16)
unfolding key_code block_code
key-passed key block e =
    let p1 = passed (eqb key 16) BAD_KEY_LENGTH _ refl e in
    let p2 = passed (eqb block 16) BAD_BLOCK_LENGTH DONE refl p1.1 in
    (eqb-true key 16 p1.0, eqb-true block 16 p2.0)

pub many-passed : (size key input output : ℕ) → many_code size key input output ≡ 0 → (key ≡ 16) × (input % size ≡ 0) × (output ≡ input)
unfolding many_code
many-passed size key input output e =
    let p1 = passed (eqb key 16) BAD_KEY_LENGTH _ refl e in
    let p2 = passed (eqb (input % size) 0) BAD_BLOCK_LENGTH _ refl p1.1 in
    let p3 = passed (eqb output input) BAD_OUTPUT_LENGTH DONE refl p2.1 in
    (eqb-true key 16 p1.0, eqb-true (input % size) 0 p2.0, eqb-true output input p3.0)
