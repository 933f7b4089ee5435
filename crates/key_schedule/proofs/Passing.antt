-- What an expansion that is done has passed.
use mathlib.Core.Path.{◌≡◌, refl}
use Prim.Native.Nat.{ℕ}
use lib.Dec.{eqb}
use borrow.Author.Tests.{eqb-true}
use Rattle.answers.specs.Numbers.{DONE, BAD_KEY_LENGTH, BAD_WORD_COUNT}
use Rattle.answers.proofs.Passed.{passed}
use Rattle.key_schedule.specs.Expand.{expand_code}

pub expand_passed : (key words : ℕ) → expand_code key words ≡ 0 → (key ≡ 16) × (words ≡ 80)
unfolding expand_code
expand_passed key words e =
    let p1 = passed (eqb key 16) BAD_KEY_LENGTH _ refl e in
    let p2 = passed (eqb words 80) BAD_WORD_COUNT DONE refl p1.1 in
    (eqb-true key 16 p1.0, eqb-true words 80 p2.0)
