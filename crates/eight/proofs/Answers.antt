-- What the tests of groups told.
use mathlib.Core.Path.{◌≡◌}
use mathlib.Core.Bool.{Bool, true, ◌&&◌}
use Prim.Native.Nat.{ℕ, ◌%◌, ◌≤◌}
use lib.Dec.{eqb, leb}
use borrow.Author.Tests.{eq-eqb, eqb-true, le-leb, leb-true}
use Rattle.std.proofs.lemmas.Bool.{and_from}
use Rattle.bits.proofs.Truth.{both}
use Rattle.published.specs.Seen.{is_order}
use Rattle.eight.specs.Groups.{in_groups}

module _ (order words input output : ℕ) where
  abbrev after_words : Bool
  after_words = eqb (input % 16) 0 && (leb 64 input && eqb output input)

  pub grouped : in_groups order words input output ≡ true → (is_order order ≡ true) × (words ≡ 80) × (input % 16 ≡ 0) × (64 ≤ input) × (output ≡ input)
  grouped e =
      let p1 = both (is_order order) (eqb words 80 && after_words) e in
      let p2 = both (eqb words 80) after_words p1.1 in
      let p3 = both (eqb (input % 16) 0) (leb 64 input && eqb output input) p2.1 in
      let p4 = both (leb 64 input) (eqb output input) p3.1 in
      (p1.0, eqb-true words 80 p2.0, eqb-true (input % 16) 0 p3.0, leb-true 64 input p4.0, eqb-true output input p4.1)

  pub are_grouped : is_order order ≡ true → words ≡ 80 → input % 16 ≡ 0 → 64 ≤ input → output ≡ input → in_groups order words input output ≡ true
  are_grouped o w i f u =
      and_from _ _ o (and_from _ _ (eq-eqb words 80 w) (and_from _ _ (eq-eqb (input % 16) 0 i) (and_from _ _ (le-leb 64 input f) (eq-eqb output input u))))
