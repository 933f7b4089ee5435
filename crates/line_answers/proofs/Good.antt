-- What a good line is known to have.
use mathlib.Core.Path.{◌≡◌, refl}
use mathlib.Core.Bool.{Bool, true, false}
use mathlib.Core.List.{List}
use Prim.Native.Nat.{ℕ, ◌≤◌}
use native.Mathlib.Omega.{arith}
use lib.ListN.{length, take, drop, get_or, length-take, length-drop}
use borrow.Author.Tests.{eqb-true, eq-eqb}
use Rattle.text.specs.Hex.{all_hex}
use Rattle.line_answers.specs.Line.{is_letter, is_good, key_text, block_text}
use Rattle.line_answers.proofs.Numerals.{both}

pub record Good (line : List ℕ) : Type 0 where
  pub long : length line ≡ 67
  pub letter : is_letter (get_or line 0 0) ≡ true
  pub first : get_or line 1 0 ≡ 32
  pub second : get_or line 34 0 ≡ 32
  pub key : all_hex (key_text line) ≡ true
  pub block : all_hex (block_text line) ≡ true

pub good : (line : List ℕ) → is_good line ≡ true → Good line
unfolding is_good
good line e =
    let e5 = both _ _ e in
    let e4 = both _ _ e5.0 in
    let e3 = both _ _ e4.0 in
    let e2 = both _ _ e3.0 in
    let e1 = both _ _ e2.0 in
    record { long = eqb-true _ _ e1.0; letter = e1.1; first = eqb-true _ _ e2.1; second = eqb-true _ _ e3.1; key = e4.1; block = e5.1 }

-- and a line that has it is good
pub all_good : (line : List ℕ) → Good line → is_good line ≡ true
unfolding is_good
all_good line g = rw (eq-eqb _ _ g.long, g.letter, eq-eqb _ _ g.first, eq-eqb _ _ g.second, g.key) g.block

-- a line that cannot be good is not
pub bad : (line : List ℕ) → (Good line → ⊥) → is_good line ≡ false
bad line h = go (is_good line) refl
  where
    go : (t : Bool) → is_good line ≡ t → t ≡ false
    go true e = absurd (h (good line e))
    go false e = refl

-- the two texts have 32 digits
pub length_part : (line : List ℕ) (i : ℕ) → length line ≡ 67 → i ≤ 35 → length (take 32 (drop i line)) ≡ 32
length_part line i e h = simp (length-take, length-drop) (omega arith)
