-- Eight bytes and then eight, put into a block.
use mathlib.Core.Path.{◌≡◌, ap, ap₂, ◌∙◌}
use mathlib.Core.List.{List, ◌++◌, append-nil}
use Prim.Native.Nat.{ℕ, ◌-◌}
use native.Mathlib.Nat.{le_of_eq}
use native.Mathlib.Omega.{arith}
use lib.ListN.{length, drop, length-append, length-drop, drop_of_length-le}
use lib.Seq.{take_at, drop_at, drop-drop}
use borrow.Rule.Slice.PartMut.{put_mid}

pub laid : (a b block x y : List ℕ) → length a ≡ 8 → length block ≡ 16 → x ≡ a → y ≡ b → put_mid 8 (length (x ++ drop 8 block) - 8) (x ++ drop 8 block) y ≡ a ++ b
laid a b block x y la lb ex ey =
    ap₂ (λ (f e : List ℕ). put_mid 8 (length (f ++ drop 8 block) - 8) (f ++ drop 8 block) e) ex ey
    ∙ ap (λ (n : ℕ). put_mid 8 n (a ++ drop 8 block) b) eight
    ∙ ap₂ (λ (f e : List ℕ). f ++ (b ++ e)) (take_at a (drop 8 block) 8 la) (ap (drop 8) (drop_at a (drop 8 block) 8 la) ∙ drop-drop 8 8 block ∙ drop_of_length-le block (le_of_eq lb))
    ∙ ap (λ (e : List ℕ). a ++ e) (append-nil b)
  where
    eight : length (a ++ drop 8 block) - 8 ≡ 8
    eight = simp (length-append, length-drop) (omega arith)
