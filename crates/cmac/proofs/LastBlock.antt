-- The last block, as the code makes it: full or padded, and with its key.
use mathlib.Core.Path.{◌≡◌, refl, sym, ap, ◌∙◌}
use mathlib.Core.Bool.{Bool, true, false, cond}
use mathlib.Core.List.{List, [], ◌∷◌, ◌++◌, append_assoc, append-nil}
use Prim.Native.Nat.{ℕ, ◌+◌, ◌-◌, ◌≤◌}
use native.Mathlib.Nat.{le_of_eq}
use native.Mathlib.Omega.{arith}
use lib.Dec.{eqb}
use lib.ListN.{length, take, replicate, length-append}
use lib.Seq.{length-take-le, take_all}
use borrow.Author.Tests.{eqb-true}
use Rattle.cmac_parts.specs.Standard.{◌⊕◌, K1, K2, padded, last_block}
use Rattle.cmac.specs.Calls.{kept}

-- a full block is kept as it is
pub kept_whole : (m : List ℕ) → length m ≡ 16 → kept m ≡ m
kept_whole m e = ap (λ (n : ℕ). m ++ replicate (16 - n) 0) e ∙ append-nil m

-- a 1 bit kept after the bytes is the padding
pub padded_is : (m : List ℕ) → kept (m ++ (128 ∷ [])) ≡ padded m
unfolding padded
padded_is m =
    append_assoc m (128 ∷ []) (replicate (16 - length (m ++ (128 ∷ []))) 0)
    ∙ ap (λ (n : ℕ). m ++ (128 ∷ replicate n 0)) (ap (λ (n : ℕ). 16 - n) (length-append m (128 ∷ [])) ∙ less (length m))
  where
    less : (n : ℕ) → 16 - (n + 1) ≡ 15 - n
    less n = omega arith

-- the key and the bytes, each by whether the block is full
pub last_is : (ciph : List ℕ → List ℕ) (held : List ℕ) (count : ℕ) → length held ≡ 16 → count ≤ 16
    → cond (eqb count 16) (K1 ciph) (K2 ciph) ⊕ cond (eqb count 16) held (padded (take count held)) ≡ last_block ciph (take count held)
unfolding last_block
last_is ciph held count len h = go (eqb count 16) refl ∙ ap (λ (n : ℕ). cond (eqb n 16) (K1 ciph ⊕ take count held) (K2 ciph ⊕ padded (take count held))) (sym size)
  where
    size : length (take count held) ≡ count
    size = length-take-le count held (omega arith)

    go : (t : Bool) → eqb count 16 ≡ t
        → cond (eqb count 16) (K1 ciph) (K2 ciph) ⊕ cond (eqb count 16) held (padded (take count held)) ≡ cond (eqb count 16) (K1 ciph ⊕ take count held) (K2 ciph ⊕ padded (take count held))
    go true e = rw e (ap (λ (l : List ℕ). K1 ciph ⊕ l) (sym (take_all count held (le_of_eq (len ∙ sym (eqb-true count 16 e))))))
    go false e = rw e
