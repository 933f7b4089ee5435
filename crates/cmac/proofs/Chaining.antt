-- The chain and the blocks of a message: joined, counted, and one more.
use mathlib.Core.Path.{◌≡◌, refl, ap, ap₂, ◌∙◌}
use mathlib.Core.Bool.{Bool, cond}
use mathlib.Core.List.{List, [], ◌∷◌, ◌++◌}
use Prim.Native.Nat.{ℕ, zero, suc, ◌+◌, ◌-◌, ◌*◌, ◌/◌, ◌≤◌}
use native.Mathlib.Omega.{arith}
use lib.Dec.{eqb}
use lib.ListN.{length, take, drop, length-drop}
use lib.Seq.{drop-drop, drop-append-le, take-append-le}
use borrow.Author.Tests.{ne_eqb}
use Rattle.published.specs.Gift128.{encrypted}
use Rattle.published.proofs.Reading.{length_to_bytes}
use Rattle.cmac_parts.specs.Standard.{◌⊕◌, zero_block, block_count, before, blocks, past, last_block, chained, cmac}

-- ---- how many blocks are before the last

pub before_is : (m : List ℕ) → before m ≡ (length m - 1) / 16
unfolding block_count
before_is m = go (length m)
  where
    go : (n : ℕ) → cond (eqb n 0) 1 ((n + 15) / 16) - 1 ≡ (n - 1) / 16
    go zero = refl
    go (suc n) = ap (λ (t : Bool). cond t 1 ((suc n + 15) / 16) - 1) (ne_eqb (suc n) 0 (λ e. omega arith)) ∙ omega arith

-- ---- the blocks

-- a message in two parts, the first being of n blocks
pub blocks-add : (n k : ℕ) (m : List ℕ) → blocks (n + k) m ≡ blocks n m ++ blocks k (past n m)
unfolding blocks
blocks-add zero k m = ap (λ (i : ℕ). blocks i m) none
  where
    none : 0 + k ≡ k
    none = omega arith
blocks-add (suc n) k m =
    ap (λ (i : ℕ). blocks i m) more
    ∙ ap (λ (l : List (List ℕ)). take 16 m ∷ l) (blocks-add n k (drop 16 m) ∙ ap (λ (l : List ℕ). blocks n (drop 16 m) ++ blocks k l) (drop-drop (16 * n) 16 m ∙ ap (λ (i : ℕ). drop i m) next))
  where
    more : suc n + k ≡ suc (n + k)
    more = omega arith

    next : 16 + 16 * n ≡ 16 * suc n
    next = omega arith

-- what comes after them does not matter
pub blocks-front : (n : ℕ) (m q : List ℕ) → 16 * n ≤ length m → blocks n (m ++ q) ≡ blocks n m
unfolding blocks
blocks-front zero m q h = refl
blocks-front (suc n) m q h =
    ap₂ ◌∷◌ (take-append-le 16 m q (omega arith))
    (ap (blocks n) (drop-append-le 16 m q (omega arith)) ∙ blocks-front n (drop 16 m) q (rw length-drop (omega arith)))

-- ---- the chain

pub chained_append : (ciph : List ℕ → List ℕ) (c : List ℕ) (ms ns : List (List ℕ)) → chained ciph c (ms ++ ns) ≡ chained ciph (chained ciph c ms) ns
unfolding chained
chained_append ciph c [] ns = refl
chained_append ciph c (m ∷ ms) ns = chained_append ciph (ciph (c ⊕ m)) ms ns

-- ---- a tag has sixteen bytes

pub length-encrypted : (key b : List ℕ) → length (encrypted key b) ≡ 16
unfolding encrypted
length-encrypted key b = length_to_bytes 16 _

pub length-cmac : (ciph : List ℕ → List ℕ) (m : List ℕ) → ((b : List ℕ) → length (ciph b) ≡ 16) → length (cmac ciph m) ≡ 16
unfolding cmac chained
length-cmac ciph m h = ap length (chained_append ciph zero_block (blocks (before m) m) (last_block ciph (past (before m) m) ∷ [])) ∙ h _
