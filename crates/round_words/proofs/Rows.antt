-- Pairs in a row: each as the other, and both maps place by place.
use mathlib.Core.Path.{◌≡◌, refl, sym, ap, ap₂, ◌∙◌}
use mathlib.Core.Bool.{Bool, true, false, cond}
use mathlib.Core.List.{List, [], ◌∷◌}
use Prim.Native.Nat.{ℕ, zero, suc, ◌+◌, ◌*◌, ◌/◌, ◌%◌, ◌<◌}
use native.Mathlib.Omega.{arith}
use lib.Dec.{eqb}
use lib.ListN.{length, get_or}
use borrow.Author.Tests.{eqb-true}
use Rattle.answers.specs.Numbers.{DONE, BAD_OUTPUT_LENGTH, BAD_WORD_COUNT}
use Rattle.answers.specs.Order.{if_done}
use Rattle.answers.proofs.Passed.{passed}
use Rattle.published.specs.Rounds.{Pair}
use Rattle.round_words.specs.Arranged.{arranged, stands, words_from, pairs_from, in_row, of_row}
use Rattle.round_words.specs.Calls.{row_code}
use Rattle.round_words.specs.Inner.{place_in, mapped, rearranged}
use Rattle.round_words.proofs.Arrangements.{stands_is}
use Rattle.round_words.proofs.Keeping.{double}

pub of_in_row : (ps : List Pair) → of_row (in_row ps) ≡ ps
unfolding in_row of_row
of_in_row [] = refl
of_in_row (p ∷ ps) = ap (λ (qs : List Pair). p ∷ qs) (of_in_row ps)

-- numbers two by two
abbrev Twos : List ℕ → Type 0
Twos [] = Unit {0}
Twos (v ∷ []) = ⊥
Twos (v ∷ u ∷ ns) = Twos ns

twos : (j : ℕ) (ns : List ℕ) → length ns ≡ double j → Twos ns
twos j [] e = tt
twos zero (v ∷ []) e = omega arith
twos (suc j) (v ∷ []) e = omega arith
twos zero (v ∷ u ∷ ns) e = absurd (none e)
  where
    none : length (v ∷ u ∷ ns) ≡ 0 → ⊥
    none e = omega arith
twos (suc j) (v ∷ u ∷ ns) e = twos j ns (omega arith)

in_of_row : (ns : List ℕ) → Twos ns → in_row (of_row ns) ≡ ns
unfolding in_row of_row
in_of_row [] t = refl
in_of_row (v ∷ []) t = absurd t
in_of_row (v ∷ u ∷ ns) t = ap (λ (ms : List ℕ). v ∷ u ∷ ms) (in_of_row ns t)

-- eighty numbers are the row of forty pairs
pub eighty : (ns : List ℕ) → length ns ≡ 80 → in_row (of_row ns) ≡ ns
eighty ns e = in_of_row ns (twos 40 ns e)

-- ---- place by place

pub length-mapped : (f : ℕ → ℕ → ℕ) (i : ℕ) (xs : List ℕ) → length (mapped f i xs) ≡ length xs
unfolding mapped
length-mapped f i [] = refl
length-mapped f i (x ∷ xs) = ap suc (length-mapped f (suc i) xs)

get_or_mapped : (f : ℕ → ℕ → ℕ) (i : ℕ) (xs : List ℕ) (k : ℕ) → k < length xs → get_or (mapped f i xs) k 0 ≡ f (i + k) (get_or xs k 0)
unfolding mapped
get_or_mapped f i [] k h = omega arith
get_or_mapped f i (x ∷ xs) zero h = ap (λ (n : ℕ). f n x) (omega arith)
get_or_mapped f i (x ∷ xs) (suc k) h = get_or_mapped f (suc i) xs k (omega arith) ∙ ap (λ (n : ℕ). f n (get_or xs k 0)) (omega arith)

pub at_place : (back : Bool) (xs : List ℕ) (k : ℕ) → k < length xs → get_or (rearranged back xs) k 0 ≡ arranged (place_in back k) (get_or xs k 0)
unfolding rearranged
at_place back xs k h = get_or_mapped (λ i x. arranged (place_in back i) x) 0 xs k h ∙ ap (λ (i : ℕ). arranged (place_in back i) (get_or xs k 0)) (omega arith)

-- the maps of the definitions, which go pair by pair, go place by place: pair j of the row has the places 2j and 2j + 1
module _ (f : ℕ → ℕ → ℕ) where
  two_places : (j x y : ℕ) (k : ℕ) → k ≡ j % 5 → (f (2 * j / 2 % 5) x ≡ f k x) × (f (suc (2 * j) / 2 % 5) y ≡ f k y)
  two_places j x y k e = (ap (λ (n : ℕ). f n x) (omega arith), ap (λ (n : ℕ). f n y) (omega arith))

pairs-row : (j k : ℕ) (ws : List ℕ) → Twos ws → k ≡ j % 5 → in_row (pairs_from k ws) ≡ mapped (λ i x. stands (suc (i / 2 % 5)) x) (2 * j) ws
unfolding in_row pairs_from mapped
pairs-row j k [] t h = refl
pairs-row j k (v ∷ []) t h = absurd t
pairs-row j k (v ∷ u ∷ ws) t h =
    let next : 2 * suc j ≡ suc (suc (2 * j)) = omega arith in
    let here = two_places (λ n x. stands (suc n) x) j v u k h in
    ap₂ (λ (a : ℕ) (l : List ℕ). a ∷ l) (sym here.0)
    (ap₂ (λ (a : ℕ) (l : List ℕ). a ∷ l) (sym here.1)
    (pairs-row (suc j) (suc k % 5) ws t (omega arith) ∙ ap (λ (i : ℕ). mapped (λ i x. stands (suc (i / 2 % 5)) x) i ws) next))

words_row : (j k : ℕ) (ns : List ℕ) → Twos ns → k ≡ j % 5 → words_from k (of_row ns) ≡ mapped (λ i x. arranged (suc (i / 2 % 5)) x) (2 * j) ns
unfolding of_row words_from mapped
words_row j k [] t h = refl
words_row j k (v ∷ []) t h = absurd t
words_row j k (v ∷ u ∷ ns) t h =
    let next : 2 * suc j ≡ suc (suc (2 * j)) = omega arith in
    let here = two_places (λ n x. arranged (suc n) x) j v u k h in
    ap₂ (λ (a : ℕ) (l : List ℕ). a ∷ l) (sym here.0)
    (ap₂ (λ (a : ℕ) (l : List ℕ). a ∷ l) (sym here.1)
    (words_row (suc j) (suc k % 5) ns t (omega arith) ∙ ap (λ (i : ℕ). mapped (λ i x. arranged (suc (i / 2 % 5)) x) i ns) next))

-- eighty words, and forty pairs in a row
mapped_cong : (f g : ℕ → ℕ → ℕ) (i : ℕ) (xs : List ℕ) → ((n x : ℕ) → f n x ≡ g n x) → mapped f i xs ≡ mapped g i xs
unfolding mapped
mapped_cong f g i [] e = refl
mapped_cong f g i (x ∷ xs) e = ap₂ (λ (a : ℕ) (l : List ℕ). a ∷ l) (e i x) (mapped_cong f g (suc i) xs e)

pub pairs-told : (ws : List ℕ) → length ws ≡ 80 → rearranged true ws ≡ in_row (pairs_from 0 ws)
unfolding rearranged place_in
pairs-told ws e = sym (pairs-row 0 0 ws (twos 40 ws e) refl ∙ mapped_cong _ _ 0 ws (λ n x. stands_is (suc (n / 2 % 5)) x ∙ ap (λ (k : ℕ). arranged k x) (omega arith)))

pub words-told : (ns : List ℕ) → length ns ≡ 80 → rearranged false ns ≡ words_from 0 (of_row ns)
unfolding rearranged place_in
words-told ns e = sym (words_row 0 0 ns (twos 40 ns e) refl ∙ mapped_cong _ _ 0 ns (λ n x. ap (λ (k : ℕ). arranged k x) (omega arith)))

-- so each number of the row of pairs is what the word at its place stands for, and each word is made of the number at its place
pub pair_row : (ws : List ℕ) (i : ℕ) → length ws ≡ 80 → i < 80 → get_or (in_row (pairs_from 0 ws)) i 0 ≡ stands (suc (i / 2 % 5)) (get_or ws i 0)
unfolding place_in
pair_row ws i e h =
    ap (λ (l : List ℕ). get_or l i 0) (sym (pairs-told ws e)) ∙ at_place true ws i (rw e h) ∙ ap (λ (k : ℕ). arranged k (get_or ws i 0)) (omega arith)
    ∙ sym (stands_is (suc (i / 2 % 5)) (get_or ws i 0))

pub word_row : (row : List ℕ) (i : ℕ) → length row ≡ 80 → i < 80 → get_or (words_from 0 (of_row row)) i 0 ≡ arranged (suc (i / 2 % 5)) (get_or row i 0)
unfolding place_in
word_row row i e h =
    ap (λ (l : List ℕ). get_or l i 0) (sym (words-told row e)) ∙ at_place false row i (rw e h) ∙ ap (λ (k : ℕ). arranged k (get_or row i 0)) (omega arith)

pub length-rearranged : (back : Bool) (xs : List ℕ) → length (rearranged back xs) ≡ length xs
unfolding rearranged
length-rearranged back xs = length-mapped (λ i x. arranged (place_in back i) x) 0 xs

pub place-lt : (back : Bool) (i : ℕ) → place_in back i < 6
unfolding place_in
place-lt true i = omega arith
place-lt false i = omega arith

-- a call that is done has eighty of each
pub row-passed : (given out : ℕ) → row_code given out ≡ 0 → (given ≡ 80) × (out ≡ 80)
unfolding row_code
row-passed given out e =
    let p1 = passed (eqb given 80) BAD_WORD_COUNT _ refl e in
    let p2 = passed (eqb out given) BAD_OUTPUT_LENGTH DONE refl p1.1 in
    let all : given ≡ 80 = eqb-true given 80 p1.0 in
    (all, eqb-true out given p2.0 ∙ all)

-- what is left is what is meant, if it is so of eighty numbers
pub meant_left : (given out made meant : List ℕ) → (length given ≡ 80 → made ≡ meant)
    → if_done (row_code (length given) (length out)) made out ≡ if_done (row_code (length given) (length out)) meant out
meant_left given out made meant same = go (eqb (row_code (length given) (length out)) 0) refl
  where
    go : (t : Bool) → eqb (row_code (length given) (length out)) 0 ≡ t → cond t made out ≡ cond t meant out
    go true e = same (row-passed (length given) (length out) (eqb-true (row_code (length given) (length out)) 0 e)).0
    go false e = refl
