-- Round words and the pairs that they stand for: two words for each pair, five pairs for each quintuple.
use mathlib.Core.Path.{◌≡◌, refl, sym, ap, ap₂, ◌∙◌}
use mathlib.Core.List.{List, [], ◌∷◌}
use Prim.Native.Nat.{ℕ, zero, suc, ◌+◌, ◌*◌, ◌%◌, ◌^◌, ◌<◌, suc-le-suc}
use native.Mathlib.Nat.{mod-lt}
use native.Mathlib.Omega.{arith}
use lib.Dec.{lit<}
use lib.ListN.{length, take, drop, get_or}
use lib.Seq.{drop-drop}
use Rattle.published.specs.Rounds.{Pair}
use Rattle.round_words.specs.Arranged.{stands, words_from, pairs_from, in_row}
use Rattle.round_words.proofs.Arrangements.{arranged-lt, stands_lt, stands_arranged, arranged_stands}

abbrev pub double : ℕ → ℕ
double zero = 0
double (suc j) = suc (suc (double j))

abbrev nexts : ℕ → ℕ → ℕ
nexts zero k = k
nexts (suc j) k = nexts j (suc k % 5)

pairs-take : (j k : ℕ) (ws : List ℕ) → pairs_from k (take (double j) ws) ≡ take j (pairs_from k ws)
unfolding pairs_from
pairs-take zero k ws = refl
pairs-take (suc j) k [] = refl
pairs-take (suc j) k (v ∷ []) = refl
pairs-take (suc j) k (v ∷ u ∷ ws) =
    ap (λ (ps : List Pair). record { u = stands (suc k) u; v = stands (suc k) v } ∷ ps) (pairs-take j (suc k % 5) ws)

pairs-drop : (j k : ℕ) (ws : List ℕ) → pairs_from (nexts j k) (drop (double j) ws) ≡ drop j (pairs_from k ws)
unfolding pairs_from
pairs-drop zero k ws = refl
pairs-drop (suc j) k [] = refl
pairs-drop (suc j) k (v ∷ []) = refl
pairs-drop (suc j) k (v ∷ u ∷ ws) = pairs-drop j (suc k % 5) ws

length_pairs : (j k : ℕ) (ws : List ℕ) → length ws ≡ double j → length (pairs_from k ws) ≡ j
unfolding pairs_from
length_pairs zero k [] e = refl
length_pairs zero k (v ∷ ws) e = omega arith
length_pairs (suc j) k [] e = omega arith
length_pairs (suc j) k (v ∷ []) e = omega arith
length_pairs (suc j) k (v ∷ u ∷ ws) e = ap suc (length_pairs j (suc k % 5) ws (omega arith))

-- eighty words stand for forty pairs
pub forty : (ws : List ℕ) → length ws ≡ 80 → length (pairs_from 0 ws) ≡ 40
forty ws e = length_pairs 40 0 ws e

-- the words from quintuple t on stand for the pairs from it on, and its ten words for its five pairs
pairs_from_lem : (t : ℕ) (ws : List ℕ) → pairs_from 0 (drop (2 * (5 * t)) ws) ≡ drop (5 * t) (pairs_from 0 ws)
pairs_from_lem zero ws = refl
pairs_from_lem (suc t) ws =
    let two : 2 * (5 * suc t) ≡ 2 * (5 * t) + 10 = omega arith in
    let five : 5 * suc t ≡ 5 * t + 5 = omega arith in
    ap (λ (i : ℕ). pairs_from 0 (drop i ws)) two
    ∙ ap (pairs_from 0) (sym (drop-drop 10 (2 * (5 * t)) ws))
    ∙ pairs-drop 5 0 (drop (2 * (5 * t)) ws)
    ∙ ap (drop 5) (pairs_from_lem t ws)
    ∙ drop-drop 5 (5 * t) (pairs_from 0 ws)
    ∙ ap (λ (i : ℕ). drop i (pairs_from 0 ws)) (sym five)

pub first_pair : (ws : List ℕ) → pairs_from 0 (take 2 ws) ≡ take 1 (pairs_from 0 ws)
first_pair ws = pairs-take 1 0 ws

pub five_pairs : (t : ℕ) (ws : List ℕ) → pairs_from 0 (take 10 (drop (2 * (5 * t)) ws)) ≡ take 5 (drop (5 * t) (pairs_from 0 ws))
five_pairs t ws = pairs-take 5 0 (drop (2 * (5 * t)) ws) ∙ ap (take 5) (pairs_from_lem t ws)

-- ---- words made of pairs, any pairs

pub length-words : (k : ℕ) (ps : List Pair) → length (words_from k ps) ≡ 2 * length ps
unfolding words_from
length-words k [] = refl
length-words k (p ∷ ps) = omega (arith, length-words (suc k % 5) ps)

-- numbers of 32 bits each: words, or pairs in a row
abbrev pub Words32 : List ℕ → Type 0
Words32 ns = (i : ℕ) → get_or ns i 0 < 2 ^ 32

-- what is kept stands for what it was made of
pub pairs-words : (k : ℕ) (ps : List Pair) → k < 5 → Words32 (in_row ps) → pairs_from k (words_from k ps) ≡ ps
unfolding words_from pairs_from in_row
pairs-words k [] h f = refl
pairs-words k (p ∷ ps) h f =
    ap₂ (λ (q : Pair) (qs : List Pair). q ∷ qs)
    (λ i. record { u = stands_arranged (suc k) p.u (suc-le-suc h) (f 1) i; v = stands_arranged (suc k) p.v (suc-le-suc h) (f 0) i })
    (pairs-words (suc k % 5) ps (mod-lt (suc k) (lit< tt)) (λ i. f (suc (suc i))))

pub fit_words : (k : ℕ) (ps : List Pair) → Words32 (words_from k ps)
unfolding words_from
fit_words k [] i = lit< tt
fit_words k (p ∷ ps) zero = arranged-lt (suc k) p.v
fit_words k (p ∷ ps) (suc zero) = arranged-lt (suc k) p.u
fit_words k (p ∷ ps) (suc (suc i)) = fit_words (suc k % 5) ps i

-- ---- any words

-- what words stand for has 32 bits, and is kept as those words
pub fit_pairs : (k : ℕ) (ws : List ℕ) → Words32 (in_row (pairs_from k ws))
unfolding in_row pairs_from
fit_pairs k [] i = lit< tt
fit_pairs k (v ∷ []) i = lit< tt
fit_pairs k (v ∷ u ∷ ws) zero = stands_lt (suc k) v
fit_pairs k (v ∷ u ∷ ws) (suc zero) = stands_lt (suc k) u
fit_pairs k (v ∷ u ∷ ws) (suc (suc i)) = fit_pairs (suc k % 5) ws i

-- an odd number of words, and none, are not two for each pair
not_none : (n : ℕ) → suc n ≡ 0 → ⊥
not_none n e = omega arith

not_odd : (n : ℕ) → 1 ≡ suc (suc n) → ⊥
not_odd n e = omega arith

kept_words : (j k : ℕ) (ws : List ℕ) → k < 5 → length ws ≡ double j → Words32 ws → words_from k (pairs_from k ws) ≡ ws
unfolding words_from pairs_from
kept_words j k [] h e f = refl
kept_words zero k (v ∷ ws) h e f = absurd (not_none (length ws) e)
kept_words (suc j) k (v ∷ []) h e f = absurd (not_odd (double j) e)
kept_words (suc j) k (v ∷ u ∷ ws) h e f =
    ap₂ (λ (a : ℕ) (l : List ℕ). a ∷ l) (arranged_stands (suc k) v (suc-le-suc h) (f 0))
    (ap₂ (λ (a : ℕ) (l : List ℕ). a ∷ l) (arranged_stands (suc k) u (suc-le-suc h) (f 1)) (kept_words j (suc k % 5) ws (mod-lt (suc k) (lit< tt)) (omega arith) (λ i. f (suc (suc i)))))

pub words-pairs : (ws : List ℕ) → length ws ≡ 80 → Words32 ws → words_from 0 (pairs_from 0 ws) ≡ ws
words-pairs ws e f = kept_words 40 0 ws (lit< tt) e f
