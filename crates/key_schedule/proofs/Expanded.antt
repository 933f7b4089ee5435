-- The eighty words of a key: that they stand for the published U, V of all forty rounds, how many they are, that each has 32 bits, and the tens that they are made of.
use mathlib.Core.Path.{◌≡◌, sym, ap, ap₂, ◌∙◌}
use mathlib.Core.List.{List, ◌++◌}
use Prim.Native.Nat.{ℕ, zero, suc, ◌*◌}
use lib.Dec.{lit<}
use lib.ListN.{length}
use Rattle.published.specs.Bytes.{from_bytes, Bytes}
use Rattle.published.specs.Key.{update, pairs}
use Rattle.published.specs.Gift128.{pair_of, pairs_of}
use Rattle.published.proofs.Gift128.{length_pairs}
use Rattle.round_words.specs.Arranged.{pairs_from, in_row}
use Rattle.round_words.proofs.Keeping.{Words32, length-words, pairs-words}
use Rattle.key_schedule.specs.declared.Twenty.{Twenty}
use Rattle.key_schedule.specs.Expand.{expanded}
use Rattle.key_schedule.specs.InnerTens.{Ten, first_words, five_rounds, five_later, ten_later, ten_further, words_of}
use Rattle.key_schedule.specs.InnerTwenty.{joined_tens, in_both_tens, words_in}
use Rattle.key_schedule.proofs.TenWords.{Small, small_five, small-later, small-further, words_in_lem, both_tens}
use Rattle.key_schedule.proofs.KeyState.{u-lt, v-lt, four_of, four-later, ten-further, following, tens_of}
use Rattle.key_schedule.proofs.KeyBytes.{first_words_are}
use Rattle.key_schedule.proofs.Parts.{twenties}

fit_pairs : (r k : ℕ) → Words32 (in_row (pairs pair_of r k))
unfolding pairs in_row
fit_pairs zero k i = lit< tt
fit_pairs (suc r) k zero = v-lt k
fit_pairs (suc r) k (suc zero) = u-lt k
fit_pairs (suc r) k (suc (suc i)) = fit_pairs r (update k) i

pub fit_key : (key : List ℕ) → Words32 (in_row (pairs_of key))
unfolding pairs_of
fit_key key = fit_pairs 40 (from_bytes key)

pub pairs_of_expanded : (key : List ℕ) → pairs_from 0 (expanded key) ≡ pairs_of key
unfolding expanded
pairs_of_expanded key = pairs-words 0 (pairs_of key) (lit< tt) (fit_key key)

pub length-expanded : (key : List ℕ) → length (expanded key) ≡ 80
unfolding expanded pairs_of
length-expanded key = length-words 0 (pairs_of key) ∙ ap (◌*◌ 2) (length_pairs pair_of 40 (from_bytes key))

-- ---- as the code makes it: the words of the first ten rounds, of ten rounds later, and, of each of these, of twenty rounds later

further-words : (s t : Ten) → Small s → words_in (in_both_tens ten_further (joined_tens s t)) ≡ words_of (ten_later (ten_later s)) ++ words_of (ten_later (ten_later t))
further-words s t h =
    ap words_in (both_tens s t h ten_further) ∙ words_in_lem (ten_further s) (ten_further t) (small-further s)
    ∙ ap₂ (λ (a b : Ten). words_of a ++ words_of b) (ten-further s) (ten-further t)

-- the eight tens that two are and that follow them
eight_tens : (s t : Ten) → Small s → twenties (joined_tens s t) ≡ words_of s ++ (words_of t ++ following 6 s t)
unfolding following
eight_tens s t h =
    let later : in_both_tens ten_later (joined_tens s t) ≡ joined_tens (ten_later s) (ten_later t) = both_tens s t h ten_later in
    let w0 = words_in_lem s t h in
    let w1 = ap words_in later ∙ words_in_lem (ten_later s) (ten_later t) (small-later s) in
    let w2 = further-words s t h in
    let w3 = ap (λ (x : Twenty). words_in (in_both_tens ten_further x)) later ∙ further-words (ten_later s) (ten_later t) (small-later s) in
    λ i. w0 i ++ (w1 i ++ (w2 i ++ w3 i))

pub twenties-expanded : (key : List ℕ) (t : Twenty) → length key ≡ 16 → Bytes key
    → t ≡ joined_tens (five_rounds (first_words key)) (five_rounds (five_later (first_words key))) → twenties t ≡ expanded key
unfolding expanded pairs_of
twenties-expanded key t len bytes e =
    let k : ℕ = from_bytes key in
    let first : first_words key ≡ four_of k = first_words_are key len bytes in
    ap twenties e ∙ eight_tens (five_rounds (first_words key)) (five_rounds (five_later (first_words key))) (small_five (first_words key))
    ∙ ap₂ (λ (a b : Ten). words_of a ++ (words_of b ++ following 6 a b)) (ap five_rounds first) (ap five_rounds (ap five_later first ∙ sym (four-later k)))
    ∙ sym (tens_of 6 k)
