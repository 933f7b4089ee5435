-- Any round words at all, in four theorems: which pairs words stand for, what the calls do by them, that undoing gives back every block, and that no two keys share their words.
-- What holds of keys follows, at the end. Words are numbers of 32 bits each (`Words32`), as a slice of u32 has them; pairs likewise, as a row of V and U.
use mathlib.Core.Path.{◌≡◌, sym, ap, ◌∙◌}
use mathlib.Core.Bool.{Bool, true, false, not}
use mathlib.Core.List.{List}
use Prim.Native.Nat.{ℕ, suc, ◌*◌, ◌/◌, ◌%◌, ◌<◌}
use lib.Dec.{lit<}
use lib.ListN.{length, get_or}
use Rattle.published.specs.Bytes.{Bytes}
use Rattle.published.specs.Rounds.{Pair}
use Rattle.published.specs.Seen.{is_order, seen}
use Rattle.published.specs.Gift128.{rounds_all, encrypted, decrypted}
use Rattle.published.proofs.Gift128.{rounds_all_lt, all_undone}
use Rattle.published.proofs.Seen.{seen_again}
use Rattle.round_words.specs.Arranged.{arranged, stands, words_from, pairs_from, in_row, of_row}
use Rattle.round_words.proofs.Keeping.{Words32, forty, length-words, fit_pairs, fit_words, pairs-words, words-pairs}
use Rattle.round_words.proofs.Rows.{pair_row, word_row}
use Rattle.key_schedule.specs.Expand.{expanded}
use Rattle.key_schedule.proofs.Expanded.{pairs_of_expanded}
use Rattle.key_schedule.proofs.EqualKeys.{equal_pairs_equal_keys}
use Rattle.gift128.specs.Calls.{rounds_by, CiphersByWordsIn}
use Rattle.gift128.proofs.Answers.{not_refused}
use Rattle.gift128.proofs.Blocks.{crossed-key}

-- 1. Every eighty words stand for exactly one list of forty pairs, and every forty pairs for exactly one eighty words.

module _ (ws : List ℕ) (eighty : length ws ≡ 80) (fit : Words32 ws) where
  -- they stand for forty pairs of 32 bits, which are kept as these words; and for no other pairs
  pub words_stand_for_pairs : (length (pairs_from 0 ws) ≡ 40) × Words32 (in_row (pairs_from 0 ws)) × (words_from 0 (pairs_from 0 ws) ≡ ws)
  words_stand_for_pairs = (forty ws eighty, fit_pairs 0 ws, words-pairs ws eighty fit)

  pub words_stand_for_no_other_pairs : (ps : List Pair) → Words32 (in_row ps) → words_from 0 ps ≡ ws → ps ≡ pairs_from 0 ws
  words_stand_for_no_other_pairs ps f e = sym (pairs-words 0 ps (lit< tt) f) ∙ ap (pairs_from 0) e

module _ (ps : List Pair) (forty-pairs : length ps ≡ 40) (fit : Words32 (in_row ps)) where
  -- they are kept as eighty words of 32 bits, which stand for these pairs; and as no other words
  pub pairs_are_kept_as_words : (length (words_from 0 ps) ≡ 80) × Words32 (words_from 0 ps) × (pairs_from 0 (words_from 0 ps) ≡ ps)
  pairs_are_kept_as_words = (length-words 0 ps ∙ ap (◌*◌ 2) forty-pairs, fit_words 0 ps, pairs-words 0 ps (lit< tt) fit)

  pub pairs_are_kept_as_no_other_words : (ws : List ℕ) → length ws ≡ 80 → Words32 ws → pairs_from 0 ws ≡ ps → ws ≡ words_from 0 ps
  pairs_are_kept_as_no_other_words ws eighty f e = sym (words-pairs ws eighty f) ∙ ap (words_from 0) e

-- round by round, V of round r at place 2r and U at 2r + 1: each word stands alone, in the arrangement of its round
pub round_by_round : (ws : List ℕ) (i : ℕ) → length ws ≡ 80 → i < 80 → get_or (in_row (pairs_from 0 ws)) i 0 ≡ stands (suc (i / 2 % 5)) (get_or ws i 0)
round_by_round = pair_row

pub round_by_round_back : (row : List ℕ) (i : ℕ) → length row ≡ 80 → i < 80 → get_or (words_from 0 (of_row row)) i 0 ≡ arranged (suc (i / 2 % 5)) (get_or row i 0)
round_by_round_back = word_row

-- 2. What a call by eighty words leaves of a block of sixteen bytes, in either order: the published rounds by the pairs that the words stand for, done or undone. It is never refused.
pub rounds_by_words_are_published_rounds : (back : Bool) (order : ℕ) (ws block : List ℕ) (ps : List Pair) {r : ℕ} {left : List ℕ} → is_order order ≡ true → length ws ≡ 80 → length block ≡ 16
    → Words32 (in_row ps) → words_from 0 ps ≡ ws → CiphersByWordsIn back order ws block r left → (r ≡ 0) × (left ≡ seen order (rounds_all back ps) block)
rounds_by_words_are_published_rounds back order ws block ps o w b f e g =
    let done = not_refused order ws block o w b g in
    (done.0, done.1 ∙ ap (λ (qs : List Pair). seen order (rounds_all back qs) block) (ap (pairs_from 0) (sym e) ∙ pairs-words 0 ps (lit< tt) f))

-- 3. Undoing by the same words gives back every block, and so does doing what was undone; in either order.
module _ (order : ℕ) (ws block : List ℕ) (len : length block ≡ 16) (h : Bytes block) where
  either_way : (back : Bool) → seen order (rounds_by (not back) ws) (seen order (rounds_by back ws) block) ≡ block
  either_way back = seen_again order (rounds_by back ws) (rounds_by (not back) ws) (rounds_all_lt back (pairs_from 0 ws)) (all_undone back (pairs_from 0 ws)) block len h

  pub undoing_gives_back_every_block : seen order (rounds_by true ws) (seen order (rounds_by false ws) block) ≡ block
  undoing_gives_back_every_block = either_way false

  pub doing_gives_back_what_was_undone : seen order (rounds_by false ws) (seen order (rounds_by true ws) block) ≡ block
  doing_gives_back_what_was_undone = either_way true

-- 4. Two keys that give the same eighty words are equal.
pub keys_with_the_same_words_are_equal : (key key' : List ℕ) → length key ≡ 16 → length key' ≡ 16 → Bytes key → Bytes key' → expanded key ≡ expanded key' → key ≡ key'
keys_with_the_same_words_are_equal key key' len len' h h' e =
    equal_pairs_equal_keys key key' len len' h h' (sym (pairs_of_expanded key) ∙ ap (pairs_from 0) e ∙ pairs_of_expanded key')

-- ---- keys: what holds of a key is what holds of its words

module _ (key block : List ℕ) (len : length block ≡ 16) (h : Bytes block) where
  pub decrypted-encrypted : decrypted key (encrypted key block) ≡ block
  unfolding encrypted decrypted
  decrypted-encrypted =
      sym (ap (seen 0 (rounds_by true (expanded key))) (crossed-key 0 false key block) ∙ crossed-key 0 true key (encrypted key block))
      ∙ undoing_gives_back_every_block 0 (expanded key) block len h

  pub encrypted-decrypted : encrypted key (decrypted key block) ≡ block
  unfolding encrypted decrypted
  encrypted-decrypted =
      sym (ap (seen 0 (rounds_by false (expanded key))) (crossed-key 0 true key block) ∙ crossed-key 0 false key (decrypted key block))
      ∙ doing_gives_back_what_was_undone 0 (expanded key) block len h
