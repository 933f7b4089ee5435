-- A group: loaded, taken through the rounds, saved; by any masks, and by those of eighty words.
use mathlib.Core.Path.{◌≡◌, sym, ap, ap₂, ◌∙◌}
use mathlib.Core.Bool.{Bool, true}
use mathlib.Core.List.{List}
use Prim.Native.Nat.{ℕ, ◌<◌}
use lib.ListN.{length}
use Rattle.published.specs.Blocks.{each_of, joined}
use Rattle.published.specs.Gift128.{rounds_all}
use Rattle.published.specs.Rounds.{Pair}
use Rattle.published.specs.Seen.{read_in, write_in, seen}
use Rattle.published.proofs.Groups.{joined_cong, each_joined}
use Rattle.round_words.specs.Arranged.{pairs_from}
use Rattle.turning.specs.Slices.{lane, block_at, whole}
use Rattle.slices.specs.InnerMasks.{masks_of, pairs_in, by_masks}
use Rattle.slices.specs.Inner.{Lanes}
use Rattle.slices.proofs.Keys.{pairs_are}

pub group_made : (order : ℕ) (back : Bool) (masks input x y out : List ℕ) → ((b : ℕ) → b < 64 → lane x b ≡ read_in order (block_at input b))
    → Lanes (λ b. rounds_all back (pairs_in masks b 40 0)) x y → out ≡ joined 64 (λ b. write_in order (lane y b)) → out ≡ by_masks order back masks input
group_made order back masks input x y out loaded done saved =
    saved
    ∙ joined_cong 64 (λ b. write_in order (lane y b)) (λ b. seen order (rounds_all back (pairs_in masks b 40 0)) (block_at input b))
    (λ b h. ap (write_in order) (done.lanes b h ∙ ap (rounds_all back (pairs_in masks b 40 0)) (loaded b h)))

pub group_by_words : (order : ℕ) (back : Bool) (masks input words : List ℕ) → length words ≡ 80 → masks ≡ masks_of words
    → by_masks order back masks input ≡ each_of 16 (seen order (rounds_all back (pairs_from 0 words))) 64 input
group_by_words order back masks input words len is =
    joined_cong 64 (λ b. seen order (rounds_all back (pairs_in masks b 40 0)) (block_at input b)) (λ b. seen order (rounds_all back (pairs_from 0 words)) (block_at input b))
    (λ b h. ap (λ (ps : List Pair). seen order (rounds_all back ps) (block_at input b)) (pairs_are words masks is b h len))
    ∙ sym (each_joined 16 (seen order (rounds_all back (pairs_from 0 words))) 64 input)

pub fits_whole : (bytes words : ℕ) → bytes ≡ 1024 → words ≡ 128 → whole bytes words ≡ true
fits_whole bytes words e f = ap₂ whole e f
