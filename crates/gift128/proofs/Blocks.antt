-- A block packed, taken through rounds and unpacked; and round words that come from a key.
use mathlib.Core.Path.{◌≡◌, ap, ◌∙◌}
use mathlib.Core.Bool.{Bool, true}
use mathlib.Core.List.{List}
use Prim.Native.Nat.{ℕ, ◌^◌, ◌<◌}
use lib.Dec.{lit≤}
use lib.ListN.{length, take, replicate}
use borrow.Author.Tests.{le-leb}
use Rattle.answers.specs.Order.{if_done}
use Rattle.bits.proofs.Computed.{cond-true}
use Rattle.published.specs.Bytes.{Bytes}
use Rattle.published.specs.Seen.{is_order, read_in, write_in, seen}
use Rattle.published.specs.Rounds.{Pair}
use Rattle.published.specs.Gift128.{pairs_of, rounds128, rounds_all}
use Rattle.published.proofs.Gift128.{rounds_all_lt}
use Rattle.published.proofs.Seen.{orders}
use Rattle.primitives.specs.Packed.{block_of, state_of}
use Rattle.primitives.specs.declared.State.{State}
use Rattle.primitives.proofs.Blocks.{block_of_state_of}
use Rattle.round_words.specs.Arranged.{pairs_from}
use Rattle.round_words.proofs.Keeping.{first_pair}
use Rattle.packing.specs.Packing.{packed, unpacked}
use Rattle.packing.proofs.Inverse.{packed-block, unpacked-block}
use Rattle.quintuple.specs.Quintuple.{first_round}
use Rattle.key_schedule.specs.Expand.{expand_code, expanded}
use Rattle.key_schedule.proofs.Expanded.{pairs_of_expanded, length-expanded}
use Rattle.gift128.specs.Calls.{rounds_by}

-- what f does to the state, the call does to the bytes, seen through their order
module _ (order : ℕ) (o : is_order order ≡ true) where
  pub through : (f : ℕ → ℕ) (s t : State) (input output e : List ℕ) → ((x : ℕ) → x < 2 ^ 128 → f x < 2 ^ 128) → length input ≡ 16 → Bytes input → length output ≡ 16
      → s ≡ packed order input → t ≡ state_of (f (block_of s)) → e ≡ unpacked order t output → e ≡ seen order f input
  through f s t input output e f_lt len h len' packs goes unpacks =
      let x : ℕ = read_in order input in
      let x_lt : x < 2 ^ 128 = (orders order).block input len h in
      let read : block_of s ≡ x = ap block_of (packs ∙ packed-block order input o len) ∙ block_of_state_of x x_lt in
      unpacks ∙ unpacked-block order t output o len'
      ∙ ap (write_in order) (ap block_of (goes ∙ ap (λ (y : ℕ). state_of (f y)) read) ∙ block_of_state_of (f x) (f_lt x x_lt))

  -- the same by round words, either way: e stands in the output
  pub crossing : (back : Bool) (ws : List ℕ) (s t : State) (input output e : List ℕ) → length input ≡ 16 → Bytes input → length output ≡ 16
      → s ≡ packed order input → t ≡ state_of (rounds_by back ws (block_of s)) → e ≡ unpacked order t output → e ≡ seen order (rounds_by back ws) input
  crossing back ws s t input output e len h len' packs goes unpacks =
      through (rounds_by back ws) s t input output e (rounds_all_lt back (pairs_from 0 ws)) len h len' packs goes unpacks

-- by the words of a key it is the published cipher
pub crossed-key : (order : ℕ) (back : Bool) (key block : List ℕ) → seen order (rounds_by back (expanded key)) block ≡ seen order (rounds_all back (pairs_of key)) block
crossed-key order back key block = ap (λ (ps : List Pair). seen order (rounds_all back ps) block) (pairs_of_expanded key)

-- eighty zeros lent to expansion by a good key become the key's words
pub filled : (key : List ℕ) → length key ≡ 16 → if_done (expand_code (length key) 80) (expanded key) (replicate 80 0) ≡ expanded key
unfolding expand_code
filled key k = rw k

-- round 1 by the words of a key
pub first_of_key : (key : List ℕ) (s : State) → first_round s (expanded key) ≡ state_of (rounds128 (take 1 (pairs_of key)) 0 (block_of s))
unfolding first_round
first_of_key key s =
    cond-true _ _ _ (le-leb 2 (length (expanded key)) (rw length-expanded (lit≤ tt)))
    ∙ ap (λ (ps : List Pair). state_of (rounds128 ps 0 (block_of s))) (first_pair (expanded key) ∙ ap (take 1) (pairs_of_expanded key))
