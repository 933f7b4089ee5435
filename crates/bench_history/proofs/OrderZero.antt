-- In order 0, packing and unpacking answer, an opening is numbered, and a lane is opened, stands and yields as it was before there was another order. (Of the block calls
-- `gift128` says it: OrderZero there.) And order 1 of every block by it: a block by a key, by eighty words, and what a lane yields.
use mathlib.Core.Path.{◌≡◌, refl, ap}
use mathlib.Core.Bool.{Bool, true, false, cond, not}
use mathlib.Core.List.{List}
use Prim.Native.Nat.{ℕ, ◌-◌, ◌*◌, ◌≤◌}
use lib.Dec.{eqb, leb, ltb}
use lib.ListN.{length, take, drop}
use Rattle.answers.specs.Numbers.{DONE, BAD_KEY_LENGTH, BAD_BLOCK_LENGTH, BAD_LANE, LANE_NOT_IDLE, BAD_DIRECTION, BAD_BENCH, NOT_THE_OWNER}
use Rattle.answers.specs.Order.{unless}
use Rattle.published.specs.Bytes.{from_bytes, to_bytes, Bytes}
use Rattle.published.specs.Seen.{seen}
use Rattle.published.specs.Rounds.{Pair}
use Rattle.published.specs.Gift128.{pairs_of, rounds128, unrounds128, rounds_all, encrypted, decrypted}
use Rattle.published.proofs.Gift128.{block-lt, rounds_all_lt}
use Rattle.published.proofs.Seen.{inward, outward, permuted, order_1_by_0}
use Rattle.primitives.specs.declared.State.{State}
use Rattle.primitives.specs.Packed.{block_of, state_of}
use Rattle.packing.specs.Packing.{no_words, packed, unpacked}
use Rattle.gift128.specs.Calls.{new_words}
use Rattle.lane.specs.declared.Lane.{Lane}
use Rattle.lane.specs.Record.{idle, running}
use Rattle.lane_turns.specs.Turns.{opened, yielded}
use Rattle.bench_orders.specs.Orders.{lane_count, open_code}
use Rattle.bench_history.specs.Promises.{reached, answer}
use Rattle.bench_history.proofs.Quintuples.{reached_from_the_start}

pub packed_0 : (bs : List ℕ) → packed 0 bs ≡ cond (eqb (length bs) 16) (state_of (from_bytes bs)) no_words
unfolding packed
packed_0 bs = refl

pub unpacked_0 : (s : State) (out : List ℕ) → unpacked 0 s out ≡ cond (eqb (length out) 16) (to_bytes 16 (block_of s)) out
unfolding unpacked
unpacked_0 s out = refl

-- 10, 5, 6, 11, 9, 1, 2
pub open_number_0 : (sound : Bool) (lane phase owner direction key block : ℕ)
    → open_code sound lane phase owner direction 0 key block
    ≡ unless sound BAD_BENCH
    (unless (ltb lane lane_count) BAD_LANE
    (unless (eqb phase idle) LANE_NOT_IDLE
    (unless (not (eqb owner 0)) NOT_THE_OWNER
    (unless (leb direction 1) BAD_DIRECTION
    (unless (eqb key 16) BAD_KEY_LENGTH
    (unless (eqb block 16) BAD_BLOCK_LENGTH
    DONE))))))
unfolding open_code
open_number_0 sound lane phase owner direction key block = refl

pub opened_0 : (owner direction : ℕ) (key block : List ℕ)
    → opened owner direction 0 key block
    ≡ record {
      phase = running;
      direction = direction;
      owner = owner;
      count = 0;
      order = 0;
      words = new_words key;
      state = cond (eqb (length block) 16) (state_of (from_bytes block)) no_words;
    }
unfolding opened packed
opened_0 owner direction key block = refl

pub yielded_0 : (l : Lane) (out : List ℕ) → l.order ≡ 0 → yielded l out ≡ cond (eqb (length out) 16) (to_bytes 16 (block_of l.state)) out
unfolding yielded unpacked
yielded_0 l out e = ap (λ (o : ℕ). unpacked o l.state out) e

pub reached_0 : (owner direction : ℕ) (key block : List ℕ) → length key ≡ 16 → length block ≡ 16 → Bytes block → (t : ℕ) → t ≤ 8
    → reached direction (pairs_of key) 0 t (block_of (opened owner direction 0 key block).state)
    ≡ cond (eqb direction 0)
    (rounds128 (take (5 * t) (pairs_of key)) 0 (from_bytes block))
    (unrounds128 (drop (40 - 5 * t) (pairs_of key)) (40 - 5 * t) (from_bytes block))
reached_0 owner direction key block k b h = reached_from_the_start owner direction 0 key block (block-lt block b h) refl k b

pub answer_0 : (direction : ℕ) (key block : List ℕ) → answer direction 0 key block ≡ cond (eqb direction 0) (encrypted key block) (decrypted key block)
unfolding answer encrypted decrypted
answer_0 direction key block = refl

-- ---- order 1 by order 0: the block permuted by one fixed permutation of bits, and what comes of it permuted back

module _ (block : List ℕ) (len : length block ≡ 16) (h : Bytes block) where
  -- by any pairs: a key's, and those that eighty words stand for
  pub by_pairs_1 : (back : Bool) (ps : List Pair) → seen 1 (rounds_all back ps) block ≡ permuted outward (seen 0 (rounds_all back ps) (permuted inward block))
  by_pairs_1 back ps = order_1_by_0 (rounds_all back ps) (rounds_all_lt back ps) block len h

  pub answer_1 : (direction : ℕ) (key : List ℕ) → answer direction 1 key block ≡ permuted outward (answer direction 0 key (permuted inward block))
  unfolding answer
  answer_1 direction key = go (eqb direction 0)
    where
      go : (t : Bool) → cond t (seen 1 (rounds_all false (pairs_of key)) block) (seen 1 (rounds_all true (pairs_of key)) block)
          ≡ permuted outward
          (cond t (seen 0 (rounds_all false (pairs_of key)) (permuted inward block)) (seen 0 (rounds_all true (pairs_of key)) (permuted inward block)))
      go true = by_pairs_1 false (pairs_of key)
      go false = by_pairs_1 true (pairs_of key)
