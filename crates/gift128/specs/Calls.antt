-- What each call promises: its number, by its refusals in document 01's order, and what then stands in the buffer that was lent to it.
use Rattle.std.specs.Prelude.{Bool, List, ℕ, eqb, length, take, replicate}
use Rattle.std.specs.declared.result.Result.{Result}
use Rattle.std.specs.declared.result.Result.TheVariants.{Ok, Err}
use Rattle.answers.specs.declared.Refusal.{Refusal}
use Rattle.answers.specs.Numbers.{BAD_WORD_COUNT, BAD_ORDER}
use Rattle.answers.specs.Order.{unless, if_done}
use Rattle.answers.specs.Outcome.{Gives}
use Rattle.published.specs.Bytes.{from_bytes, to_bytes}
use Rattle.published.specs.Seen.{is_order, seen}
use Rattle.published.specs.Gift128.{pairs_of, rounds128, rounds_all}
use Rattle.published.specs.Calls.{block_code, key_code, blocks_code, many_code}
use Rattle.published.specs.Blocks.{all_of}
use Rattle.round_words.specs.Arranged.{pairs_from}
use Rattle.gift128.specs.declared.Gift128.{Gift128}
use Rattle.key_schedule.specs.Expand.{expand_code, expanded}

-- ---- the numbers, by the order's number and the lengths of what is lent

-- each call that takes an order tries it first: 13, and then its own
unfoldable pub order_code : (order own : ℕ) → ℕ
order_code order own = unless (is_order order) BAD_ORDER own

-- one block by round words: 4, 2 (by a key, by a `Gift128`, and many blocks: `key_code`, `block_code` and `many_code` of the crate published)
unfoldable pub words_code : (words block : ℕ) → ℕ
words_code words block = unless (eqb words 80) BAD_WORD_COUNT (block_code block)

-- many blocks by round words: 4, 2, 3
unfoldable pub many_words_code : (words input output : ℕ) → ℕ
many_words_code words input output = unless (eqb words 80) BAD_WORD_COUNT (blocks_code 16 input output)

-- ---- what a call that is done leaves

-- the forty rounds, done or undone, of eighty round words, whatever they are: those of the pairs that they stand for
abbrev pub rounds_by : (back : Bool) (words : List ℕ) → ℕ → ℕ
rounds_by back words = rounds_all back (pairs_from 0 words)

-- a block encrypted by eighty round words in order 0
unfoldable pub encrypted_by : List ℕ → List ℕ → List ℕ
encrypted_by ws block = to_bytes 16 (rounds128 (pairs_from 0 ws) 0 (from_bytes block))

-- the state after round 1
unfoldable pub after_one : List ℕ → List ℕ → List ℕ
after_one key block = to_bytes 16 (rounds128 (take 1 (pairs_of key)) 0 (from_bytes block))

-- all the blocks of sixteen bytes, block i of the answer from block i of the input
abbrev pub all_blocks : (List ℕ → List ℕ) → List ℕ → List ℕ
all_blocks = all_of 16

-- ---- the promises: the number, and what the lent buffer holds at exit, the rounds, done or (back) undone, seen through the order

-- one block by a key, and by round words
abbrev pub CiphersByKeyIn : (back : Bool) (order : ℕ) (key block : List ℕ) → ℕ → List ℕ → Type 0
CiphersByKeyIn back order key block = Gives (order_code order (key_code (length key) (length block))) (seen order (rounds_all back (pairs_of key)) block) block

abbrev pub CiphersByWordsIn : (back : Bool) (order : ℕ) (words block : List ℕ) → ℕ → List ℕ → Type 0
CiphersByWordsIn back order words block = Gives (order_code order (words_code (length words) (length block))) (seen order (rounds_by back words) block) block

-- many blocks by a key
abbrev pub CiphersBlocksIn : (back : Bool) (order : ℕ) (key input output : List ℕ) → ℕ → List ℕ → Type 0
CiphersBlocksIn back order key input output =
    Gives (order_code order (many_code 16 (length key) (length input) (length output))) (all_blocks (seen order (rounds_all back (pairs_of key))) input) output

-- many blocks by round words
abbrev pub CiphersBlocksByWordsIn : (back : Bool) (order : ℕ) (words input output : List ℕ) → ℕ → List ℕ → Type 0
CiphersBlocksByWordsIn back order words input output =
    Gives (order_code order (many_words_code (length words) (length input) (length output))) (all_blocks (seen order (rounds_by back words)) input) output

abbrev pub MakesOneRound : (key block : List ℕ) → ℕ → List ℕ → Type 0
MakesOneRound key block = Gives (key_code (length key) (length block)) (after_one key block) block

-- a block by the words that a `Gift128` keeps (making one promises what expansion into eighty zeros does: `Expands`)
abbrev pub CiphersBlockIn : (back : Bool) (order : ℕ) (words block : List ℕ) → ℕ → List ℕ → Type 0
CiphersBlockIn back order words block = Gives (order_code order (block_code (length block))) (seen order (rounds_by back words) block) block

-- the words of what making a cipher answers: of the cipher, or after a refusal, which stands for the cipher by default, eighty zeros
abbrev pub words_made : Result Gift128 Refusal → List ℕ
words_made (Ok cipher) = cipher.k
words_made (Err refusal) = replicate 80 0

-- the words of a cipher made from any key
abbrev pub new_words : List ℕ → List ℕ
new_words key = if_done (expand_code (length key) 80) (expanded key) (replicate 80 0)
