-- What the calls of GIFT-64 promise, whichever engine makes them: the number, by their refusals in document 01's order, and what then stands in the buffer that was lent.
use Rattle.std.specs.Prelude.{Bool, cond, List, ℕ, eqb, length}
use Rattle.answers.specs.Numbers.{DONE, BAD_KEY_LENGTH, BAD_BLOCK_LENGTH}
use Rattle.answers.specs.Order.{unless}
use Rattle.answers.specs.Outcome.{Gives}
use Rattle.published.specs.Gift64.{encrypted64, decrypted64}
use Rattle.published.specs.Blocks.{all_of}
use Rattle.published.specs.Calls.{many_code}

-- the number of one block by a key, by the lengths of what is lent: 1, 2 (many blocks: `many_code 8`)
unfoldable pub key_code64 : (key block : ℕ) → ℕ
key_code64 key block =
    unless (eqb key 16) BAD_KEY_LENGTH
    (unless (eqb block 8) BAD_BLOCK_LENGTH
    DONE)

-- the promises: the number, and what the lent buffer holds at exit, encrypted or (back) decrypted
abbrev pub CiphersByKey64 : (back : Bool) (key block : List ℕ) → ℕ → List ℕ → Type 0
CiphersByKey64 back key block = Gives (key_code64 (length key) (length block)) (cond back (decrypted64 key block) (encrypted64 key block)) block

abbrev pub CiphersBlocks64 : (back : Bool) (key input output : List ℕ) → ℕ → List ℕ → Type 0
CiphersBlocks64 back key input output = Gives (many_code 8 (length key) (length input) (length output)) (all_of 8 (cond back (decrypted64 key) (encrypted64 key)) input) output
