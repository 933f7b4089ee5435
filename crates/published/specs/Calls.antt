-- What one block by a key promises, whichever engine makes it: its number, by its refusals in document 01's order, and what then stands in the lent buffer. And the number of many blocks, at any size.
use Rattle.std.specs.Prelude.{Bool, cond, List, ℕ, ◌%◌, eqb, length}
use Rattle.answers.specs.Numbers.{DONE, BAD_KEY_LENGTH, BAD_BLOCK_LENGTH, BAD_OUTPUT_LENGTH}
use Rattle.answers.specs.Order.{unless}
use Rattle.answers.specs.Outcome.{Gives}
use Rattle.published.specs.Gift128.{encrypted, decrypted}

-- the numbers, by the lengths of what is lent: a block alone, 2; by a key, 1, 2
unfoldable pub block_code : (block : ℕ) → ℕ
block_code block = unless (eqb block 16) BAD_BLOCK_LENGTH DONE

unfoldable pub key_code : (key block : ℕ) → ℕ
key_code key block = unless (eqb key 16) BAD_KEY_LENGTH (block_code block)

-- many blocks of `size` bytes: 2, 3; by a key: 1 before them
abbrev pub blocks_code : (size input output : ℕ) → ℕ
blocks_code size input output = unless (eqb (input % size) 0) BAD_BLOCK_LENGTH (unless (eqb output input) BAD_OUTPUT_LENGTH DONE)

unfoldable pub many_code : (size key input output : ℕ) → ℕ
many_code size key input output = unless (eqb key 16) BAD_KEY_LENGTH (blocks_code size input output)

-- the promise of one block by a key: encrypted, or (back) decrypted
abbrev pub CiphersByKey : (back : Bool) (key block : List ℕ) → ℕ → List ℕ → Type 0
CiphersByKey back key block = Gives (key_code (length key) (length block)) (cond back (decrypted key block) (encrypted key block)) block
