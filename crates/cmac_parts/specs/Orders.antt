-- The numbers of a piece and of a state's tag, refusals in the order given.
use Rattle.std.specs.Prelude.{ℕ, leb}
use Rattle.answers.specs.Numbers.{DONE, BAD_STATE}
use Rattle.answers.specs.Order.{unless}
use Rattle.published.specs.Calls.{block_code}

-- a piece: 10 if the state claims more than sixteen held bytes
unfoldable pub piece_code : (count : ℕ) → ℕ
piece_code count = unless (leb count 16) BAD_STATE DONE

-- the tag of a state: 10, 2
unfoldable pub tag_code : (count tag : ℕ) → ℕ
tag_code count tag = unless (leb count 16) BAD_STATE (block_code tag)
