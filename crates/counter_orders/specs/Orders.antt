-- The number that each call gives: its refusals in document 02's order, by lengths and the stream's numbers.
use Rattle.std.specs.Prelude.{Bool, cond, ℕ, ◌+◌, ◌-◌, ◌/◌, ◌^◌, eqb, leb}
use Rattle.answers.specs.Numbers.{DONE, BAD_KEY_LENGTH, BAD_BLOCK_LENGTH, BAD_OUTPUT_LENGTH, BAD_STATE, TOO_FEW_COUNTERS}
use Rattle.answers.specs.Order.{unless}

-- how many counters there are
abbrev pub counters : ℕ
counters = 2 ^ 32

-- starting: 1, 2
unfoldable pub start_code : (key nonce : ℕ) → ℕ
start_code key nonce =
    unless (eqb key 16) BAD_KEY_LENGTH
    (unless (eqb nonce 12) BAD_BLOCK_LENGTH
    DONE)

-- Exactly when 12: the new blocks that n bytes need after the unused ones, none where these are enough, are more than the counters left.
abbrev pub needed : (unused n : ℕ) → ℕ
needed unused n = (n - unused + 15) / 16

abbrev pub left : (counter spent : ℕ) → ℕ
left counter spent = cond (eqb spent 0) (counters - counter) 0

unfoldable pub enough : (counter unused spent n : ℕ) → Bool
enough counter unused spent n = leb (needed unused n) (left counter spent)

-- a piece: 10, 3, 12
unfoldable pub piece_code : (counter unused spent input output : ℕ) → ℕ
piece_code counter unused spent input output =
    unless (leb unused 15) BAD_STATE
    (unless (eqb output input) BAD_OUTPUT_LENGTH
    (unless (enough counter unused spent input) TOO_FEW_COUNTERS
    DONE))
