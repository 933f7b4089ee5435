-- What each call promises: its number, by its refusals in document 02's order, and what it leaves.
use Rattle.std.specs.Prelude.{List, ℕ, length, replicate}
use Rattle.answers.specs.Outcome.{Gives}
use Rattle.key_schedule.specs.Expand.{expanded}
use Rattle.counter_orders.specs.Orders.{start_code, piece_code}
use Rattle.counter.specs.declared.Stream.{Stream}
use Rattle.counter.specs.Standard.{◌⊕◌}
use Rattle.counter.specs.Steps.{zero_block, key_bytes, after}

-- the number of a piece, by its stream
abbrev pub code_of : Stream → (input output : ℕ) → ℕ
code_of s = piece_code s.counter s.unused s.spent

-- ---- streams

-- at its first counter, nothing made yet
unfoldable pub started_by : (words nonce : List ℕ) → ℕ → Stream
started_by words nonce c = record { words = words; nonce = nonce; counter = c; block = zero_block; unused = 0; spent = 0 }

-- what a refused start gives: all zero, and spent
unfoldable pub no_stream : Stream
no_stream = record { words = replicate 80 0; nonce = replicate 12 0; counter = 0; block = zero_block; unused = 0; spent = 1 }

-- what a piece leaves: the stream, and the bytes in the output
pub record Left : Type 0 where
  pub stream : Stream
  pub bytes : List ℕ

unfoldable pub fed : Stream → List ℕ → Left
fed s input = record { stream = after (length input) s; bytes = input ⊕ key_bytes (length input) s }

-- ---- the promises

abbrev pub Starts : (key nonce : List ℕ) (c : ℕ) → ℕ → Stream → Type 0
Starts key nonce c = Gives (start_code (length key) (length nonce)) (started_by (expanded key) nonce c) no_stream

-- a refused piece leaves the stream and the output as they were
abbrev pub Feeds : (s : Stream) (input output : List ℕ) → ℕ → Stream → List ℕ → Type 0
Feeds s input output r e u = Gives (code_of s (length input) (length output)) (fed s input) (record { stream = s; bytes = output }) r (record { stream = e; bytes = u })
