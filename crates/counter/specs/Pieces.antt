-- Which pieces a stream accepts; a message in pieces, a first and those after it, fed one after the other; and the message that they are.
use Rattle.std.specs.Prelude.{◌≡◌, List, [], ◌∷◌, ◌++◌, ℕ, ◌+◌, ◌*◌, length}
use Rattle.counter_orders.specs.Orders.{left}
use Rattle.counter.specs.declared.Stream.{Stream}
use Rattle.counter.specs.Calls.{code_of, Left, fed}

-- a piece of n bytes is done, to an output of n bytes
abbrev pub Accepted : Stream → ℕ → Type 0
Accepted s n = code_of s n n ≡ 0

-- how many bytes a stream can still give
abbrev pub room : Stream → ℕ
room s = s.unused + 16 * left s.counter s.spent

unfoldable pub whole : List ℕ → List (List ℕ) → List ℕ
whole p [] = p
whole p (q ∷ ps) = p ++ whole q ps

-- each is accepted by the stream that those before it left
unfoldable pub AllAccepted : Stream → List ℕ → List (List ℕ) → Type 0
AllAccepted s p [] = Accepted s (length p)
AllAccepted s p (q ∷ ps) = Accepted s (length p) × AllAccepted (fed s p).stream q ps

-- what all of them leave: the stream after the last, and their bytes one after the other
unfoldable pub fed_all : Stream → List ℕ → List (List ℕ) → Left
fed_all s p [] = fed s p
fed_all s p (q ∷ ps) = record { stream = (fed_all (fed s p).stream q ps).stream; bytes = (fed s p).bytes ++ (fed_all (fed s p).stream q ps).bytes }
