-- What the input gave was fed, and what comes to that was written: whatever is fed yet, the answer to all of it is what was written, and what comes to the rest.
use Rattle.std.proofs.Common.{◌≡◌, List, ◌++◌, ℕ}
use Rattle.std.specs.Io.KnownBytes.{Appends, Consumes}
use Rattle.std.specs.Io.Iter.{bytes_remaining}
use Rattle.lines.specs.Session.{written_from, written_of}
use Rattle.gift_lines.proofs.answer.Given as goal

abbrev pub invariant-loop-byte : goal.invariant-loop-byte
invariant-loop-byte g l = (fed laid : List ℕ)
    × Consumes (g.R.Read.remaining l.fn.input) (bytes_remaining g.R.Read.remaining l.byte-iterator) fed
    × Appends (g.W.Write.contents l.fn.out) (g.W.Write.contents l.out) laid
    × ((rest : List ℕ) → laid ++ written_from l.reader rest ≡ written_of (fed ++ rest))
