-- What each call promises: its number, by its refusals in the order given (of a whole message and a check 1, 2, `key_code`, of a start 1, `expand_code` of the eighty words that it keeps), and what it leaves.
use Rattle.std.specs.Prelude.{Bool, true, false, ◌&&◌, List, [], ◌∷◌, ◌++◌, ℕ, ◌-◌, eqb, length, take, replicate}
use Rattle.answers.specs.Outcome.{Gives}
use Rattle.published.specs.Calls.{key_code}
use Rattle.published.specs.Gift128.{encrypted}
use Rattle.key_schedule.specs.Expand.{expand_code, expanded}
use Rattle.gift128.specs.Calls.{encrypted_by}
use Rattle.cmac_parts.specs.Standard.{zero_block, before, blocks, past, last_block, chained, cmac}
use Rattle.cmac_parts.specs.Orders.{piece_code, tag_code}
use Rattle.cmac.specs.declared.Mac.{Mac}

-- ---- states

-- nothing fed yet, by these round words
unfoldable pub started_by : List ℕ → Mac
started_by words = record { words = words; chain = zero_block; held = zero_block; count = 0 }

-- the bytes that are held: those past them do not count
abbrev pub held_by : Mac → List ℕ
held_by s = take s.count s.held

-- bytes kept in a block, zeros after them
abbrev pub kept : List ℕ → List ℕ
kept m = m ++ replicate (16 - length m) 0

-- a state fed with a piece: of all that is not chained yet, the blocks before the last are chained, and the last is held
unfoldable pub fed : Mac → List ℕ → Mac
fed s piece =
    let m : List ℕ = held_by s ++ piece in
    record {
      words = s.words;
      chain = chained (encrypted_by s.words) s.chain (blocks (before m) m);
      held = kept (past (before m) m);
      count = length (past (before m) m);
    }

-- the tag of what was fed
unfoldable pub tag_of : Mac → List ℕ
tag_of s = chained (encrypted_by s.words) s.chain (last_block (encrypted_by s.words) (held_by s) ∷ [])

-- whether two strings are the same, byte for byte
unfoldable pub same : List ℕ → List ℕ → Bool
same [] [] = true
same [] (y ∷ ys) = false
same (x ∷ xs) [] = false
same (x ∷ xs) (y ∷ ys) = eqb x y && same xs ys

-- ---- the promises: the number, and what a lent buffer holds at exit, what a check says, or the state given back

-- a whole message to a tag buffer
abbrev pub TagsWhole : (key message tag : List ℕ) → ℕ → List ℕ → Type 0
TagsWhole key message tag = Gives (key_code (length key) (length tag)) (cmac (encrypted key) message) tag

-- a tag checked; a refused check says no
abbrev pub Checks : (key message tag : List ℕ) → ℕ → Bool → Type 0
Checks key message tag = Gives (key_code (length key) (length tag)) (same tag (cmac (encrypted key) message)) false

-- in pieces: a refused start gives the state that is all zero
abbrev pub Starts : (key : List ℕ) → ℕ → Mac → Type 0
Starts key = Gives (expand_code (length key) 80) (started_by (expanded key)) (started_by (replicate 80 0))

abbrev pub Feeds : (s : Mac) (piece : List ℕ) → ℕ → Mac → Type 0
Feeds s piece = Gives (piece_code s.count) (fed s piece) s

abbrev pub TagsState : (s : Mac) (tag : List ℕ) → ℕ → List ℕ → Type 0
TagsState s tag = Gives (tag_code s.count (length tag)) (tag_of s) tag

-- ---- a message in pieces

-- the state t is what s becomes when pieces are fed to it, a call for each, whatever numbers they give
pub data FedBy : Mac → List (List ℕ) → Mac → Type 0 where
  none : (s : Mac) → FedBy s [] s
  more : (s t u : Mac) (piece : List ℕ) (pieces : List (List ℕ)) (number : ℕ) → Feeds s piece number t → FedBy t pieces u → FedBy s (piece ∷ pieces) u

-- the pieces one after another
unfoldable pub joined : List (List ℕ) → List ℕ
joined [] = []
joined (piece ∷ pieces) = piece ++ joined pieces
