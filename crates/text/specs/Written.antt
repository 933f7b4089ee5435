-- A short text in a record of fixed size.
use Rattle.std.specs.Prelude.{◌≡◌, List, ◌++◌, ℕ, min, length, take, replicate}
use Rattle.text.specs.declared.Text.{Text}

-- the record that holds a list of at most 64 bytes, zeros after them; of a longer list it holds the first 64
unfoldable pub written : List ℕ → Text
written l = record { bytes = take 64 (l ++ replicate 64 0); count = min (length l) 64 }

-- the bytes of a text
abbrev pub shown : Text → List ℕ
shown t = take t.count t.bytes

-- the second text is the first with bytes behind it, of whatever list the first is the text
abbrev pub Adds : List ℕ → Text → Text → Type 0
Adds x s t = (l : List ℕ) → s ≡ written l → t ≡ written (l ++ x)
