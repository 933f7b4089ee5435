-- What is proved of the text: of which answers it is.
use Rattle.std.specs.Prelude.{◌≡◌, true, List, ℕ}
use Rattle.published.specs.Bytes.{Bytes}
use Rattle.bundle_format.specs.Format.{knows, good_value}
use Rattle.bundle_format.specs.Reader.{Answer, value, absent, unknown}

-- what a reader of edition 2 can answer of an accepted bundle
pub data Shown : Answer → Type 0 where
  a_value : (kind : ℕ) (body : List ℕ) → knows 2 kind ≡ true → good_value kind body ≡ true → Bytes body → Shown (value kind body)
  an_absence : Shown absent
  an_unknown : Shown unknown
