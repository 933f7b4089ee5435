-- What is proved of a list's text: of which lists it is.
use Rattle.std.specs.Prelude.{◌≡◌, true, List, [], ◌∷◌, ◌≤◌}
use Rattle.published.specs.Bytes.{Bytes}
use Rattle.bundle_format.specs.Format.{good_value, Setting}

-- a setting that may stand in a bundle, whatever its id
pub record Fair (s : Setting) : Type 0 where
  pub valued : good_value s.kind s.body ≡ true
  pub flag : s.must ≤ 1
  pub bytes : Bytes s.body

pub data AllFair : List Setting → Type 0 where
  none : AllFair []
  more : {s : Setting} {ss : List Setting} → Fair s → AllFair ss → AllFair (s ∷ ss)
