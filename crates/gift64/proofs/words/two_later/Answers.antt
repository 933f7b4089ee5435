-- `gift64::words::two_later`: two words pass on, and two are updated.
use mathlib.Core.Path.{refl}
use Rattle.key_schedule.proofs.TenWords.{same_four}
use Rattle.gift64.proofs.words.two_later.Goals as goal

pub returns : goal.returns
returns c = same_four _ _ refl c.key_update-a.ensures refl c.key_update-b.ensures
