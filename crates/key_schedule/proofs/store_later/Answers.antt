-- `key_schedule::store_later` leaves the twenty words that stand forty further.
use mathlib.Core.Path.{ap, ◌∙◌}
use Rattle.key_schedule.specs.InnerTwenty.{words_in}
use Rattle.key_schedule.proofs.store_later.Goals as goal

pub returns : goal.returns
returns c = c.store.ensures ∙ ap words_in c.forty_later.ensures
