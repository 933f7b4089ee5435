-- Inner: what of a record is stored again, and what a call tells that made its turns.
use Rattle.std.specs.Prelude.{ℕ}
use Rattle.lane.specs.declared.Lane.{Lane}
use Rattle.bench_lent.specs.declared.Turns.{Turns}

-- everything of the new one but the owner, the order and the round words, which stay
abbrev pub renewed : Lane → Lane → Lane
renewed old new = record { phase = new.phase; direction = new.direction; owner = old.owner; count = new.count; order = old.order; words = old.words; state = new.state }

abbrev pub done : (made last : ℕ) → Turns
done made last = record { code = 0; made = made; last = last }
