-- What a turn changes of a record: it leaves its owner, its order and its round words as they are, so that the rest of it is all there is to store.
use mathlib.Core.Path.{◌≡◌, refl}
use mathlib.Core.Bool.{Bool, true, false, cond}
use lib.Dec.{ltb}
use Rattle.lane.specs.declared.Lane.{Lane}
use Rattle.lane_turns.specs.Turns.{served}
use Rattle.lane_turns.proofs.Serving.{next}
use Rattle.bench_lent.specs.Inner.{renewed}

pub served-renewed : (l : Lane) → renewed l (served l) ≡ served l
unfolding served
served-renewed l = go (ltb l.count 8)
  where
    go : (t : Bool) → renewed l (cond t (next l) l) ≡ cond t (next l) l
    go true = refl
    go false = refl
