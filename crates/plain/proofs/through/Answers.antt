-- `plain::through`: the rounds done, or undone, from the first on.
use mathlib.Core.Path.{refl}
use Prim.Native.Nat.{zero-le}
use Rattle.published.specs.Rounds.{constant}
use Rattle.plain.proofs.through.Goals as goal

pub decrypt-requires : goal.decrypt-requires
unfolding constant
decrypt-requires c = record { nibbles = c.requires; r_bound = (zero-le, refl) }

pub returns-then-back : goal.returns-then-back
returns-then-back c = rw c.if-back.true c.decrypt.ensures

pub encrypt-requires : goal.encrypt-requires
unfolding constant
encrypt-requires c = record { nibbles = c.requires; r_bound = (zero-le, refl) }

pub returns : goal.returns
returns c = rw c.if-back.false c.encrypt.ensures
