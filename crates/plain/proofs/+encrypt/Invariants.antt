-- `plain::encrypt` ends: no more rounds than these are left.
use Prim.Native.Nat.{◌-◌}
use Rattle.plain.proofs.+encrypt.Given as goal

-- no more rounds than these are left
abbrev pub decreases-encrypt : goal.decreases-encrypt
decreases-encrypt l = 40 - l.r
