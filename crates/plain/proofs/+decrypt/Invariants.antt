-- `plain::decrypt` ends: no more rounds than these are left.
use Prim.Native.Nat.{◌-◌}
use Rattle.plain.proofs.+decrypt.Given as goal

-- no more rounds than these are left
abbrev pub decreases-decrypt : goal.decreases-decrypt
decreases-decrypt l = 40 - l.r
