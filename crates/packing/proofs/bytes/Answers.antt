-- `packing::bytes` are the digits to base 256.
use native.Mathlib.Nat.{div-one}
use Rattle.bits.specs.Digit.{digit}
use Rattle.published.specs.Bytes.{to_bytes}
use Rattle.packing.proofs.bytes.Goals as goal

pub returns : goal.returns
unfolding digit to_bytes
returns c = rw div-one c.to_be_bytes.ensures
