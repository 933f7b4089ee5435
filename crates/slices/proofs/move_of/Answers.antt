-- `slices::move_of`: the nibbles that P's rule names.
use Rattle.std.proofs.Common.{◌<◌, arith}
use Rattle.slices.proofs.Places.{first, second, third, fourth}
use Rattle.slices.proofs.move_of.Goals as goal
use Rattle.slices.proofs.move_of.Goals.{in-0, in-1, in-2, in_default}

pub invariant_of-result : goal.invariant_of-result
invariant_of-result c =
    let g = c.args.g in
    let h : c.args.g < 8 = c.requires.0 in
    elim c.match-h.branch [
      | in-0 w ↦ rw w.result-is (record { within = (omega arith, omega arith, omega arith, omega arith, omega arith); goes = first g h })
      | in-1 w ↦ rw w.result-is (record { within = (omega arith, omega arith, omega arith, omega arith, omega arith); goes = second g h })
      | in-2 w ↦ rw w.result-is (record { within = (omega arith, omega arith, omega arith, omega arith, omega arith); goes = third g h })
      | in_default w ↦ rw w.result-is (record { within = (omega arith, omega arith, omega arith, omega arith, omega arith); goes = fourth g h })
    ]
