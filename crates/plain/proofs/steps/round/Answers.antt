-- `plain::steps::round`: the four steps, one after the other.
use Rattle.bits.proofs.Computed.{bounded}
use Rattle.published.specs.Rounds.{entry}
use Rattle.plain.specs.Inner.{Nibbles, pair}
use Rattle.plain.proofs.Nibbles.{again}
use Rattle.plain.proofs.Rounds.{round_made}
use Rattle.plain.proofs.steps.round.Goals as goal

-- entries of a table are nibbles
pub sub_cells-requires : goal.sub_cells-requires
sub_cells-requires c = (c.requires.0, bounded 16 16 _ tt)

pub returns : goal.returns
unfolding entry
returns c =
    let a = c.args in
    round_made a.j (pair a.u a.v) a.c c.requires.0 c.sub_cells.ensures c.perm_bits.ensures c.add_round_key.ensures c.add_constant.ensures

pub perm_bits-requires : goal.perm_bits-requires
perm_bits-requires c = again c.args.s.now _ c.sub_cells.ensures c.requires.0

pub add_round_key-requires : goal.add_round_key-requires
add_round_key-requires c =
    let after_1 : Nibbles c.sub_cells.new.s = again c.args.s.now _ c.sub_cells.ensures c.requires.0 in
    let after_2 : Nibbles c.perm_bits.new.s = again c.sub_cells.new.s _ c.perm_bits.ensures after_1 in
    (after_2, c.requires.1)

pub add_constant-requires : goal.add_constant-requires
add_constant-requires c =
    let after_1 : Nibbles c.sub_cells.new.s = again c.args.s.now _ c.sub_cells.ensures c.requires.0 in
    let moved : Nibbles c.perm_bits.new.s = again c.sub_cells.new.s _ c.perm_bits.ensures after_1 in
    let after_3 : Nibbles c.add_round_key.new.s = again c.perm_bits.new.s _ c.add_round_key.ensures moved in
    after_3
