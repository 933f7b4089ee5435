-- `plain::steps::unround`: the four steps undone, the last first.
use Rattle.bits.proofs.Computed.{bounded}
use Rattle.published.specs.Inner.{unentry}
use Rattle.plain.specs.Inner.{Nibbles, pair}
use Rattle.plain.proofs.Nibbles.{again}
use Rattle.plain.proofs.Rounds.{round-unmade}
use Rattle.plain.proofs.steps.unround.Goals as goal

-- entries of a table are nibbles
pub sub_cells-requires : goal.sub_cells-requires
sub_cells-requires c =
    let after_1 : Nibbles c.add_constant.new.s = again c.args.s.now _ c.add_constant.ensures c.requires.0 in
    let after_2 : Nibbles c.add_round_key.new.s = again c.add_constant.new.s _ c.add_round_key.ensures after_1 in
    let after_3 : Nibbles c.un_perm_bits.new.s = again c.add_round_key.new.s _ c.un_perm_bits.ensures after_2 in
    (after_3, bounded 16 16 _ tt)

pub returns : goal.returns
unfolding unentry
returns c =
    let a = c.args in
    round-unmade a.j (pair a.u a.v) a.c c.requires.0 c.add_constant.ensures c.add_round_key.ensures c.un_perm_bits.ensures c.sub_cells.ensures

pub add_constant-requires : goal.add_constant-requires
add_constant-requires c = c.requires.0

pub add_round_key-requires : goal.add_round_key-requires
add_round_key-requires c = (again c.args.s.now _ c.add_constant.ensures c.requires.0, c.requires.1)

pub un_perm_bits-requires : goal.un_perm_bits-requires
un_perm_bits-requires c =
    let after_1 : Nibbles c.add_constant.new.s = again c.args.s.now _ c.add_constant.ensures c.requires.0 in
    let after_2 : Nibbles c.add_round_key.new.s = again c.add_constant.new.s _ c.add_round_key.ensures after_1 in
    after_2
