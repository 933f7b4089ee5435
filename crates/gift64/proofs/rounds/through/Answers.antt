-- `gift64::rounds::through`: the rounds done, or undone.
use Rattle.gift64.proofs.rounds.through.Goals as goal

pub returns-then-back : goal.returns-then-back
returns-then-back c = rw c.if-back.true c.decrypt_state.ensures

pub returns : goal.returns
returns c = rw c.if-back.false c.encrypt_state.ensures
