-- `gift128::one_round`: the words of the cipher made are those of the key, and round 1 by them is the published one.
use Rattle.std.proofs.Common.{rules, ◌≡◌, length, List, ℕ}
use mathlib.Core.Path.{refl, ap, ◌∙◌}
use lib.ListN.{take}
use Rattle.answers.proofs.Outcome.{done}
use Rattle.published.specs.Rounds.{Pair}
use Rattle.published.specs.Gift128.{pairs_of, rounds128}
use Rattle.published.specs.Calls.{block_code, key_code}
use Rattle.published.proofs.Steps.{width128}
use Rattle.published.proofs.Undone.{rounds-lt}
use Rattle.quintuple.specs.Quintuple.{first_round}
use Rattle.key_schedule.specs.Expand.{expand_code, expanded}
use Rattle.gift128.specs.Calls.{after_one}
use Rattle.gift128.proofs.Blocks.{through, first_of_key}
use Rattle.gift128.proofs.one_round.Goals as goal

pub returns : goal.returns
unfolding after_one key_code block_code expand_code
returns c =
    let key : List ℕ = c.args.key.now in
    let block : List ℕ = c.args.block.now in
    let ps : List Pair = take 1 (pairs_of key) in
    let kept : c.in_ok-cipher.cipher.k ≡ expanded key = search rules in
    let sixteen : length block ≡ 16 = search rules in
    let told : 0 ≡ key_code (length key) (length block) = search rules in
    done told refl
    (through 0 refl (rounds128 ps 0) c.packing-s.result c.first_round-once.result block block _ (rounds-lt 128 1 width128 ps 0) sixteen
    (search rules) sixteen c.packing-s.ensures
    (c.first_round-once.ensures ∙ ap (first_round c.packing-s.result) kept ∙ first_of_key key c.packing-s.result)
    c.unpacking.ensures)
