-- `key_schedule::forty_later` makes the words that stand forty further.
use Prim.Native.Nat.{◌^◌, ◌<◌}
use borrow.Author.Rules.{rules}
use Rattle.bits.specs.Digit.{digit, bit}
use Rattle.published.specs.Rounds.{P}
use Rattle.round_words.specs.Arranged.{N, nibble_at}
use Rattle.key_schedule.specs.InnerTens.{ten_further}
use Rattle.key_schedule.proofs.Tables.{later_by}
use Rattle.key_schedule.proofs.TenWords.{same_twenty}
use Rattle.key_schedule.proofs.forty_later.Goals as goal

pub returns : goal.returns
unfolding bit digit nibble_at N P ten_further
returns c =
    let t = c.args.t in
    let fits : (t.v0 < 2 ^ 64) × (t.u0 < 2 ^ 64) × (t.v1 < 2 ^ 64) × (t.u1 < 2 ^ 64) × (t.v2 < 2 ^ 64) × (t.u2 < 2 ^ 64) × (t.v3 < 2 ^ 64) × (t.u3 < 2 ^ 64) × (t.v4 < 2 ^ 64) × (t.u4 < 2 ^ 64) = search rules in
    same_twenty _ _
    (later_by 1 5 _ c.moved.ensures tt fits.0)
    (later_by 1 5 _ c.moved-2.ensures tt fits.1)
    (later_by 2 5 _ c.moved-3.ensures tt fits.2)
    (later_by 2 5 _ c.moved-4.ensures tt fits.3)
    (later_by 3 5 _ c.moved-5.ensures tt fits.4)
    (later_by 3 5 _ c.moved-6.ensures tt fits.5)
    (later_by 4 5 _ c.moved-7.ensures tt fits.6)
    (later_by 4 5 _ c.moved-8.ensures tt fits.7)
    (later_by 5 5 _ c.moved-9.ensures tt fits.8)
    (later_by 5 5 _ c.moved-10.ensures tt fits.9)
