-- The table carries the 40 published constants, each in the arrangement of its round, by one rule over the table.
use mathlib.Core.Path.{◌≡◌, sym, ap, ◌∙◌}
use mathlib.Core.List.{List, [], ◌∷◌}
use Prim.Native.Nat.{ℕ, zero, suc, ◌+◌, ◌%◌, ◌<◌}
use native.Mathlib.Omega.{arith}
use lib.ListN.{get_or}
use Rattle.bits.specs.Digit.{digit, number, bit, of_bits}
use Rattle.bits.proofs.Computed.{agree}
use Rattle.published.specs.Rounds.{P, step, constant}
use Rattle.primitives.specs.Words.{permuted}
use Rattle.round_words.specs.Arranged.{N, nibble_at, arranged, constant_word}
use Rattle.quintuple.specs.Inner.{constants_of}

-- what the rule says of n rounds from round r on: for all 40 this computes to the table of the source, number for number
abbrev pub ruled : ℕ → ℕ → List ℕ
ruled zero r = []
ruled (suc n) r = constant_word (r % 5) r ∷ ruled n (suc r)

pub at_round : (r : ℕ) → r < 40 → get_or (ruled 40 0) r 0 ≡ constant_word (r % 5) r
unfolding digit number bit of_bits P step constant permuted N nibble_at arranged constant_word
at_round r h = agree 40 (λ k. get_or (ruled 40 0) k 0) (λ k. constant_word (k % 5) k) tt r h

-- the five entries from round n on
pub five_from : (i n : ℕ) → i ≡ n → n + 4 < 40
    → get_or (ruled 40 0) n 0 ∷ get_or (ruled 40 0) (n + 1) 0 ∷ get_or (ruled 40 0) (n + 2) 0 ∷ get_or (ruled 40 0) (n + 3) 0 ∷ get_or (ruled 40 0) (n + 4) 0 ∷ []
    ≡ constants_of i
five_from i n e h =
    (λ j.
    at_round n (omega (arith, h)) j ∷ at_round (n + 1) (omega (arith, h)) j ∷ at_round (n + 2) (omega (arith, h)) j ∷ at_round (n + 3) (omega (arith, h)) j ∷ at_round (n + 4) h j ∷ [])
    ∙ ap constants_of (sym e)
