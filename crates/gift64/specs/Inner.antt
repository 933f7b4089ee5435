-- Inner: sixteen nibbles as four rows of four, packed or turned; what each round makes of sliced words that stand so; and the pairs U, V that round words stand for.
use Rattle.std.specs.Prelude.{Bool, true, false, cond, List, [], ◌∷◌, ℕ, zero, suc, ◌+◌, ◌-◌, ◌*◌, ◌/◌, ◌%◌, ◌^◌, ltb, get_or}
use Rattle.std.specs.Int.Bits.{bit_xor}
use Rattle.bits.specs.Digit.{bit, of_bits}
use Rattle.published.specs.Bytes.{from_bytes, to_bytes}
use Rattle.published.specs.Rounds.{Pair, entry, constant}
use Rattle.published.specs.Inner.{back, unentry}
use Rattle.published.specs.Gift64.{rounds64, unrounds64, encrypted64, decrypted64}
use Rattle.primitives.specs.declared.State.{State}
use Rattle.primitives.specs.Words.{permuted}
use Rattle.quintuple.specs.Boxes.{boxed}
use Rattle.quintuple.specs.Inner.{block_at, exchanged_of}
use Rattle.key_schedule.specs.declared.Four.{Four}
use Rattle.gift64.specs.declared.rounds.Stand.{Stand}
use Rattle.gift64.specs.declared.rounds.Stand.TheVariants.{Packed, Turned}
use Rattle.key_schedule.specs.InnerUpdate.{updated}

-- ---- words that stand packed (k = 0) or turned (k = 1)

-- the place of nibble n: n itself, or with rows for columns; either way what is at place i is nibble `place k i`
abbrev pub place : ℕ → ℕ → ℕ
place zero n = n
place (suc k) n = 4 * (n % 4) + n / 4

-- the block that four words stand for
unfoldable pub block_in : ℕ → State → ℕ
block_in k s = block_at 64 (place k) s

-- where, in a round from k to the other, bit j of a nibble has to come from, as places of the words before and after; the upper half of a word does not count and stays
unfoldable pub move : ℕ → ℕ → ℕ → ℕ
move k j i = cond (ltb i 16) (place k (back 64 (4 * place (1 - k) i + j) / 4)) i

unfoldable pub moved_by : ℕ → State → State
moved_by k s = record { s0 = permuted (move k 0) s.s0; s1 = permuted (move k 1) s.s1; s2 = permuted (move k 2) s.s2; s3 = permuted (move k 3) s.s3 }

abbrev pub keyed_of : State → ℕ → ℕ → State
keyed_of s w c = record { s0 = bit_xor s.s0 w; s1 = bit_xor s.s1 (w / 2 ^ 16); s2 = s.s2; s3 = bit_xor s.s3 c }

-- one round, by a round word and the constant's word, and the same undone
unfoldable pub subround : ℕ → State → ℕ → ℕ → State
subround k s w c = keyed_of (moved_by k (exchanged_of (boxed entry s))) w c

unfoldable pub unsubround : ℕ → State → ℕ → ℕ → State
unsubround k s w c = exchanged_of (boxed unentry (moved_by k (keyed_of s w c)))

-- how the code names the two
abbrev pub standing : Stand → ℕ
standing Packed = 0
standing Turned = 1

-- ---- what round words stand for

-- the pair of a round word that is kept as words in arrangement k are
unfoldable pub pair_in : ℕ → ℕ → Pair
pair_in k w = record { u = of_bits 16 (λ n. bit w (16 + place k n)); v = of_bits 16 (λ n. bit w (place k n)) }

-- n rounds from round r on, from 0: the first leaves the words turned, the second packed again
unfoldable pub pairs_in : ℕ → ℕ → List ℕ → List Pair
pairs_in zero r ws = []
pairs_in (suc n) r ws = pair_in (suc r % 2) (get_or ws r 0) ∷ pairs_in n (suc r) ws

-- the word of round r's constant: the flipped bit on top, kept as the words are after the round
unfoldable pub constant_word : ℕ → ℕ
constant_word r = of_bits 16 (λ i. bit (2 ^ 15 + constant (suc r)) (place (suc r % 2) i))

-- ---- a key's words

-- rows for columns in each half of a word
abbrev pub turn : ℕ → ℕ
turn i = 16 * (i / 16) + place 1 (i % 16)

-- the four words of a key state, two rounds later
abbrev pub two_later : Four → Four
two_later k = record { v0 = k.u0; u0 = updated k.v0; v1 = k.u1; u1 = updated k.v1 }

-- ---- both ways as one: by whether they go back

abbrev pub rounds_by : Bool → List ℕ → ℕ → ℕ
rounds_by false ws x = rounds64 (pairs_in 28 0 ws) 0 x
rounds_by true ws x = unrounds64 (pairs_in 28 0 ws) 0 x

-- on the bytes of a block, by round words and by a key
abbrev pub crossed_by : Bool → List ℕ → List ℕ → List ℕ
crossed_by back ws block = to_bytes 8 (rounds_by back ws (from_bytes block))

abbrev pub crossed : Bool → List ℕ → List ℕ → List ℕ
crossed false = encrypted64
crossed true = decrypted64
