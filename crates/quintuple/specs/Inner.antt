-- Inner: the block that words stand for within a quintuple, and what the private functions make of such words. The moves are said by what they mean, not by how the code makes them.
use Rattle.std.specs.Prelude.{cond, List, [], ◌∷◌, ℕ, suc, ◌+◌, ◌-◌, ◌*◌, ◌/◌, ◌%◌, get_or}
use Rattle.std.specs.Int.Bits.{bit_xor}
use Rattle.bits.specs.Digit.{bit, of_bits}
use Rattle.published.specs.Rounds.{P, entry}
use Rattle.published.specs.Inner.{back, unentry}
use Rattle.primitives.specs.declared.State.{State}
use Rattle.primitives.specs.Words.{permuted}
use Rattle.primitives.specs.Packed.{word_of}
use Rattle.round_words.specs.Arranged.{nibble_at, constant_word}
use Rattle.quintuple.specs.declared.Part.{Part}
use Rattle.quintuple.specs.declared.RoundKey.{RoundKey}
use Rattle.quintuple.specs.Boxes.{substituted, boxed}
use Rattle.quintuple.specs.Quintuple.{good}

-- the block of n bits that four words stand for, nibble m standing at place `place m` of each word
abbrev pub block_at : ℕ → (ℕ → ℕ) → State → ℕ
block_at n place s = of_bits n (λ q. bit (word_of s (q % 4)) (place (q / 4)))

-- and k rounds in
unfoldable pub block_in : ℕ → State → ℕ
block_in k s = block_at 128 (nibble_at (5 - k)) s

abbrev pub exchanged_of : State → State
exchanged_of s = record { s0 = s.s3; s1 = s.s1; s2 = s.s2; s3 = s.s0 }

-- k rounds in, where bit j of a nibble has to come from, as places of the words before and after the round; and where it goes back to
unfoldable pub move : ℕ → ℕ → ℕ → ℕ
move k j i = nibble_at (5 - k) (back 128 (4 * nibble_at (suc k) i + j) / 4)

unfoldable pub unmove : ℕ → ℕ → ℕ → ℕ
unmove k j i = nibble_at (5 - suc k) (P 128 (4 * nibble_at k i + j) / 4)

-- the moves of a round, in words as the box leaves them, exchanged; and undone, in words whose exchange is undone
unfoldable pub moved_in : ℕ → State → State
moved_in k t = record { s0 = t.s0; s1 = permuted (move k 1) t.s1; s2 = permuted (move k 2) t.s2; s3 = permuted (move k 0) t.s3 }

unfoldable pub unmoved_in : ℕ → State → State
unmoved_in k t = record { s0 = permuted (unmove k 0) t.s0; s1 = permuted (unmove k 1) t.s1; s2 = permuted (unmove k 2) t.s2; s3 = t.s3 }

-- one round on words that stand in arrangement k, by two key words and the constant's word; s0 and s3 are left exchanged
unfoldable pub subround : ℕ → State → ℕ → ℕ → ℕ → State
subround k s v u c =
    record {
      s0 = bit_xor (substituted entry s 3) c;
      s1 = bit_xor (permuted (move k 1) (substituted entry s 1)) v;
      s2 = bit_xor (permuted (move k 2) (substituted entry s 2)) u;
      s3 = permuted (move k 0) (substituted entry s 0);
    }

-- and undone, from exchanged words
abbrev pub unmoved : ℕ → State → ℕ → ℕ → ℕ → State
unmoved k s v u c =
    record {
      s0 = permuted (unmove k 0) s.s3;
      s1 = permuted (unmove k 1) (bit_xor s.s1 v);
      s2 = permuted (unmove k 2) (bit_xor s.s2 u);
      s3 = bit_xor s.s0 c;
    }

unfoldable pub unsubround : ℕ → State → ℕ → ℕ → ℕ → State
unsubround k s v u c = exchanged_of (boxed unentry (unmoved k s v u c))

-- the word of round r's constant, by the rule of the table
abbrev pub tabled : ℕ → ℕ
tabled r = constant_word (r % 5) r

-- those of the five rounds from i on
abbrev pub constants_of : ℕ → List ℕ
constants_of i = tabled i ∷ tabled (i + 1) ∷ tabled (i + 2) ∷ tabled (i + 3) ∷ tabled (i + 4) ∷ []

-- what a quintuple from round i on goes by
abbrev pub part_of : List ℕ → ℕ → Part
part_of ws i =
    record {
      k0 = record { v = get_or ws 0 0; u = get_or ws 1 0; c = tabled i };
      k1 = record { v = get_or ws 2 0; u = get_or ws 3 0; c = tabled (i + 1) };
      k2 = record { v = get_or ws 4 0; u = get_or ws 5 0; c = tabled (i + 2) };
      k3 = record { v = get_or ws 6 0; u = get_or ws 7 0; c = tabled (i + 3) };
      k4 = record { v = get_or ws 8 0; u = get_or ws 9 0; c = tabled (i + 4) };
    }

-- where no quintuple starts: nothing to go by
abbrev pub no_key : RoundKey
no_key = record { v = 0; u = 0; c = 0 }

abbrev pub no_part : Part
no_part = record { k0 = no_key; k1 = no_key; k2 = no_key; k3 = no_key; k4 = no_key }

unfoldable pub part_in : List ℕ → ℕ → Part
part_in ws i = cond (good ws i) (part_of ws i) no_part

-- five rounds by a part, each from words in their places, and undone, the last first
unfoldable pub five_of : Part → State → State
five_of p s =
    let a : State = exchanged_of (subround 0 s p.k0.v p.k0.u p.k0.c) in
    let b : State = exchanged_of (subround 1 a p.k1.v p.k1.u p.k1.c) in
    let d : State = exchanged_of (subround 2 b p.k2.v p.k2.u p.k2.c) in
    let e : State = exchanged_of (subround 3 d p.k3.v p.k3.u p.k3.c) in
    exchanged_of (subround 4 e p.k4.v p.k4.u p.k4.c)

unfoldable pub unfive_of : Part → State → State
unfive_of p s =
    let a : State = unsubround 4 (exchanged_of s) p.k4.v p.k4.u p.k4.c in
    let b : State = unsubround 3 (exchanged_of a) p.k3.v p.k3.u p.k3.c in
    let d : State = unsubround 2 (exchanged_of b) p.k2.v p.k2.u p.k2.c in
    let e : State = unsubround 1 (exchanged_of d) p.k1.v p.k1.u p.k1.c in
    unsubround 0 (exchanged_of e) p.k0.v p.k0.u p.k0.c
