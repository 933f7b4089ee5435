-- Inner: how a round is undone, each step's inverse and the last first, and P turned round. What undoing is, `unround` says without it; that the two agree is proved.
use Rattle.std.specs.Prelude.{[], ◌∷◌, ℕ, ◌+◌, ◌*◌, ◌/◌, ◌%◌, get_or}
use Rattle.bits.specs.Digit.{bit, of_bits}
use Rattle.published.specs.Rounds.{P, Pair, sub_cells, xored, key_bit, constant_bit}

-- the table read backwards
unfoldable pub unentry : ℕ → ℕ
unentry x = get_or (0xd ∷ 0x0 ∷ 0x8 ∷ 0x6 ∷ 0x2 ∷ 0xc ∷ 0x4 ∷ 0xb ∷ 0xe ∷ 0x7 ∷ 0x1 ∷ 0xa ∷ 0x3 ∷ 0x9 ∷ 0xf ∷ 0x5 ∷ []) x 0

unfoldable pub un_perm_bits : ℕ → ℕ → ℕ
un_perm_bits n s = of_bits n (λ i. bit s (P n i))

-- where bit q of a permuted state came from
abbrev pub back : ℕ → ℕ → ℕ
back n q = 16 * (q % (n / 4) / 4) + 4 * ((q % 4 + 3 * (q / (n / 4))) % 4) + q % 4

unfoldable pub steps_back : ℕ → ℕ → Pair → ℕ → ℕ → ℕ
steps_back n j p c s = sub_cells unentry n (un_perm_bits n (xored n (key_bit j p) (xored n (constant_bit n c) s)))
