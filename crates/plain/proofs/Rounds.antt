-- The steps of a round one after the other, forward and back; rounds one after the other, and a block taken through them.
use mathlib.Core.Path.{◌≡◌, sym, ap, ◌∙◌}
use mathlib.Core.Bool.{Bool, true, false}
use mathlib.Core.List.{List}
use Prim.Native.Nat.{ℕ, suc, ◌+◌, ◌-◌, ◌*◌, ◌^◌, ◌≤◌, ◌<◌}
use native.Mathlib.Numerals.{add-one}
use native.Mathlib.Omega.{arith}
use lib.Dec.{eqb, lit<, lit≤}
use lib.ListN.{length}
use Rattle.bits.proofs.Digits.{pow-mul}
use Rattle.bits.proofs.Truth.{cond_either}
use Rattle.published.specs.Bytes.{from_bytes, to_bytes, Bytes}
use Rattle.published.specs.Rounds.{Pair, entry, sub_cells, perm_bits, xored, key_bit, constant_bit, step, constant, round, rounds, unround, unrounds}
use Rattle.published.specs.Inner.{unentry, un_perm_bits, steps_back}
use Rattle.published.specs.Key.{update, pairs}
use Rattle.published.proofs.Reading.{from_bytes-lt}
use Rattle.published.proofs.Steps.{width, entry_lt, sub_cells-lt, perm_bits-lt, un_perm_bits-lt, xored-lt}
use Rattle.published.proofs.Undone.{unround_is, rounds-lt, unrounds-lt}
use Rattle.plain_key.specs.Inner.{count_of, place_of, uv_of}
use Rattle.plain.specs.Inner.{state_of, nibbles_of, by, Nibbles, rounds_by}
use Rattle.plain.proofs.Nibbles.{state_of_lt, state_of_nibbles_of, nibbles_of_state_of, by_by, width_of}

-- ---- one round

module _ (j : ℕ) (p : Pair) (c : ℕ) {ns : List ℕ} (ok : Nibbles ns) where
  pub round_made : {a b d e : List ℕ} → a ≡ by (sub_cells entry) ns → b ≡ by perm_bits a → d ≡ by (λ n. xored n (key_bit j p)) b → e ≡ by (λ n. xored n (constant_bit n c)) d
      → e ≡ by (λ n. round n j p c) ns
  unfolding round
  round_made e1 e2 e3 e4 =
      let n : ℕ = 4 * length ns in
      let s : ℕ = state_of ns in
      e4
      ∙ ap (by (λ m. xored m (constant_bit m c)))
      (e3
      ∙ ap (by (λ m. xored m (key_bit j p)))
      (e2 ∙ ap (by perm_bits) e1 ∙ by_by perm_bits (sub_cells entry) ns (sub_cells-lt n (width_of ns ok) entry entry_lt s))
      ∙ by_by (λ m. xored m (key_bit j p)) (λ m x. perm_bits m (sub_cells entry m x)) ns (perm_bits-lt n (width_of ns ok) (sub_cells entry n s)))
      ∙ by_by (λ m. xored m (constant_bit m c)) (λ m x. xored m (key_bit j p) (perm_bits m (sub_cells entry m x))) ns (xored-lt n (key_bit j p) (perm_bits n (sub_cells entry n s)))

  pub round-unmade : {a b d e : List ℕ} → a ≡ by (λ n. xored n (constant_bit n c)) ns → b ≡ by (λ n. xored n (key_bit j p)) a → d ≡ by un_perm_bits b → e ≡ by (sub_cells unentry) d
      → e ≡ by (λ n. unround n j p c) ns
  unfolding steps_back
  round-unmade e1 e2 e3 e4 =
      let n : ℕ = 4 * length ns in
      let s : ℕ = state_of ns in
      let x : ℕ = xored n (constant_bit n c) s in
      let y : ℕ = xored n (key_bit j p) x in
      e4
      ∙ ap (by (sub_cells unentry))
      (e3
      ∙ ap (by un_perm_bits)
      (e2 ∙ ap (by (λ m. xored m (key_bit j p))) e1
      ∙ by_by (λ m. xored m (key_bit j p)) (λ m z. xored m (constant_bit m c) z) ns (xored-lt n (constant_bit n c) s))
      ∙ by_by un_perm_bits (λ m z. xored m (key_bit j p) (xored m (constant_bit m c) z)) ns (xored-lt n (key_bit j p) x))
      ∙ by_by (sub_cells unentry) (λ m z. un_perm_bits m (xored m (key_bit j p) (xored m (constant_bit m c) z))) ns (un_perm_bits-lt n (width_of ns ok) y)
      ∙ ap (nibbles_of (length ns)) (sym (unround_is n j (width_of ns ok) p c s (state_of_lt ns ok.small)))

-- ---- the rounds that follow r of them: none, or one and those that follow it; `uv` takes a round's pair from the key state

pub constant_next : (r : ℕ) {c next : ℕ} → c ≡ constant r → next ≡ step c → next ≡ constant (r + 1)
unfolding constant
constant_next r e stepped = stepped ∙ ap step e ∙ ap constant (sym (add-one r))

module _ (n j : ℕ) (uv : ℕ → Pair) (all r key x : ℕ) where
  module _ (none : all ≤ r) where
    none_left : all - r ≡ 0
    none_left = omega arith

    pub rounds-done : x ≡ rounds n j (pairs uv (all - r) key) r x
    unfolding rounds pairs
    rounds-done = rw none_left

    pub unrounds-done : x ≡ unrounds n j (pairs uv (all - r) key) r x
    unfolding unrounds pairs
    unrounds-done = rw none_left

  module _ {c key' : ℕ} {p : Pair} (some : r < all) (paired : p ≡ uv key) (stepped : c ≡ constant (r + 1)) (updated : key' ≡ update key) where
    left : all - r ≡ suc (all - (r + 1))
    left = omega arith

    pub round_first : {x' : ℕ} → x' ≡ round n j p c x → rounds n j (pairs uv (all - (r + 1)) key') (r + 1) x' ≡ rounds n j (pairs uv (all - r) key) r x
    unfolding rounds pairs
    round_first e = rw (e, paired, stepped, updated, left, add-one r)

    pub round-last : unround n j p c (unrounds n j (pairs uv (all - (r + 1)) key') (r + 1) x) ≡ unrounds n j (pairs uv (all - r) key) r x
    unfolding unrounds pairs
    round-last = rw (paired, stepped, updated, left, add-one r)

-- ---- nibbles, of either member

pub state_after : (step : ℕ → ℕ → ℕ) (ns : List ℕ) {now : List ℕ} → step (4 * length ns) (state_of ns) < 2 ^ (4 * length ns) → now ≡ by step ns → state_of now ≡ step (4 * length ns) (state_of ns)
state_after step ns h e = ap state_of e ∙ state_of_nibbles_of (length ns) (step (4 * length ns) (state_of ns)) h

pub nibbles_of_state : (ns : List ℕ) (x : ℕ) → Nibbles ns → state_of ns ≡ x → ns ≡ nibbles_of (length ns) x
nibbles_of_state ns x ok e = nibbles_of_state_of ns ok.small ∙ ap (nibbles_of (length ns)) e

pub count_most : (n : ℕ) → count_of n ≤ 40
count_most n = cond_either (λ (x : ℕ). x ≤ 40) (eqb n 16) 28 40 (λ e. lit≤ tt) (λ e. lit≤ tt)

pub place-lt : (n : ℕ) → place_of n < 3
place-lt n = cond_either (λ (x : ℕ). x < 3) (eqb n 16) 0 1 (λ e. lit< tt) (λ e. lit< tt)

-- rounds done or undone stay within the width
pub within : (back : Bool) (m n key x : ℕ) → 4 * n ≡ 16 * m → x < 2 ^ (4 * n) → rounds_by back n key x < 2 ^ (4 * n)
within false m n key x e h = rounds-lt (4 * n) (place_of n) (rw e (width m)) (pairs (uv_of n) (count_of n - 0) key) 0 x h
within true m n key x e h = unrounds-lt (4 * n) (place_of n) (rw e (width m)) (pairs (uv_of n) (count_of n - 0) key) 0 x h

-- a block read, taken through rounds and written
pub block_made : (f : ℕ → ℕ) (block : List ℕ) {a b e : List ℕ} → (from_bytes block < 2 ^ (4 * (2 * length block)) → f (from_bytes block) < 2 ^ (4 * (2 * length block))) → Bytes block
    → a ≡ nibbles_of (2 * length block) (from_bytes block) → b ≡ nibbles_of (2 * length block) (f (state_of a)) → e ≡ to_bytes (length block) (state_of b) → e ≡ to_bytes (length block) (f (from_bytes block))
block_made f block f_lt bytes e1 e2 e3 =
    let n : ℕ = 2 * length block in
    let eight : 8 * length block ≡ 4 * n = omega arith in
    let x_lt : from_bytes block < 2 ^ (4 * n) = rw (pow-mul 2 8 (length block), eight) at (from_bytes-lt block bytes) in
    e3
    ∙ ap (to_bytes (length block))
    (ap state_of (e2 ∙ ap (λ (s : ℕ). nibbles_of n (f s)) (ap state_of e1 ∙ state_of_nibbles_of n (from_bytes block) x_lt))
    ∙ state_of_nibbles_of n (f (from_bytes block)) (f_lt x_lt))
