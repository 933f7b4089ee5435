-- `key_schedule::first_words`: the words of the key are those that its bytes are, four by four.
use mathlib.Core.Path.{◌≡◌, ap, ◌∙◌}
use mathlib.Core.List.{List, []}
use Prim.Native.Nat.{ℕ, ◌/◌}
use native.Mathlib.Omega.{arith}
use lib.ListN.{length, get_or, take, drop}
use Rattle.std.specs.Int.{w32, from_be_bytes}
use Rattle.std.specs.Simd.{first_chunks}
use Rattle.published.specs.Bytes.{from_bytes}
use Rattle.published.proofs.Listed.{each}
use Rattle.key_schedule.specs.InnerTens.{first_words}
use Rattle.key_schedule.proofs.TenWords.{same_four}
use Rattle.key_schedule.proofs.first_words.Goals as goal

abbrev fours : List ℕ → List (List ℕ)
fours bs = first_chunks 4 (length bs / 4) bs

abbrev read_at : List (List ℕ) → ℕ → ℕ
read_at ws j = from_be_bytes w32 (get_or ws j [])

abbrev word_at : List ℕ → ℕ → ℕ
word_at bs at = from_bytes (take 4 (drop at bs))

quarters : (bs : List ℕ) → length bs ≡ 16
    → (read_at (fours bs) 0 ≡ word_at bs 0) × (read_at (fours bs) 1 ≡ word_at bs 4) × (read_at (fours bs) 2 ≡ word_at bs 8) × (read_at (fours bs) 3 ≡ word_at bs 12)
unfolding from_bytes
quarters =
    each 16
    (λ bs. (read_at (fours bs) 0 ≡ word_at bs 0) × (read_at (fours bs) 1 ≡ word_at bs 4) × (read_at (fours bs) 2 ≡ word_at bs 8) × (read_at (fours bs) 3 ≡ word_at bs 12))
    (λ _ _ _ _ _ _ _ _ _ _ _ _ _ _ _ _. (omega arith, omega arith, omega arith, omega arith))

pub returns : goal.returns
unfolding first_words
returns c =
    let q = quarters c.args.key.now c.told-key in
    let at : (j : ℕ) → read_at c.as_chunks.result.0.now j ≡ read_at (fours c.args.key.now) j = λ j. ap (λ (ws : List (List ℕ)). read_at ws j) c.as_chunks.ensures.front in
    same_four _ _
    (c.from_be_bytes.ensures ∙ at 3 ∙ q.3)
    (c.from_be_bytes-2.ensures ∙ at 1 ∙ q.1)
    (c.from_be_bytes-3.ensures ∙ at 2 ∙ q.2)
    (c.from_be_bytes-4.ensures ∙ at 0 ∙ q.0)
