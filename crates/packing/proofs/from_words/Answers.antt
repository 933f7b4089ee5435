-- `packing::from_words`: the words of the block are those that the bytes are.
use mathlib.Core.Path.{◌≡◌, ap, sym, ◌∙◌}
use mathlib.Core.List.{List, []}
use Prim.Native.Nat.{ℕ, ◌/◌}
use native.Mathlib.Omega.{arith}
use lib.Dec.{lit<}
use lib.ListN.{length, get_or}
use Rattle.std.specs.Int.{w32, from_be_bytes}
use Rattle.std.specs.Simd.{first_chunks}
use Rattle.published.specs.Bytes.{from_bytes, Bytes}
use Rattle.published.specs.Seen.{word_at}
use Rattle.published.proofs.Listed.{each}
use Rattle.published.proofs.Seen.{word_read}
use Rattle.primitives.specs.Packed.{state_of}
use Rattle.packing.proofs.from_words.Goals as goal

abbrev fours : List ℕ → List (List ℕ)
fours bs = first_chunks 4 (length bs / 4) bs

abbrev read_at : List (List ℕ) → ℕ → ℕ
read_at ws j = from_be_bytes w32 (get_or ws j [])

quarters : (bs : List ℕ) → length bs ≡ 16
    → (read_at (fours bs) 0 ≡ word_at bs 0) × (read_at (fours bs) 1 ≡ word_at bs 1) × (read_at (fours bs) 2 ≡ word_at bs 2) × (read_at (fours bs) 3 ≡ word_at bs 3)
unfolding from_bytes
quarters =
    each 16
    (λ bs. (read_at (fours bs) 0 ≡ word_at bs 0) × (read_at (fours bs) 1 ≡ word_at bs 1) × (read_at (fours bs) 2 ≡ word_at bs 2) × (read_at (fours bs) 3 ≡ word_at bs 3))
    (λ _ _ _ _ _ _ _ _ _ _ _ _ _ _ _ _. (omega arith, omega arith, omega arith, omega arith))

pub returns : goal.returns
unfolding state_of
returns c =
    let bs : List ℕ = c.args.block.now in
    let h : Bytes bs = c.fits-block in
    let q = quarters bs c.told-block in
    let at : (j : ℕ) → read_at c.as_chunks.result.0.now j ≡ read_at (fours bs) j = λ j. ap (λ (ws : List (List ℕ)). read_at ws j) c.as_chunks.ensures.front in
    λ i. record {
      s0 = (c.from_be_bytes.ensures ∙ at 0 ∙ q.0 ∙ sym (word_read bs h 0 (lit< tt))) i;
      s1 = (c.from_be_bytes-2.ensures ∙ at 1 ∙ q.1 ∙ sym (word_read bs h 1 (lit< tt))) i;
      s2 = (c.from_be_bytes-3.ensures ∙ at 2 ∙ q.2 ∙ sym (word_read bs h 2 (lit< tt))) i;
      s3 = (c.from_be_bytes-4.ensures ∙ at 3 ∙ q.3 ∙ sym (word_read bs h 3 (lit< tt))) i;
    }
