-- `packing::from_number` reads the number, gathers the bits of its halves and takes the words from them.
use mathlib.Core.Path.{◌≡◌, ap, ap₂, ◌∙◌}
use mathlib.Core.List.{List}
use Prim.Native.Nat.{ℕ}
use lib.Dec.{T, ltb, lit<}
use Rattle.published.specs.Bytes.{from_bytes}
use Rattle.published.specs.Packing.{word}
use Rattle.primitives.specs.Packed.{state_of}
use Rattle.packing.specs.Inner.{reordered, gathered_from, word_from}
use Rattle.packing.proofs.Halves.{words, reads, upper-half, lower-half, half_of}
use Rattle.packing.proofs.from_number.Goals as goal

pub returns : goal.returns
unfolding state_of
returns c =
    let bs : List ℕ = c.args.block.now in
    let x : ℕ = c.from_be_bytes-x.result in
    let number = c.from_be_bytes-x.ensures ∙ reads bs c.told-block in
    let high = c.gather-high.ensures ∙ ap (reordered gathered_from) (upper-half x c.from_be_bytes-x.type_inv ∙ ap (λ (x : ℕ). half_of x 1) number) in
    let low = c.gather-low.ensures ∙ ap (reordered gathered_from) (lower-half x ∙ ap (λ (x : ℕ). half_of x 0) number) in
    let is_word : (j : ℕ) → T (ltb j 4) → word_from c.gather-high.result c.gather-low.result j ≡ word 128 (from_bytes bs) j =
    λ j t. ap₂ (λ (a b : ℕ). word_from a b j) high low ∙ words (from_bytes bs) j (lit< t) in
    λ i. record {
      s0 = (c.word.ensures ∙ is_word 0 tt) i;
      s1 = (c.word-2.ensures ∙ is_word 1 tt) i;
      s2 = (c.word-3.ensures ∙ is_word 2 tt) i;
      s3 = (c.word-4.ensures ∙ is_word 3 tt) i;
    }
