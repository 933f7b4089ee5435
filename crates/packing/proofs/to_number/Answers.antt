-- `packing::to_number` makes the halves of the words, scatters their bits and writes them one after the other.
use mathlib.Core.Path.{◌≡◌, sym, ap, ap₂, ◌∙◌}
use mathlib.Core.List.{◌++◌}
use Prim.Native.Nat.{ℕ}
use lib.Dec.{T, ltb, lit<}
use borrow.Author.Rules.{rules}
use Rattle.published.specs.Bytes.{to_bytes}
use Rattle.primitives.specs.declared.State.{State}
use Rattle.primitives.specs.Packed.{block_of, Words}
use Rattle.primitives.proofs.Blocks.{state_of_block_of}
use Rattle.packing.specs.Inner.{reordered, scattered_from, half_from}
use Rattle.packing.proofs.Halves.{half_of, scattered_half, halved}
use Rattle.packing.proofs.to_number.Goals as goal

pub returns : goal.returns
returns c =
    let s : State = c.args.state in
    let words : Words s = search rules in
    let is-half : (h : ℕ) → T (ltb h 2) → reordered scattered_from (half_from s h) ≡ half_of (block_of s) h =
    λ h t. ap (λ (s : State). reordered scattered_from (half_from s h)) (sym (state_of_block_of s words)) ∙ scattered_half (block_of s) h (lit< t) in
    let high = c.scatter.ensures ∙ ap (reordered scattered_from) c.half.ensures ∙ is-half 1 tt in
    let low = c.scatter-2.ensures ∙ ap (reordered scattered_from) c.half-2.ensures ∙ is-half 0 tt in
    c.put.ensures ∙ ap₂ (λ (a b : ℕ). to_bytes 8 a ++ to_bytes 8 b) high low ∙ halved (block_of s)
