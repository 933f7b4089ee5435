-- `packing::packing_64` reads eight bytes, gathers their bits and takes the words from them.
use mathlib.Core.Path.{◌≡◌, sym, ap, ◌∙◌}
use mathlib.Core.List.{List}
use Prim.Native.Nat.{ℕ}
use lib.Dec.{T, ltb, lit<}
use Rattle.std.specs.Int.{w64, from_be_bytes}
use Rattle.bits.specs.Digit.{digit}
use Rattle.published.specs.Bytes.{from_bytes}
use Rattle.published.specs.Packing.{word}
use Rattle.primitives.specs.Packed.{state_of64}
use Rattle.packing.specs.Inner.{reordered, gathered_from}
use Rattle.packing.proofs.Small.{piece_is_word, reads-eight, packed-eight, packed_not_eight}
use Rattle.packing.proofs.Inverse.{zeros}
use Rattle.packing.proofs.packing_64.Goals as goal

pub returns : goal.returns
unfolding state_of64
returns c =
    let bs : List ℕ = c.args.input.now in
    let whole = c.in-Some.ensures.cases in
    let number = c.from_be_bytes.ensures ∙ ap (from_be_bytes w64) whole.same ∙ reads-eight bs whole.long in
    let read = c.gather-x.ensures ∙ ap (reordered gathered_from) number in
    let is_word : (j : ℕ) → T (ltb j 4) → digit 65536 c.gather-x.result j ≡ word 64 (from_bytes bs) j =
    λ j t. ap (λ (x : ℕ). digit 65536 x j) read ∙ piece_is_word (from_bytes bs) j (lit< t) in
    (λ i.
    record {
      s0 = (c.piece.ensures ∙ is_word 0 tt) i;
      s1 = (c.piece-2.ensures ∙ is_word 1 tt) i;
      s2 = (c.piece-3.ensures ∙ is_word 2 tt) i;
      s3 = (c.piece-4.ensures ∙ is_word 3 tt) i;
    })
    ∙ sym (packed-eight bs whole.long)

pub returns-in_default : goal.returns-in_default
returns-in_default c = zeros c.default.ensures ∙ sym (packed_not_eight c.args.input.now c.in_default.ensures.cases)
