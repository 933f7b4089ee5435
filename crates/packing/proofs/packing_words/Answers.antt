-- `packing::packing_words` reads sixteen bytes as order 1 has them, and nothing else.
use mathlib.Core.Path.{refl, sym, ap, ◌∙◌}
use mathlib.Core.List.{List}
use Prim.Native.Nat.{ℕ}
use Rattle.published.specs.Seen.{read_in}
use Rattle.primitives.specs.Packed.{state_of}
use Rattle.packing.proofs.Inverse.{zeros, packed-block, packed_other}
use Rattle.packing.proofs.packing_words.Goals as goal

pub returns-in-Some : goal.returns-in-Some
returns-in-Some c =
    let whole = c.in-Some.ensures.cases in
    c.from_words.ensures ∙ ap (λ (l : List ℕ). state_of (read_in 1 l)) whole.same ∙ sym (packed-block 1 c.args.input.now refl whole.long)

pub returns-in-None : goal.returns-in-None
returns-in-None c = zeros c.default.ensures ∙ sym (packed_other 1 c.args.input.now c.in-None.ensures.cases)
