-- `packing::to_words` writes the four words, two at a time, the first on top.
use mathlib.Core.Path.{ap₂, ◌∙◌}
use mathlib.Core.List.{◌++◌}
use Prim.Native.Nat.{ℕ}
use borrow.Author.Rules.{rules}
use Rattle.published.specs.Bytes.{to_bytes}
use Rattle.primitives.specs.declared.State.{State}
use Rattle.primitives.specs.Packed.{Words}
use Rattle.packing.proofs.Halves.{words-halved}
use Rattle.packing.proofs.to_words.Goals as goal

pub returns : goal.returns
returns c =
    let s : State = c.args.state in
    let words : Words s = search rules in
    c.put.ensures ∙ ap₂ (λ (a b : ℕ). to_bytes 8 a ++ to_bytes 8 b) c.pair.ensures c.pair-2.ensures ∙ words-halved s words
