-- No call on a bundle has a second outcome: each promise as the source cites it. Those that are equations are so by what `≡` says.
use mathlib.Core.Path.{◌≡◌, sym, ◌∙◌}
use mathlib.Core.List.{List}
use Prim.Native.Nat.{ℕ}
use Rattle.answers.specs.Outcome.{OneOutcome}
use Rattle.answers.proofs.Outcome.{one_outcome, one_answer}
use Rattle.bundle_format.specs.Reader.{Asks, opened, looked_up, entry_of}
use Rattle.bundle_format.specs.Writer.{Writes}
use Rattle.bundle_format.specs.declared.Opened.{Opened}
use Rattle.bundle_format.specs.declared.Told.{Told}

pub asks : (reader : ℕ) (key b : List ℕ) (id : ℕ) → OneOutcome (Asks reader key b id)
asks reader key b id = one_outcome _ _ _

pub opens : (reader : ℕ) (key b : List ℕ) (o p : Opened) → o ≡ opened reader key b → p ≡ opened reader key b → o ≡ p
opens reader key b o p = one_answer

pub looks : (seen : Opened) (b : List ℕ) (id : ℕ) (t u : Told) → t ≡ looked_up seen b id → u ≡ looked_up seen b id → t ≡ u
looks seen b id t u = one_answer

pub enters : (seen : Opened) (b : List ℕ) (i : ℕ) (t u : Told) → t ≡ entry_of seen b i → u ≡ entry_of seen b i → t ≡ u
enters seen b i t u = one_answer

pub writes : (edition : ℕ) (key rows pool out : List ℕ) (r r' t t' : ℕ) (e e' : List ℕ) → Writes edition key rows pool out r t e → Writes edition key rows pool out r' t' e'
    → (r ≡ r') × (t ≡ t') × (e ≡ e')
writes edition key rows pool out r r' t t' e e' w v = (w.is ∙ sym v.is, w.tells ∙ sym v.tells, w.leaves ∙ sym v.leaves)
