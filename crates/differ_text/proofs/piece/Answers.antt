-- `differ_text::piece`: a refusal, a row's line, or the last line.
use Rattle.std.proofs.Common.{◌≡◌, ◌⊎◌, inl, inr, List, ℕ, ◌*◌, ◌<◌, ◌≤◌, rules}
use borrow.Author.Tests.{eq-eqb, ne_eqb, lt-ltb, le-ltb}
use Rattle.differ.specs.declared.Compared.{Compared}
use Rattle.differ_text.specs.Rendered.{line_text, closing_line, refusal_lines}
use Rattle.differ_text.specs.Pieces.{line_at, piece_of}
use Rattle.differ_text.specs.Puts.{Puts}
use Rattle.differ_text.proofs.Laid.{puts_as, then_puts, laid_whole}
use Rattle.differ_text.proofs.piece.Goals as goal
use Rattle.differ_text.proofs.piece.Goals.{then-compared-ne0-2, else-compared-ne0-2+then-k-compared, else-compared-ne0-2+else-k-compared}

module _ (a : Compared) (rows b c : List ℕ) (k : ℕ) where
  refused : (a.first ≡ 0 → ⊥) ⊎ ((a.first ≡ 0) × (a.second ≡ 0 → ⊥)) → refusal_lines a.first a.second ≡ piece_of a rows b c k
  unfolding piece_of
  refused (inl f) = rw (ne_eqb a.first 0 f)
  refused (inr (e, s)) = rw (eq-eqb a.first 0 e, ne_eqb a.second 0 s)

  row : (a.first ≡ 0) × (a.second ≡ 0) → k < a.count → line_text b c (line_at rows (9 * k)) ≡ piece_of a rows b c k
  unfolding piece_of
  row (e, f) h = rw (eq-eqb a.first 0 e, eq-eqb a.second 0 f, lt-ltb k a.count h)

  last : (a.first ≡ 0) × (a.second ≡ 0) → a.count ≤ k → closing_line a.count ≡ piece_of a rows b c k
  unfolding piece_of
  last (e, f) h = rw (eq-eqb a.first 0 e, eq-eqb a.second 0 f, le-ltb k a.count h)

pub returns : goal.returns
unfolding refusal_lines
returns c =
    let a = c.args in
    let puts : Puts (piece_of a.compared a.rows.now a.first.now a.second.now a.k) c.new-page.result c.if-compared-ne0-2.page =
    elim c.if-compared-ne0-2.branch [
      | then-compared-ne0-2 w ↦ rw w.page-is (puts_as (then_puts w.put_refusal.ensures w.put_refusal-then-compared-ne0-2.ensures) (refused a.compared a.rows.now a.first.now a.second.now a.k w.if-compared-ne0-2.either))
      | else-compared-ne0-2+then-k-compared w ↦ rw w.page-is (puts_as w.put_line.ensures (row a.compared a.rows.now a.first.now a.second.now a.k w.if-compared-ne0-2.false w.if-k-compared.true))
      | else-compared-ne0-2+else-k-compared w ↦ rw w.page-is (puts_as w.put_closing.ensures (last a.compared a.rows.now a.first.now a.second.now a.k w.if-compared-ne0-2.false w.if-k-compared.false))
    ] in
    laid_whole c.new-page.ensures.laid puts c.len.ensures (search rules)
