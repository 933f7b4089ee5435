-- `line_answers::sixteen_bytes` holds, at each turn, the bytes of the pairs passed, which are digits.
use mathlib.Core.Path.{sym, ap₂, ◌∙◌}
use mathlib.Core.List.{List, [], ◌∷◌, ◌++◌}
use Prim.Native.Nat.{ℕ, ◌+◌, ◌*◌}
use native.Mathlib.Numerals.{add-one}
use native.Mathlib.Omega.{arith}
use lib.ListN.{length-set}
use lib.Seq.{take-suc, take-suc-set, take_all}
use Rattle.text.specs.Hex.{bytes_of}
use Rattle.line_answers.proofs.Numerals.{hex_at, all_are_hex, two_more, byte_at, length_bytes_of}
use Rattle.line_answers.proofs.sixteen_bytes.Goals as goal

pub returns-in_err-digit : goal.returns-in_err-digit
returns-in_err-digit c =
    rw c.from_residual.ensures (λ e. c.in_err-digit.ensures (hex_at c.args.text.now e (2 * c.loop-i.i) (omega arith)))

pub returns-in_err-out : goal.returns-in_err-out
returns-in_err-out c =
    rw c.from_residual-in_err-out.ensures (λ e. c.in_err-out.ensures (hex_at c.args.text.now e (2 * c.loop-i.i + 1) (omega arith)))

pub loop-i-preserved : goal.loop-i-preserved
loop-i-preserved c =
    let text : List ℕ = c.args.text.now in
    let i : ℕ = c.loop-i.i in
    let byte : ℕ = c.in_ok-digit.field-0 * 16 + c.in_ok-out.field-0 in (
      length-set c.loop-i.out i byte ∙ c.loop-i.invariant.0,
      rw (add-one i)
          (take-suc-set c.loop-i.out i byte (omega arith)
          ∙ ap₂ (λ (x : List ℕ) (y : ℕ). x ++ (y ∷ [])) c.loop-i.invariant.1 (ap₂ (λ (x y : ℕ). x * 16 + y) c.in_ok-digit.ensures.1 c.in_ok-out.ensures.1 ∙ sym (byte_at text i (omega arith)))
          ∙ sym (take-suc (bytes_of text) i 0 (omega (arith, length_bytes_of 16 text c.requires)))),
      two_more text i c.loop-i.invariant.2 c.in_ok-digit.ensures.0 c.in_ok-out.ensures.0,
    )

pub returns : goal.returns
returns c =
    let text : List ℕ = c.args.text.now in
    let i : ℕ = c.loop-i.i in (
      all_are_hex text (λ k h. c.loop-i.invariant.2 k (omega arith)),
      sym (take_all i c.loop-i.out (omega arith)) ∙ c.loop-i.invariant.1 ∙ take_all i (bytes_of text) (omega (arith, length_bytes_of 16 text c.requires)),
    )
