-- `bundle_judge::cut::table`: the entries after the header.
use mathlib.Core.Path.{◌≡◌, ap, ap₂, ◌∙◌}
use mathlib.Core.List.{List}
use Prim.Native.Nat.{ℕ, min, ◌-◌, ◌/◌}
use native.Mathlib.Omega.{arith}
use lib.ListN.{length, take, drop, length-drop}
use Rattle.std.specs.Simd.{first_chunks}
use Rattle.std.proofs.lemmas.List.{take_rest}
use Rattle.bundle_judge.specs.Inner.{entries_in}
use Rattle.bundle_judge.proofs.Cutting.{chunks_count, chunks_taken}
use Rattle.bundle_judge.proofs.cut.table.Goals as goal

pub returns-then-b-lt8 : goal.returns-then-b-lt8
unfolding entries_in
returns-then-b-lt8 c =
    let a = c.args in
    let none : 0 ≡ min a.count ((length a.b.now - 8) / 12) = omega arith in
    ap (λ (n : ℕ). first_chunks 12 n (drop 8 a.b.now)) none

pub returns : goal.returns
unfolding entries_in
returns c =
    let a = c.args in
    let t : List ℕ = drop 8 a.b.now in
    let s : List ℕ = take (length a.b.now - 8) t in
    let whole : s ≡ t = take_rest a.b.now 8 in
    let n : ℕ = (length a.b.now - 8) / 12 in
    let size : length s ≡ length a.b.now - 8 = ap length whole ∙ length-drop 8 a.b.now in
    let f : c.as_chunks.result.0.now ≡ first_chunks 12 (length s / 12) s = c.as_chunks.ensures.front in
    let front : c.as_chunks.result.0.now ≡ first_chunks 12 n t = f ∙ ap₂ (λ (k : ℕ) (l : List ℕ). first_chunks 12 (k / 12) l) size whole in
    let count : c.min.result ≡ min a.count n = c.min.ensures ∙ ap (min a.count) (ap length front ∙ chunks_count n t) in
    ap (take c.min.result) front ∙ chunks_taken c.min.result n t (omega arith) ∙ ap (λ (k : ℕ). first_chunks 12 k t) count
