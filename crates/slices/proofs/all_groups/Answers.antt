-- `slices::all_groups`: groups of sixty-four, and then the lanes from where they end, or from a place before it.
use Rattle.std.proofs.Common.{◌≡◌, sym, ap, ◌∙◌, Bool, List, ℕ, ◌+◌, ◌-◌, ◌/◌, ◌%◌, ◌≤◌, length, take, drop, arith, rules}
use lib.ListN.{length-take, length-drop}
use borrow.Rule.Slice.PartMut.{put_mid, same_len_mid}
use Rattle.bits.proofs.Truth.{told-true}
use Rattle.bits.proofs.Computed.{cond-true}
use Rattle.published.specs.Blocks.{all_of, each_of}
use Rattle.published.specs.Gift128.{rounds_all}
use Rattle.published.specs.Seen.{seen}
use Rattle.published.proofs.Groups.{all_written}
use Rattle.published.proofs.Seen.{orders}
use Rattle.published.proofs.Parts.{first_part, ended}
use Rattle.round_words.specs.Arranged.{pairs_from}
use Rattle.eight.proofs.Answers.{grouped, are_grouped}
use Rattle.slices.proofs.all_groups.Goals as goal

-- m bytes of the input, by words that are those of the key
first_done : (order : ℕ) (back : Bool) (ws words input out new : List ℕ) (m : ℕ) → m % 16 ≡ 0 → m ≤ length input → length out ≡ length input → length new ≡ length (take (m - 0) out) → words ≡ ws
    → new ≡ all_of 16 (seen order (rounds_all back (pairs_from 0 words))) (take (m - 0) (drop 0 input))
    → take m (put_mid 0 (m - 0) out new) ≡ each_of 16 (seen order (rounds_all back (pairs_from 0 ws))) (m / 16) input
first_done order back ws words input out new m whole inside same len is made =
    let n : length (take (m - 0) out) ≡ m = simp length-take (omega arith) in
    first_part (seen order (rounds_all back (pairs_from 0 ws))) input out new m whole inside same (len ∙ n)
    (made ∙ ap (λ (w : List ℕ). all_of 16 (seen order (rounds_all back (pairs_from 0 w))) (take (m - 0) (drop 0 input))) is)

pub returns-else-m-input : goal.returns-else-m-input
returns-else-m-input c =
    let first = c.wide_groups in
    let a = c.args in
    let input : List ℕ = a.input.now in
    let out : List ℕ = a.output.now in
    let told = told-true c.in_groups.ensures c.if-not-in_groups.false in
    let ok = grouped a.order (length a.rkey.now) (length input) (length out) told in
    let m : ℕ = length input - length input % 1024 in
    let words : c.in-Some.words.now ≡ a.rkey.now = search rules in
    let done = first_done a.order a.back a.rkey.now _ input out first.new.output m (omega (arith, ok.2)) (omega arith) ok.4 first.auto.output words first.ensures in
    all_written (seen a.order (rounds_all a.back (pairs_from 0 a.rkey.now))) input (put_mid 0 (m - 0) out first.new.output) m (omega arith)
    (same_len_mid 0 (m - 0) out first.new.output first.auto.output ∙ ok.4) done
    ∙ sym (cond-true _ _ _ told)

pub returns-then-m-input : goal.returns-then-m-input
returns-then-m-input c =
    let last = c.groups-then-m-input in
    let first = c.wide_groups in
    let a = c.args in
    let input : List ℕ = a.input.now in
    let out : List ℕ = a.output.now in
    let told = told-true c.in_groups.ensures c.if-not-in_groups.false in
    let ok = grouped a.order (length a.rkey.now) (length input) (length out) told in
    let f : List ℕ → List ℕ = seen a.order (rounds_all a.back (pairs_from 0 a.rkey.now)) in
    let whole : length input % 16 ≡ 0 = ok.2 in
    let m : ℕ = length input - length input % 1024 in
    let words : c.in-Some.words.now ≡ a.rkey.now = search rules in
    let done = first_done a.order a.back a.rkey.now _ input out first.new.output m (omega arith) (omega arith) ok.4 first.auto.output words first.ensures in
    let out₁ : List ℕ = put_mid 0 (m - 0) out first.new.output in
    let same₁ : length out₁ ≡ length input = same_len_mid 0 (m - 0) out first.new.output first.auto.output ∙ ok.4 in
    let e : ℕ = c.min-e.result in
    let is = c.min-e.ensures in
    let blocks : e % 16 ≡ 0 = omega (arith, is) in
    let under : e ≤ m = omega (arith, is) in
    let room : e + 64 ≤ length input = omega (arith, is) in
    let left : length (take (length input - e) (drop e input)) ≡ length input - e = simp (length-take, length-drop) (omega arith) in
    let left₁ : length (take (length out₁ - e) (drop e out₁)) ≡ length input - e = simp (length-take, length-drop) (omega arith) in
    ended f (λ l. (orders a.order).sixteen _) input out₁ last.new.output e m blocks (omega arith) under (omega arith) whole same₁ done
    (last.ensures
    ∙ cond-true _ _ _ (are_grouped a.order (length a.rkey.now) (length (take (length input - e) (drop e input))) (length (take (length out₁ - e) (drop e out₁))) ok.0 ok.1 (rw left (omega arith)) (rw left (omega arith)) (left₁ ∙ sym left)))
    ∙ sym (cond-true _ _ _ told)
