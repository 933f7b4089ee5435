-- No answer is longer than 35 bytes, and no text that is written longer than 64.
use mathlib.Core.Path.{◌≡◌, refl, ap, ◌∙◌}
use mathlib.Core.Bool.{Bool, true, false, cond}
use mathlib.Core.List.{List, [], ◌∷◌}
use Prim.Native.Nat.{ℕ, ◌+◌, ◌*◌, ◌^◌, ◌≤◌, ◌<◌, min}
use native.Mathlib.Omega.{arith}
use lib.Dec.{ltb, eqb}
use lib.ListN.{length, length-append}
use borrow.Author.Tests.{ltb-true, ltb-false}
use Rattle.published.specs.Bytes.{to_bytes}
use Rattle.published.specs.Gift128.{encrypted, decrypted}
use Rattle.published.proofs.Reading.{length_to_bytes}
use Rattle.gift128.specs.Calls.{after_one}
use Rattle.text.specs.Hex.{hex_of}
use Rattle.text.specs.Decimal.{decimal_of}
use Rattle.text.proofs.Lengths.{length-hex_of, number-length}
use Rattle.line_answers.specs.Line.{is_good, words_text, packed_text, response, bad_line, answer_of}
use Rattle.lines.specs.declared.Reader.{Reader}
use Rattle.lines.specs.Input.{answer_line, done_line}
use Rattle.lines.specs.Session.{next_line, held, closing_of}

either : (k : ℕ) (b : Bool) (x y : List ℕ) → length x ≤ k → length y ≤ k → length (cond b x y) ≤ k
either k true x y hx hy = hx
either k false x y hx hy = hy

block_text_lem : (x : ℕ) → length (hex_of (to_bytes 16 x)) ≤ 35
block_text_lem x = omega (arith, length-hex_of (to_bytes 16 x), length_to_bytes 16 x)

word_text : (x : ℕ) → length (hex_of (to_bytes 4 x)) ≡ 8
word_text x = length-hex_of (to_bytes 4 x) ∙ ap (λ (n : ℕ). 2 * n) (length_to_bytes 4 x)

words_text_lem : (a b c d : ℕ) → length (words_text a b c d) ≤ 35
unfolding words_text
words_text_lem a b c d = simp length-append (omega (arith, word_text a, word_text b, word_text c, word_text d))

response-length : (c : ℕ) (key block : List ℕ) → length (response c key block) ≤ 35
unfolding response encrypted decrypted after_one packed_text
response-length c key block =
    either 35 (eqb c 69) _ _ (block_text_lem _)
    (either 35 (eqb c 68) _ _ (block_text_lem _) (either 35 (eqb c 82) _ _ (block_text_lem _) (either 35 (eqb c 70) _ _ (block_text_lem _) (either 35 (eqb c 71) _ _ (block_text_lem _) (words_text_lem _ _ _ _)))))

pub answer-length : (n : ℕ) (line : List ℕ) → n < 2 ^ 64 → length (answer_of n line) ≤ 35
unfolding answer_of bad_line
answer-length n line h = either 35 (is_good line) _ _ (response-length _ _ _) (omega (arith, number-length n h))

pub answer_line_length : (n : ℕ) (line : List ℕ) → n < 2 ^ 64 → length (answer_line n line) ≤ 36
unfolding answer_line
answer_line_length n line h = omega (arith, length-append (answer_of n line) (10 ∷ []), answer-length n line h)

done-length : (n : ℕ) → n < 2 ^ 64 → length (done_line n) ≤ 26
unfolding done_line
done-length n h = omega (arith, length-append (decimal_of n) (10 ∷ []), number-length n h)

pub next-saturated : (n m : ℕ) → n < 2 ^ 64 → m ≡ min (n + 1) 18446744073709551615 → m ≡ next_line n
unfolding next_line
next-saturated n m h e = go (ltb n 18446744073709551615) refl
  where
    go : (t : Bool) → ltb n 18446744073709551615 ≡ t → m ≡ cond t (n + 1) n
    go true p = let less : n < 18446744073709551615 = ltb-true n 18446744073709551615 p in omega arith
    go false p = let most : 18446744073709551615 ≤ n = ltb-false n 18446744073709551615 p in omega arith

next_lt : (n : ℕ) → n < 2 ^ 64 → next_line n < 2 ^ 64
unfolding next_line
next_lt n h = go (ltb n 18446744073709551615) refl
  where
    go : (t : Bool) → ltb n 18446744073709551615 ≡ t → cond t (n + 1) n < 2 ^ 64
    go true p = omega (arith, ltb-true n 18446744073709551615 p)
    go false p = h

pub closing-length : (r : Reader) → r.lines < 2 ^ 64 → length (closing_of r) ≤ 62
unfolding closing_of
closing-length r h =
    let n : ℕ = next_line r.lines in
    let h' : n < 2 ^ 64 = next_lt r.lines h in
    either 62 (eqb r.count 0) _ _ (omega (arith, done-length r.lines h))
    (omega (arith, length-append (answer_line n (held r)) (done_line n), answer_line_length n (held r) h', done-length n h'))
