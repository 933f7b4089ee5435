-- Five rounds by a part are a quintuple, and so is their undoing: what the two quintuple rounds are proved by, and whatever takes states through a part.
use mathlib.Core.Path.{◌≡◌, refl, sym, ap, ◌∙◌}
use mathlib.Core.List.{List}
use Prim.Native.Nat.{ℕ, suc, ◌+◌, ◌%◌, ◌^◌, ◌≤◌, ◌<◌}
use native.Mathlib.Numerals.{add-one, add-two, add-three, add-four}
use native.Mathlib.Omega.{arith}
use lib.Bits.{xor_lt}
use lib.Dec.{lit<}
use lib.ListN.{length, get_or}
use Rattle.bits.proofs.Bits.{of_bits_lt}
use Rattle.published.specs.Rounds.{rounds, unrounds}
use Rattle.published.proofs.Words.{word_lt}
use Rattle.primitives.specs.declared.State.{State}
use Rattle.primitives.specs.Packed.{block_of, state_of, Words}
use Rattle.primitives.proofs.Moves.{permuted-lt}
use Rattle.primitives.proofs.Blocks.{block_of_lt, block_of_state_of}
use Rattle.round_words.specs.Arranged.{pairs_from}
use Rattle.quintuple.specs.declared.Part.{Part}
use Rattle.quintuple.specs.Boxes.{substituted, boxed}
use Rattle.quintuple.specs.Quintuple.{quintupled, unquintupled}
use Rattle.quintuple.specs.Inner.{exchanged_of, subround, unsubround, tabled, part_of, five_of, unfive_of}
use Rattle.quintuple.proofs.Fixslice.{block_in_five, block_in_none}
use Rattle.quintuple.proofs.Five.{carried, tabled-lt, go_on, go_back, done, undone}

-- ---- what a round leaves are words

round-words : (k : ℕ) (s : State) (v u c : ℕ) → v < 2 ^ 32 → u < 2 ^ 32 → c < 2 ^ 32 → Words (exchanged_of (subround k s v u c))
unfolding subround substituted
round-words k s v u c hv hu hc =
    (permuted-lt _ _, xor_lt 32 _ v (permuted-lt _ _) hv, xor_lt 32 _ u (permuted-lt _ _) hu, xor_lt 32 _ c (of_bits_lt 32 _) hc)

unround-words : (k : ℕ) (s : State) (v u c : ℕ) → Words (unsubround k s v u c)
unfolding unsubround boxed substituted
unround-words k s v u c = (of_bits_lt 32 _, of_bits_lt 32 _, of_bits_lt 32 _, of_bits_lt 32 _)

words_of : (x : ℕ) → Words (state_of x)
unfolding state_of
words_of x = (word_lt x 0, word_lt x 1, word_lt x 2, word_lt x 3)

-- ---- what the code makes, step by step, is the chain

module _ (p : Part) (s : State) where
  pub made : (a x b y d z e w f r : State) → a ≡ subround 0 s p.k0.v p.k0.u p.k0.c → x ≡ exchanged_of a → b ≡ subround 1 x p.k1.v p.k1.u p.k1.c → y ≡ exchanged_of b
      → d ≡ subround 2 y p.k2.v p.k2.u p.k2.c → z ≡ exchanged_of d → e ≡ subround 3 z p.k3.v p.k3.u p.k3.c → w ≡ exchanged_of e → f ≡ subround 4 w p.k4.v p.k4.u p.k4.c → r ≡ exchanged_of f
      → r ≡ five_of p s
  unfolding five_of
  made a x b y d z e w f r g0 h0 g1 h1 g2 h2 g3 h3 g4 h4 =
      h4 ∙ ap exchanged_of (g4 ∙ ap (λ (t : State). subround 4 t p.k4.v p.k4.u p.k4.c)
      (h3 ∙ ap exchanged_of (g3 ∙ ap (λ (t : State). subround 3 t p.k3.v p.k3.u p.k3.c)
      (h2 ∙ ap exchanged_of (g2 ∙ ap (λ (t : State). subround 2 t p.k2.v p.k2.u p.k2.c)
      (h1 ∙ ap exchanged_of (g1 ∙ ap (λ (t : State). subround 1 t p.k1.v p.k1.u p.k1.c)
      (h0 ∙ ap exchanged_of g0))))))))

  pub unmade : (a x b y d z e w f r : State) → a ≡ exchanged_of s → x ≡ unsubround 4 a p.k4.v p.k4.u p.k4.c → b ≡ exchanged_of x → y ≡ unsubround 3 b p.k3.v p.k3.u p.k3.c
      → d ≡ exchanged_of y → z ≡ unsubround 2 d p.k2.v p.k2.u p.k2.c → e ≡ exchanged_of z → w ≡ unsubround 1 e p.k1.v p.k1.u p.k1.c → f ≡ exchanged_of w → r ≡ unsubround 0 f p.k0.v p.k0.u p.k0.c
      → r ≡ unfive_of p s
  unfolding unfive_of
  unmade a x b y d z e w f r h4 g4 h3 g3 h2 g2 h1 g1 h0 g0 =
      g0 ∙ ap (λ (t : State). unsubround 0 t p.k0.v p.k0.u p.k0.c) (h0 ∙ ap exchanged_of
      (g1 ∙ ap (λ (t : State). unsubround 1 t p.k1.v p.k1.u p.k1.c) (h1 ∙ ap exchanged_of
      (g2 ∙ ap (λ (t : State). unsubround 2 t p.k2.v p.k2.u p.k2.c) (h2 ∙ ap exchanged_of
      (g3 ∙ ap (λ (t : State). unsubround 3 t p.k3.v p.k3.u p.k3.c) (h3 ∙ ap exchanged_of
      (g4 ∙ ap (λ (t : State). unsubround 4 t p.k4.v p.k4.u p.k4.c) h4))))))))

-- ---- the chains

module _ (s : State) (ws : List ℕ) (i : ℕ) (few : 10 ≤ length ws) (near : i ≤ 35) (start : i % 5 ≡ 0) (word : (n : ℕ) → get_or ws n 0 < 2 ^ 32) where
  abbrev w : ℕ → ℕ
  w n = get_or ws n 0

  pub five_is : five_of (part_of ws i) s ≡ quintupled s ws i
  unfolding five_of rounds pairs_from
  five_is =
      let x0 : State = subround 0 s (w 0) (w 1) (tabled i) in
      let y0 : State = exchanged_of x0 in
      let x1 : State = subround 1 y0 (w 2) (w 3) (tabled (i + 1)) in
      let y1 : State = exchanged_of x1 in
      let x2 : State = subround 2 y1 (w 4) (w 5) (tabled (i + 2)) in
      let y2 : State = exchanged_of x2 in
      let x3 : State = subround 3 y2 (w 6) (w 7) (tabled (i + 3)) in
      let y3 : State = exchanged_of x3 in
      let x4 : State = subround 4 y3 (w 8) (w 9) (tabled (i + 4)) in
      let y4 : State = exchanged_of x4 in
      let b0 = go_on 0 s x0 y0 (w 0) (w 1) (tabled i) (suc i) _ (lit< tt) (carried 0 i i _ (lit< tt) (omega arith) refl refl) (block_in_none s) refl refl in
      let b1 = go_on 1 y0 x1 y1 (w 2) (w 3) (tabled (i + 1)) (suc (suc i)) _ (lit< tt) (carried 1 (i + 1) (suc i) _ (lit< tt) (omega arith) (add-one i) refl) b0 refl refl in
      let b2 = go_on 2 y1 x2 y2 (w 4) (w 5) (tabled (i + 2)) (suc (suc (suc i))) _ (lit< tt) (carried 2 (i + 2) (suc (suc i)) _ (lit< tt) (omega arith) (add-two i) refl) b1 refl refl in
      let b3 = go_on 3 y2 x3 y3 (w 6) (w 7) (tabled (i + 3)) (suc (suc (suc (suc i)))) _ (lit< tt) (carried 3 (i + 3) (suc (suc (suc i))) _ (lit< tt) (omega arith) (add-three i) refl) b2 refl refl in
      let b4 = go_on 4 y3 x4 y4 (w 8) (w 9) (tabled (i + 4)) (suc (suc (suc (suc (suc i))))) _ (lit< tt) (carried 4 (i + 4) (suc (suc (suc (suc i)))) _ (lit< tt) (omega arith) (add-four i) refl) b3 refl refl in
      done s ws i few near start y4 (round-words 4 y3 (w 8) (w 9) (tabled (i + 4)) (word 8) (word 9) (tabled-lt (i + 4))) (sym (block_in_five y4) ∙ b4)

  -- (undoing asks for four words of 32 bits, and the words of a block are such)
  pub unfive_is : unfive_of (part_of ws i) (state_of (block_of s)) ≡ unquintupled s ws i
  unfolding unfive_of unrounds pairs_from
  unfive_is =
      let z : State = state_of (block_of s) in
      let x4 : State = unsubround 4 (exchanged_of z) (w 8) (w 9) (tabled (i + 4)) in
      let x3 : State = unsubround 3 (exchanged_of x4) (w 6) (w 7) (tabled (i + 3)) in
      let x2 : State = unsubround 2 (exchanged_of x3) (w 4) (w 5) (tabled (i + 2)) in
      let x1 : State = unsubround 1 (exchanged_of x2) (w 2) (w 3) (tabled (i + 1)) in
      let x0 : State = unsubround 0 (exchanged_of x1) (w 0) (w 1) (tabled i) in
      let b4 =
      go_back 4 z (exchanged_of z) x4 (w 8) (w 9) (tabled (i + 4)) (suc (suc (suc (suc (suc i))))) _ (lit< tt) (words_of (block_of s)) (word 8) (word 9) (tabled-lt (i + 4))
      (carried 4 (i + 4) (suc (suc (suc (suc i)))) _ (lit< tt) (omega arith) (add-four i) refl) (block_in_five z ∙ block_of_state_of (block_of s) (block_of_lt s)) refl refl in
      let b3 =
      go_back 3 x4 (exchanged_of x4) x3 (w 6) (w 7) (tabled (i + 3)) (suc (suc (suc (suc i)))) _ (lit< tt) (unround-words 4 (exchanged_of z) (w 8) (w 9) (tabled (i + 4))) (word 6) (word 7) (tabled-lt (i + 3))
      (carried 3 (i + 3) (suc (suc (suc i))) _ (lit< tt) (omega arith) (add-three i) refl) b4 refl refl in
      let b2 =
      go_back 2 x3 (exchanged_of x3) x2 (w 4) (w 5) (tabled (i + 2)) (suc (suc (suc i))) _ (lit< tt) (unround-words 3 (exchanged_of x4) (w 6) (w 7) (tabled (i + 3))) (word 4) (word 5) (tabled-lt (i + 2))
      (carried 2 (i + 2) (suc (suc i)) _ (lit< tt) (omega arith) (add-two i) refl) b3 refl refl in
      let b1 =
      go_back 1 x2 (exchanged_of x2) x1 (w 2) (w 3) (tabled (i + 1)) (suc (suc i)) _ (lit< tt) (unround-words 2 (exchanged_of x3) (w 4) (w 5) (tabled (i + 2))) (word 2) (word 3) (tabled-lt (i + 1))
      (carried 1 (i + 1) (suc i) _ (lit< tt) (omega arith) (add-one i) refl) b2 refl refl in
      let b0 =
      go_back 0 x1 (exchanged_of x1) x0 (w 0) (w 1) (tabled i) (suc i) _ (lit< tt) (unround-words 1 (exchanged_of x2) (w 2) (w 3) (tabled (i + 1))) (word 0) (word 1) (tabled-lt i)
      (carried 0 i i _ (lit< tt) (omega arith) refl refl) b1 refl refl in
      undone s ws i few near start x0 (unround-words 0 (exchanged_of x1) (w 0) (w 1) (tabled i)) (sym (block_in_none x0) ∙ b0)
