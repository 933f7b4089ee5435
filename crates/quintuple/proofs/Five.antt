-- Five rounds, one after the other: what the proofs of the two quintuple rounds chain.
use mathlib.Core.Path.{◌≡◌, refl, sym, ap, ap₂, ◌∙◌}
use mathlib.Core.Bool.{Bool, true, false, ◌&&◌}
use mathlib.Core.List.{List, [], ◌∷◌}
use Prim.Native.Nat.{ℕ, zero, suc, ◌+◌, ◌-◌, ◌/◌, ◌%◌, ◌^◌, ◌≤◌, ◌<◌, suc-le-suc}
use native.Mathlib.Nat.{le_of_suc-le-suc, not-suc-le-zero}
use native.Mathlib.Omega.{arith}
use lib.Dec.{leb, eqb}
use lib.ListN.{length, get_or, take}
use borrow.Author.Tests.{le-leb, lt-leb, eq-eqb, leb-true, eqb-true}
use Rattle.bits.specs.Digit.{bit}
use Rattle.bits.proofs.Bits.{of_bits_cong}
use Rattle.bits.proofs.Truth.{both}
use Rattle.bits.proofs.Computed.{cond-true, cond-false}
use Rattle.published.specs.Rounds.{constant, round, unround}
use Rattle.published.specs.Gift128.{rounds128, unrounds128}
use Rattle.published.proofs.Words.{four}
use Rattle.primitives.specs.declared.State.{State}
use Rattle.primitives.specs.Packed.{word_of, block_of, state_of, Words}
use Rattle.primitives.proofs.Moves.{bit-permuted}
use Rattle.primitives.proofs.Blocks.{state_of_block_of}
use Rattle.round_words.specs.Arranged.{nibble_at, stands, arranged, constant_word, pairs_from}
use Rattle.round_words.proofs.Arrangements.{arranged-lt, stands_arranged}
use Rattle.quintuple.specs.Quintuple.{good, quintupled, unquintupled}
use Rattle.quintuple.specs.Inner.{exchanged_of, subround, unsubround, tabled, block_in}
use Rattle.quintuple.proofs.Fixslice.{constant-lt, subround_is_round, unsubround_is_unround}

and-false : (b : Bool) → (b && false) ≡ false
and-false false = refl
and-false true = refl

-- the first n of a list, one by one
listed : ℕ → (ℕ → ℕ) → List ℕ
listed zero f = []
listed (suc n) f = f 0 ∷ listed n (λ i. f (suc i))

take-listed : (n : ℕ) (l : List ℕ) → n ≤ length l → take n l ≡ listed n (λ i. get_or l i 0)
unfolding listed
take-listed zero l h = refl
take-listed (suc n) [] h = absurd (not-suc-le-zero h)
take-listed (suc n) (x ∷ l) h = ap (λ (t : List ℕ). x ∷ t) (take-listed n l (le_of_suc-le-suc h))

abbrev pub ten : List ℕ → List ℕ
ten ws =
    get_or ws 0 0 ∷ get_or ws 1 0 ∷ get_or ws 2 0 ∷ get_or ws 3 0 ∷ get_or ws 4 0 ∷ get_or ws 5 0 ∷ get_or ws 6 0 ∷ get_or ws 7 0 ∷ get_or ws 8 0 ∷ get_or ws 9 0 ∷ []

pub first_two : (ws : List ℕ) → 2 ≤ length ws → take 2 ws ≡ get_or ws 0 0 ∷ get_or ws 1 0 ∷ []
unfolding listed
first_two ws h = take-listed 2 ws h

pub first_ten : (ws : List ℕ) → 10 ≤ length ws → take 10 ws ≡ ten ws
unfolding listed
first_ten ws h = take-listed 10 ws h

pub tabled-lt : (r : ℕ) → tabled r < 2 ^ 32
unfolding constant_word
tabled-lt r = arranged-lt (suc (r % 5)) (2 ^ 31 + constant (suc r))

-- a word of the table stands for its round's constant
pub carried : (k r r' c : ℕ) → k < 5 → r % 5 ≡ k → r ≡ r' → c ≡ tabled r → stands (suc k) c ≡ 2 ^ 31 + constant (suc r')
unfolding constant_word
carried k r r' c hk at same e =
    ap (stands (suc k))
    (e ∙ ap₂ (λ (j m : ℕ). arranged (suc j) (2 ^ 31 + constant (suc m))) at same)
    ∙ stands_arranged (suc k) (2 ^ 31 + constant (suc r')) (suc-le-suc hk) (omega (arith, constant-lt (suc r')))

-- one more round
pub go_on : (k : ℕ) (x a y : State) (v u c r b : ℕ) → k < 5 → stands (suc k) c ≡ 2 ^ 31 + constant r → block_in k x ≡ b → a ≡ subround k x v u c → y ≡ exchanged_of a
    → block_in (suc k) y ≡ round 128 1 (record { u = stands (suc k) u; v = stands (suc k) v }) (constant r) b
go_on k x a y v u c r b hk carries before made swapped =
    ap (block_in (suc k)) (swapped ∙ ap exchanged_of made) ∙ subround_is_round k hk x v u c (constant r) (constant-lt r) carries
    ∙ ap (round 128 1 _ (constant r)) before

-- one round less, and what it leaves are words again
pub go_back : (k : ℕ) (x y a : State) (v u c r b : ℕ) → k < 5 → Words x → v < 2 ^ 32 → u < 2 ^ 32 → c < 2 ^ 32 → stands (suc k) c ≡ 2 ^ 31 + constant r
    → block_in (suc k) x ≡ b → y ≡ exchanged_of x → a ≡ unsubround k y v u c
    → block_in k a ≡ unround 128 1 (record { u = stands (suc k) u; v = stands (suc k) v }) (constant r) b
go_back k x y a v u c r b hk hx hv hu hc carries before swapped made =
    ap (block_in k) (made ∙ ap (λ (z : State). unsubround k z v u c) swapped)
    ∙ unsubround_is_unround k hk (exchanged_of x) v u c (hx.3, hx.1, hx.2, hx.0) hv hu hc (constant r) (constant-lt r) carries
    ∙ ap (unround 128 1 _ (constant r)) before

-- ---- the tests of the two calls, and what the calls give by them

pub all_good : (ws : List ℕ) (i : ℕ) → 10 ≤ length ws → i ≤ 35 → i % 5 ≡ 0 → good ws i ≡ true
all_good ws i hw hi h5 = ap₂ ◌&&◌ (le-leb 10 (length ws) hw) (ap₂ ◌&&◌ (le-leb i 35 hi) (eq-eqb (i % 5) 0 h5))

pub too_few : (ws : List ℕ) (i : ℕ) → length ws < 10 → good ws i ≡ false
too_few ws i h = ap (λ (b : Bool). b && (leb i 35 && eqb (i % 5) 0)) (lt-leb 10 (length ws) h)

pub too_far : (ws : List ℕ) (i : ℕ) → 35 < i → good ws i ≡ false
too_far ws i h = ap (λ (b : Bool). leb 10 (length ws) && (b && eqb (i % 5) 0)) (lt-leb i 35 h) ∙ and-false (leb 10 (length ws))

pub enough : (ws : List ℕ) (i : ℕ) → 10 ≤ length ws → i ≤ 35 → good ws i ≡ eqb (i % 5) 0
enough ws i hw hi = ap₂ (λ (a b : Bool). a && (b && eqb (i % 5) 0)) (le-leb 10 (length ws) hw) (le-leb i 35 hi)

-- what the tests told
pub is_good_lem : (ws : List ℕ) (i : ℕ) → good ws i ≡ true → (10 ≤ length ws) × (i ≤ 35) × (i % 5 ≡ 0)
is_good_lem ws i e =
    let first = both (leb 10 (length ws)) (leb i 35 && eqb (i % 5) 0) e in
    let rest = both (leb i 35) (eqb (i % 5) 0) first.1 in
    (leb-true 10 (length ws) first.0, leb-true i 35 rest.0, eqb-true (i % 5) 0 rest.1)

module _ (s : State) (ws : List ℕ) (i : ℕ) where
  pub stays : good ws i ≡ false → s ≡ quintupled s ws i
  unfolding quintupled
  stays e = sym (cond-false _ _ _ e)

  pub unstays : good ws i ≡ false → s ≡ unquintupled s ws i
  unfolding unquintupled
  unstays e = sym (cond-false _ _ _ e)

  module _ (few : 10 ≤ length ws) (near : i ≤ 35) (start : i % 5 ≡ 0) (r : State) (hr : Words r) where
    pub done : block_of r ≡ rounds128 (pairs_from 0 (ten ws)) i (block_of s) → r ≡ quintupled s ws i
    unfolding quintupled
    done e =
        sym
        (cond-true _ _ _ (all_good ws i few near start)
        ∙ ap (λ (l : List ℕ). state_of (rounds128 (pairs_from 0 l) i (block_of s))) (first_ten ws few)
        ∙ ap state_of (sym e)
        ∙ state_of_block_of r hr)

    pub undone : block_of r ≡ unrounds128 (pairs_from 0 (ten ws)) i (block_of s) → r ≡ unquintupled s ws i
    unfolding unquintupled
    undone e =
        sym
        (cond-true _ _ _ (all_good ws i few near start)
        ∙ ap (λ (l : List ℕ). state_of (unrounds128 (pairs_from 0 l) i (block_of s))) (first_ten ws few)
        ∙ ap state_of (sym e)
        ∙ state_of_block_of r hr)

-- words kept k rounds in, each put in place, make the block that they stand for
pub in_place : (k : ℕ) (x : State) → block_of (record { s0 = stands k x.s0; s1 = stands k x.s1; s2 = stands k x.s2; s3 = stands k x.s3 }) ≡ block_in k x
unfolding block_of block_in stands
in_place k x =
    of_bits_cong 128 _ _
    (λ q h.
    four
    (λ (j : ℕ). bit (word_of (record { s0 = stands k x.s0; s1 = stands k x.s1; s2 = stands k x.s2; s3 = stands k x.s3 }) j) (q / 4) ≡ bit (word_of x j) (nibble_at (5 - k) (q / 4)))
    (bit-permuted (nibble_at (5 - k)) x.s0 (q / 4) (omega arith))
    (bit-permuted (nibble_at (5 - k)) x.s1 (q / 4) (omega arith))
    (bit-permuted (nibble_at (5 - k)) x.s2 (q / 4) (omega arith))
    (bit-permuted (nibble_at (5 - k)) x.s3 (q / 4) (omega arith)) (q % 4) (omega arith))
