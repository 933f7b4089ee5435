-- The published key state, five rounds at a time: its pairs U, V are the tens, each made of the ten that stands two before it.
use mathlib.Core.Path.{◌≡◌, refl, sym, ap, ap₂, ◌∙◌}
use mathlib.Core.Bool.{cond}
use mathlib.Core.List.{List, [], ◌++◌}
use Prim.Native.Nat.{ℕ, zero, suc, ◌+◌, ◌-◌, ◌^◌, ◌<◌}
use native.Mathlib.Omega.{arith}
use lib.Arith.{digits_lt}
use lib.Dec.{eqb, ltb, lit<}
use Rattle.bits.specs.Digit.{digit, number}
use Rattle.bits.proofs.Digits.{digit_lt, digit-number}
use Rattle.bits.proofs.Truth.{cond_either}
use Rattle.published.specs.Rounds.{Pair}
use Rattle.published.specs.Key.{◌‖◌, ror16, update, pairs}
use Rattle.published.specs.Gift128.{pair_of}
use Rattle.round_words.specs.Arranged.{arranged, stands, words_from}
use Rattle.round_words.proofs.Arrangements.{stands_arranged, stands_lt}
use Rattle.key_schedule.specs.declared.Four.{Four}
use Rattle.key_schedule.specs.InnerUpdate.{updated, updates, later}
use Rattle.key_schedule.specs.InnerTens.{Ten, five_rounds, five_later, ten_later, ten_further, words_of}
use Rattle.key_schedule.proofs.Updates.{ror16-lt, updated-lt}
use Rattle.key_schedule.proofs.TenWords.{same_four, same_ten}

pub word_lt : (key i : ℕ) → digit 65536 key i < 2 ^ 16
word_lt key i = digit_lt 65536 (lit< tt) key i

-- ---- the words of an updated key state

abbrev word_on : ℕ → ℕ → ℕ
word_on key i = cond (ltb i 6) (digit 65536 key (i + 2)) (ror16 (cond (eqb i 6) 12 2) (digit 65536 key (i - 6)))

update-words : (key : ℕ) → update key ≡ number 65536 8 (word_on key)
unfolding update number
update-words key = omega arith

word-update : (key i : ℕ) → i < 8 → digit 65536 (update key) i ≡ word_on key i
word-update key i h =
    ap (λ (x : ℕ). digit 65536 x i) (update-words key)
    ∙ digit-number 65536 (lit< tt) 8 (word_on key) (λ j l. cond_either (λ (x : ℕ). x < 2 ^ 16) (ltb j 6) _ _ (λ e. word_lt key (j + 2)) (λ e. ror16-lt _ _)) i h

words-update : (key i j : ℕ) → i < 8 → j < 8 → digit 65536 (update key) i ‖ digit 65536 (update key) j ≡ word_on key i ‖ word_on key j
words-update key i j h l = ap₂ ◌‖◌ (word-update key i h) (word-update key j l)

-- ---- the pair of a key state, the one a round later and the one two rounds later

pub u-lt : (key : ℕ) → (pair_of key).u < 2 ^ 32
unfolding pair_of
u-lt key = digits_lt (word_lt key 5) (word_lt key 4)

pub v-lt : (key : ℕ) → (pair_of key).v < 2 ^ 32
unfolding pair_of
v-lt key = digits_lt (word_lt key 1) (word_lt key 0)

pub one_on : (key : ℕ) → pair_of (update key) ≡ record { u = digit 65536 key 7 ‖ digit 65536 key 6; v = digit 65536 key 3 ‖ digit 65536 key 2 }
unfolding pair_of
one_on key = λ i. record { u = words-update key 5 4 (lit< tt) (lit< tt) i; v = words-update key 1 0 (lit< tt) (lit< tt) i }

updated-words : (a b : ℕ) → a < 2 ^ 16 → b < 2 ^ 16 → updated (a ‖ b) ≡ ror16 2 a ‖ ror16 12 b
unfolding updated digit
updated-words a b h l = ap₂ (λ (x y : ℕ). ror16 2 x ‖ ror16 12 y) (omega arith) (omega arith)

-- two rounds on, V is the U before and U the V before, updated
abbrev pub two_on : Pair → Pair
two_on p = record { u = updated p.v; v = p.u }

pub two_on_lem : (key : ℕ) → pair_of (update (update key)) ≡ two_on (pair_of key)
unfolding pair_of
two_on_lem key =
    one_on (update key)
    ∙ (λ i. record { u = (words-update key 7 6 (lit< tt) (lit< tt) ∙ sym (updated-words (digit 65536 key 1) (digit 65536 key 0) (word_lt key 1) (word_lt key 0))) i; v = words-update key 3 2 (lit< tt) (lit< tt) i })

-- ---- five rounds

unfoldable pub four_of : ℕ → Four
four_of key = record { v0 = (pair_of key).v; u0 = (pair_of key).u; v1 = (pair_of (update key)).v; u1 = (pair_of (update key)).u }

abbrev pub five_on : ℕ → ℕ
five_on key = update (update (update (update (update key))))

module _ (key : ℕ) where
  p2 : pair_of (update (update key)) ≡ two_on (pair_of key)
  p2 = two_on_lem key

  p3 : pair_of (update (update (update key))) ≡ two_on (pair_of (update key))
  p3 = two_on_lem (update key)

  p4 : pair_of (update (update (update (update key)))) ≡ two_on (two_on (pair_of key))
  p4 = two_on_lem (update (update key)) ∙ ap two_on p2

  p5 : pair_of (five_on key) ≡ two_on (two_on (pair_of (update key)))
  p5 = two_on_lem (update (update (update key))) ∙ ap two_on p3

  p6 : pair_of (update (five_on key)) ≡ two_on (two_on (two_on (pair_of key)))
  p6 = two_on_lem (update (update (update (update key)))) ∙ ap two_on p4

  pub four-later : four_of (five_on key) ≡ five_later (four_of key)
  unfolding four_of five_later
  four-later =
      same_four (four_of (five_on key)) (five_later (four_of key)) (ap (λ (p : Pair). p.v) p5) (ap (λ (p : Pair). p.u) p5) (ap (λ (p : Pair). p.v) p6)
      (ap (λ (p : Pair). p.u) p6)

  -- the words of the five rounds from key on
  pub ten-words : (r : ℕ) → words_from 0 (pairs pair_of (suc (suc (suc (suc (suc r))))) key) ≡ words_of (five_rounds (four_of key)) ++ words_from 0 (pairs pair_of r (five_on key))
  unfolding pairs words_from four_of five_rounds
  ten-words r = rw (p4, p3, p2)

-- ten rounds later each word is updated twice or three times, in its arrangement
later-arranged : (j m w : ℕ) → j < 6 → w < 2 ^ 32 → later j m (arranged j w) ≡ arranged j (updates m w)
unfolding later
later-arranged j m w h l = ap (λ (x : ℕ). arranged j (updates m x)) (stands_arranged j w h l)

pub ten_on_lem : (w : Four) → w.v0 < 2 ^ 32 → w.u0 < 2 ^ 32 → w.v1 < 2 ^ 32 → w.u1 < 2 ^ 32 → ten_later (five_rounds w) ≡ five_rounds (five_later (five_later w))
unfolding ten_later five_rounds five_later updates
ten_on_lem w v0 u0 v1 u1 =
    same_ten (ten_later (five_rounds w)) (five_rounds (five_later (five_later w)))
    (later-arranged 1 2 w.u0 (lit< tt) u0)
    (later-arranged 1 3 w.v0 (lit< tt) v0)
    (later-arranged 2 2 w.u1 (lit< tt) u1)
    (later-arranged 2 3 w.v1 (lit< tt) v1)
    (later-arranged 3 2 (updated w.v0) (lit< tt) (updated-lt w.v0))
    (later-arranged 3 3 w.u0 (lit< tt) u0)
    (later-arranged 4 2 (updated w.v1) (lit< tt) (updated-lt w.v1))
    (later-arranged 4 3 w.u1 (lit< tt) u1)
    (later-arranged 5 2 (updated w.u0) (lit< tt) (updated-lt w.u0))
    (later-arranged 5 3 (updated w.v0) (lit< tt) (updated-lt w.v0))

-- forty words further is twice twenty words further: updates in an arrangement add up
updates-lt : (m w : ℕ) → w < 2 ^ 32 → updates m w < 2 ^ 32
unfolding updates
updates-lt zero w h = h
updates-lt (suc m) w h = updated-lt (updates m w)

updates-add : (m n w : ℕ) → updates m (updates n w) ≡ updates (n + m) w
unfolding updates
updates-add zero n w = let none : n ≡ n + 0 = omega arith in ap (λ (k : ℕ). updates k w) none
updates-add (suc m) n w = let more : suc (n + m) ≡ n + suc m = omega arith in ap updated (updates-add m n w) ∙ ap (λ (k : ℕ). updates k w) more

later-twice : (k m n x : ℕ) → k < 6 → later k (n + m) x ≡ later k m (later k n x)
unfolding later
later-twice k m n x h =
    sym (later-arranged k m (updates n (stands k x)) h (updates-lt n (stands k x) (stands_lt k x)) ∙ ap (arranged k) (updates-add m n (stands k x)))

pub ten-further : (t : Ten) → ten_further t ≡ ten_later (ten_later t)
unfolding ten_further ten_later
ten-further t =
    same_ten (ten_further t) (ten_later (ten_later t))
    (later-twice 1 2 3 t.v0 (lit< tt))
    (later-twice 1 3 2 t.u0 (lit< tt))
    (later-twice 2 2 3 t.v1 (lit< tt))
    (later-twice 2 3 2 t.u1 (lit< tt))
    (later-twice 3 2 3 t.v2 (lit< tt))
    (later-twice 3 3 2 t.u2 (lit< tt))
    (later-twice 4 2 3 t.v3 (lit< tt))
    (later-twice 4 3 2 t.u3 (lit< tt))
    (later-twice 5 2 3 t.v4 (lit< tt))
    (later-twice 5 3 2 t.u4 (lit< tt))

-- ---- all rounds

abbrev pub ten_on : ℕ → Ten
ten_on key = five_rounds (four_of key)

ten_later_on : (key : ℕ) → ten_later (ten_on key) ≡ ten_on (five_on (five_on key))
unfolding four_of
ten_later_on key =
    ten_on_lem (four_of key) (v-lt key) (u-lt key) (v-lt (update key)) (u-lt (update key)) ∙ sym (ap five_rounds (four-later (five_on key) ∙ ap five_later (four-later key)))

-- n tens that follow the tens a, b, each made of the ten that stands two before it
unfoldable pub following : ℕ → Ten → Ten → List ℕ
following zero a b = []
following (suc n) a b = words_of (ten_later a) ++ following n b (ten_later a)

-- five times n
abbrev pub fives : ℕ → ℕ
fives zero = zero
fives (suc n) = suc (suc (suc (suc (suc (fives n)))))

follow_on : (n key : ℕ) → following n (ten_on key) (ten_on (five_on key)) ≡ words_from 0 (pairs pair_of (fives n) (five_on (five_on key)))
unfolding following words_from pairs
follow_on zero key = refl
follow_on (suc n) key =
    ap (λ (x : Ten). words_of x ++ following n (ten_on (five_on key)) x) (ten_later_on key)
    ∙ ap (◌++◌ (words_of (ten_on (five_on (five_on key))))) (follow_on n (five_on key))
    ∙ sym (ten-words (five_on (five_on key)) (fives n))

-- the words of a key state's rounds are two tens and the tens that follow them
pub tens_of : (n key : ℕ)
    → words_from 0 (pairs pair_of (fives (suc (suc n))) key) ≡ words_of (ten_on key) ++ (words_of (ten_on (five_on key)) ++ following n (ten_on key) (ten_on (five_on key)))
tens_of n key =
    ten-words key (fives (suc n)) ∙ ap (◌++◌ (words_of (ten_on key))) (ten-words (five_on key) (fives n) ∙ ap (◌++◌ (words_of (ten_on (five_on key)))) (sym (follow_on n key)))
