-- Hex digits read: what a byte stands for, by a test over all that it can be; digits one after the other, and two to a byte.
use mathlib.Core.Path.{◌≡◌, refl, sym, ap, ap₂, ◌∙◌}
use mathlib.Core.Bool.{Bool, true, false, cond, ◌&&◌}
use mathlib.Core.List.{List, [], ◌∷◌}
use Prim.Native.Nat.{ℕ, zero, suc, ◌+◌, ◌-◌, ◌*◌, ◌/◌, ◌%◌, ◌≤◌, ◌<◌}
use native.Mathlib.Nat.{div-one, not-suc-le-zero, le_of_suc-le-suc}
use native.Mathlib.Omega.{arith}
use lib.Dec.{ltb, leb}
use lib.ListN.{length, get_or}
use borrow.Author.Tests.{ltb-true, ltb-false, leb-true, lt-ltb, le-ltb, le-leb, lt-leb}
use borrow.Author.Count.{below_more}
use Rattle.std.specs.Int.{w32, to_be_bytes}
use Rattle.bits.specs.Digit.{digit}
use Rattle.bits.proofs.Computed.{agree}
use Rattle.published.specs.Bytes.{to_bytes}
use Rattle.text.specs.Hex.{hex_digits, place_of, value_of, all_hex, bytes_of}

-- the sixteen digits are two runs of bytes
pub value_is : (c : ℕ) → c < 256 → cond (ltb c 48) 16 (cond (leb c 57) (c - 48) (cond (ltb c 97) 16 (cond (leb c 102) (c - 97 + 10) 16))) ≡ value_of c
unfolding value_of
value_is = agree 256 (λ c. cond (ltb c 48) 16 (cond (leb c 57) (c - 48) (cond (ltb c 97) 16 (cond (leb c 102) (c - 97 + 10) 16)))) (λ c. place_of c hex_digits) tt

pub decimal_value : (c : ℕ) → c < 256 → 48 ≤ c → c ≤ 57 → value_of c ≡ c - 48
decimal_value c b low high = simp (le-ltb c 48 low, le-leb c 57 high) at (sym (value_is c b))

pub letter-value : (c : ℕ) → c < 256 → 97 ≤ c → c ≤ 102 → value_of c ≡ c - 97 + 10
letter-value c b low high =
    let past : 57 < c = omega arith in
    simp (le-ltb c 48 (omega arith), lt-leb c 57 past, le-ltb c 97 low, le-leb c 102 high) at (sym (value_is c b))

pub no_value : (c : ℕ) → c < 256 → (48 ≤ c → c ≤ 57 → ⊥) → (97 ≤ c → c ≤ 102 → ⊥) → value_of c < 16 → ⊥
no_value c b p q h = go (ltb c 48) refl (leb c 57) refl (ltb c 97) refl (leb c 102) refl (value_is c b)
  where
    go :
        (s : Bool) → ltb c 48 ≡ s → (t : Bool) → leb c 57 ≡ t → (u : Bool) → ltb c 97 ≡ u → (v : Bool) → leb c 102 ≡ v
        → cond s 16 (cond t (c - 48) (cond u 16 (cond v (c - 97 + 10) 16))) ≡ value_of c → ⊥
    go true _ _ _ _ _ _ _ e = omega arith
    go false d true f _ _ _ _ e = p (ltb-false c 48 d) (leb-true c 57 f)
    go false d false f true _ _ _ e = omega arith
    go false d false f false k true m e = q (ltb-false c 97 k) (leb-true c 102 m)
    go false d false f false k false m e = omega arith

pub both : (a b : Bool) → a && b ≡ true → (a ≡ true) × (b ≡ true)
both true b e = (refl, e)
both false b e = (e, absurd (never e))
  where
    never : false ≡ true → ⊥
    never p = let z : ◌≡◌ {A = ℕ} 0 1 = cc in omega arith

-- hex digits one after the other
pub hex_at : (text : List ℕ) → all_hex text ≡ true → (i : ℕ) → i < length text → value_of (get_or text i 0) < 16
unfolding all_hex
hex_at [] e i h = absurd (not-suc-le-zero h)
hex_at (c ∷ cs) e zero h = ltb-true (value_of c) 16 (both (ltb (value_of c) 16) (all_hex cs) e).0
hex_at (c ∷ cs) e (suc i) h = hex_at cs (both (ltb (value_of c) 16) (all_hex cs) e).1 i (le_of_suc-le-suc h)

pub all_are_hex : (text : List ℕ) → ((k : ℕ) → k < length text → value_of (get_or text k 0) < 16) → all_hex text ≡ true
unfolding all_hex
all_are_hex [] h = refl
all_are_hex (c ∷ cs) h = rw (lt-ltb (value_of c) 16 (h 0 (omega arith))) (all_are_hex cs (λ k l. h (suc k) (omega arith)))

pub two_more : (text : List ℕ) (i : ℕ) → ((k : ℕ) → k < 2 * i → value_of (get_or text k 0) < 16) → value_of (get_or text (2 * i) 0) < 16
    → value_of (get_or text (2 * i + 1) 0) < 16 → (k : ℕ) → k < 2 * (i + 1) → value_of (get_or text k 0) < 16
two_more text i h high low k l =
    let next : 2 * (i + 1) ≡ 2 * i + 1 + 1 = omega arith in
    below_more (λ n. value_of (get_or text n 0) < 16) (2 * i + 1) (below_more (λ n. value_of (get_or text n 0) < 16) (2 * i) h high) low k (omega arith)

pub length_bytes_of : (n : ℕ) (text : List ℕ) → length text ≡ n + n → length (bytes_of text) ≡ n
unfolding bytes_of
length_bytes_of zero [] e = refl
length_bytes_of zero (c ∷ cs) e = absurd (omega arith)
length_bytes_of (suc n) [] e = absurd (omega arith)
length_bytes_of (suc n) (c ∷ []) e = absurd (omega arith)
length_bytes_of (suc n) (c ∷ d ∷ cs) e = ap suc (length_bytes_of n cs (omega arith))

pub byte_at : (text : List ℕ) (i : ℕ) → 2 * i + 1 < length text → get_or (bytes_of text) i 0 ≡ value_of (get_or text (2 * i) 0) * 16 + value_of (get_or text (2 * i + 1) 0)
unfolding bytes_of
byte_at [] i h = absurd (not-suc-le-zero h)
byte_at (c ∷ []) i h = absurd (omega arith)
byte_at (c ∷ d ∷ cs) zero h = refl
byte_at (c ∷ d ∷ cs) (suc i) h = byte_at cs i (omega arith) ∙ ap₂ (λ (m n : ℕ). value_of (get_or (c ∷ d ∷ cs) m 0) * 16 + value_of (get_or (c ∷ d ∷ cs) n 0)) (two i) (three i)
  where
    two : (i : ℕ) → suc (suc (2 * i)) ≡ 2 * suc i
    two i = omega arith

    three : (i : ℕ) → suc (suc (2 * i + 1)) ≡ 2 * suc i + 1
    three i = omega arith

-- the bytes of a word
pub word_bytes : (x : ℕ) → to_be_bytes w32 x ≡ to_bytes 4 x
unfolding digit to_bytes
word_bytes x = ap (λ (d : ℕ). x / 16777216 % 256 ∷ x / 65536 % 256 ∷ x / 256 % 256 ∷ d % 256 ∷ []) (sym (div-one x))
