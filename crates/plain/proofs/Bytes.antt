-- Bytes and nibbles: byte m from the end of a block has nibbles 2m and 2m + 1. Bytes and the key's words: word m has bytes 2m and 2m + 1 from the end.
use mathlib.Core.Path.{◌≡◌, refl, sym, ap, ap₂, ◌∙◌}
use mathlib.Core.List.{List}
use Prim.Native.Nat.{ℕ, zero, suc, ◌+◌, ◌-◌, ◌*◌, ◌/◌, ◌%◌, ◌^◌, ◌≤◌, ◌<◌}
use native.Mathlib.Nat.{add-zero, mul-one, one-mul, pow-zero, pow-suc, one-le-pow, le_of_suc-le-suc, not-suc-le-zero}
use native.Mathlib.Decide.{ℕ_discrete}
use native.Mathlib.Omega.{arith}
use lib.Dec.{lit<}
use lib.ListN.{length, get_or, set, replicate, length-set}
use lib.Seq.{ext_get_or, get_or-set_same, get_or-set_other}
use Rattle.bits.specs.Digit.{digit, number}
use Rattle.bits.proofs.Digits.{digit-digit, digit_lt, number_cong, number-digit}
use Rattle.published.specs.Bytes.{from_bytes, to_bytes, Bytes}
use Rattle.published.proofs.Reading.{digit-from_bytes, length_to_bytes}
use Rattle.published.proofs.Gift128.{block-lt}
use Rattle.plain_key.specs.Inner.{key_of}
use Rattle.plain.specs.Inner.{state_of, nibbles_of}
use Rattle.plain.proofs.Nibbles.{nibbles_are, digit_state_of}

-- ---- two digits are one to the base's square: two nibbles a byte, two bytes a word of the key

two_digits : (b : ℕ) → zero < b → (x m : ℕ) → digit (b ^ 2) x m ≡ digit b x (2 * m + 1) * b + digit b x (2 * m)
unfolding number
two_digits b pos x m =
    let z : ℕ = digit (b ^ 2) x m in
    sym (number-digit b pos 2 z (digit_lt (b ^ 2) (one-le-pow 2 b pos) x m))
    ∙ ap₂ (λ (high low : ℕ). high * b ^ 1 + (low * b ^ 0 + 0)) (digit-digit b pos 2 x m 1 (lit< tt)) (digit-digit b pos 2 x m 0 (lit< tt) ∙ ap (digit b x) (add-zero (2 * m)))
    ∙ simp (power, pow-zero, mul-one, add-zero)
  where
    power : b ^ 1 ≡ b
    power = pow-suc b 0 ∙ ap (λ (y : ℕ). y * b) (pow-zero b) ∙ one-mul b

module _ (x m : ℕ) where
  low_nibble : digit 16 x (2 * m) ≡ digit 256 x m % 16
  low_nibble = omega (arith, two_digits 16 (lit< tt) x m, digit_lt 16 (lit< tt) x (2 * m), digit_lt 16 (lit< tt) x (2 * m + 1))

  high_nibble : digit 16 x (2 * m + 1) ≡ digit 256 x m / 16
  high_nibble = omega (arith, two_digits 16 (lit< tt) x m, digit_lt 16 (lit< tt) x (2 * m), digit_lt 16 (lit< tt) x (2 * m + 1))

-- ---- a block read: the nibbles of the bytes that stand less than i from the end are there

pub record Read (x i : ℕ) (ns now : List ℕ) : Type 0 where
  pub same : length now ≡ length ns
  pub past : (k : ℕ) → k < 2 * i → get_or now k 0 ≡ digit 16 x k

pub read_none : (x : ℕ) (ns : List ℕ) → Read x 0 ns ns
read_none x ns = record { same = refl; past = λ k h. omega arith }

pub read_next : (bs ns now : List ℕ) (i : ℕ) → Bytes bs → length ns ≡ 2 * length bs → i < length bs → Read (from_bytes bs) i ns now
    → Read (from_bytes bs) (i + 1) ns (set (set now (2 * i) (get_or bs (length bs - 1 - i) 0 % 16)) (2 * i + 1) (get_or bs (length bs - 1 - i) 0 / 16))
read_next bs ns now i bytes len h t =
    record {
      same = length-set (set now (2 * i) low) (2 * i + 1) high ∙ length-set now (2 * i) low ∙ t.same;
      past =
          λ k l.
          elim (ℕ_discrete k (2 * i + 1)) [
            | yes e ↦
                rw (e, get_or-set_same (set now (2 * i) low) (2 * i + 1) high 0 (rw (length-set now (2 * i) low, t.same) (omega arith)))
                (ap (λ (y : ℕ). y / 16) (sym here) ∙ sym (high_nibble (from_bytes bs) i))
            | no ne ↦
                get_or-set_other (set now (2 * i) low) (2 * i + 1) k high 0 ne
                ∙ elim (ℕ_discrete k (2 * i)) [
                  | yes e ↦
                      rw (e, get_or-set_same now (2 * i) low 0 (rw t.same (omega arith)))
                      (ap (λ (y : ℕ). y % 16) (sym here) ∙ sym (low_nibble (from_bytes bs) i))
                  | no nd ↦ get_or-set_other now (2 * i) k low 0 nd ∙ t.past k (omega arith)
                ]
          ];
    }
  where
    here : digit 256 (from_bytes bs) i ≡ get_or bs (length bs - 1 - i) 0
    here = digit-from_bytes bs bytes i h

    low : ℕ
    low = get_or bs (length bs - 1 - i) 0 % 16

    high : ℕ
    high = get_or bs (length bs - 1 - i) 0 / 16

pub read_all : (x i : ℕ) (ns now : List ℕ) → length ns ≤ 2 * i → Read x i ns now → now ≡ nibbles_of (length ns) x
read_all x i ns now h t = nibbles_are (length ns) x now t.same (λ k l. t.past k (omega arith))

-- ---- a block written: its bytes that stand less than i from the end are there

get_or_to_bytes : (k x p : ℕ) → p < k → get_or (to_bytes k x) p 0 ≡ digit 256 x (k - 1 - p)
unfolding to_bytes
get_or_to_bytes zero x p h = absurd (not-suc-le-zero h)
get_or_to_bytes (suc k) x zero h = ap (digit 256 x) last
  where
    last : k ≡ suc k - 1 - 0
    last = omega arith
get_or_to_bytes (suc k) x (suc p) h = get_or_to_bytes k x p (le_of_suc-le-suc h) ∙ ap (digit 256 x) before
  where
    before : k - 1 - p ≡ suc k - 1 - suc p
    before = omega arith

pub record Written (x i : ℕ) (bs now : List ℕ) : Type 0 where
  pub same : length now ≡ length bs
  pub past : (m : ℕ) → m < i → get_or now (length bs - 1 - m) 0 ≡ digit 256 x m

pub written_none : (x : ℕ) (bs : List ℕ) → Written x 0 bs bs
written_none x bs = record { same = refl; past = λ m h. omega arith }

pub written_next : (ns bs now : List ℕ) (i : ℕ) → ((k : ℕ) → get_or ns k 0 < 16) → length ns ≡ 2 * length bs → i < length bs → Written (state_of ns) i bs now
    → Written (state_of ns) (i + 1) bs (set now (length now - 1 - i) (get_or ns (2 * i + 1) 0 * 16 + get_or ns (2 * i) 0))
written_next ns bs now i small len h t =
    rw t.same
    record {
      same = length-set now (length bs - 1 - i) new ∙ t.same;
      past =
          λ m l.
          elim (ℕ_discrete m i) [
            | yes e ↦ rw (e, get_or-set_same now (length bs - 1 - i) new 0 (rw t.same (omega arith))) is
            | no ne ↦ get_or-set_other now (length bs - 1 - i) (length bs - 1 - m) new 0 (λ e. ne (omega arith)) ∙ t.past m (omega arith)
          ];
    }
  where
    new : ℕ
    new = get_or ns (2 * i + 1) 0 * 16 + get_or ns (2 * i) 0

    is : new ≡ digit 256 (state_of ns) i
    is =
        ap₂ (λ (a b : ℕ). a * 16 + b) (sym (digit_state_of ns small (2 * i + 1) (omega arith))) (sym (digit_state_of ns small (2 * i) (omega arith)))
        ∙ sym (two_digits 16 (lit< tt) (state_of ns) i)

pub written_all : (x i : ℕ) (bs now : List ℕ) → length bs ≤ i → Written x i bs now → now ≡ to_bytes (length bs) x
written_all x i bs now h t =
    ext_get_or 0 now (to_bytes (length bs) x) (t.same ∙ sym (length_to_bytes (length bs) x))
    (λ p l.
    let inside : p < length bs = rw t.same at l in
    let again : p ≡ length bs - 1 - (length bs - 1 - p) = omega arith in
    ap (λ (k : ℕ). get_or now k 0) again ∙ t.past (length bs - 1 - p) (omega arith) ∙ sym (get_or_to_bytes (length bs) x p inside))

-- ---- the key read: the words of its first i pairs of bytes are there

pub record KeyRead (x i : ℕ) (k : List ℕ) : Type 0 where
  pub long : length k ≡ 8
  pub past : (j : ℕ) → 8 ≤ i + j → j < 8 → get_or k j 0 ≡ digit 65536 x j

pub key_none : (x : ℕ) → KeyRead x 0 (replicate 8 0)
key_none x = record { long = refl; past = λ j h l. omega arith }

module _ (key : List ℕ) (len : length key ≡ 16) (bytes : Bytes key) where
  pub key_next : (k : List ℕ) (i : ℕ) → i < 8 → KeyRead (from_bytes key) i k
      → KeyRead (from_bytes key) (i + 1) (set k (7 - i) (get_or key (2 * i) 0 * 256 + get_or key (2 * i + 1) 0))
  key_next k i h t =
      record {
        long = length-set k (7 - i) new ∙ t.long;
        past =
            λ j l m.
            elim (ℕ_discrete j (7 - i)) [
              | yes e ↦ rw (e, get_or-set_same k (7 - i) new 0 (omega (arith, t.long))) is
              | no ne ↦ get_or-set_other k (7 - i) j new 0 ne ∙ t.past j (omega arith) m
            ];
      }
    where
      new : ℕ
      new = get_or key (2 * i) 0 * 256 + get_or key (2 * i + 1) 0

      high : digit 256 (from_bytes key) (2 * (7 - i) + 1) ≡ get_or key (2 * i) 0
      high =
          let place : length key - 1 - (2 * (7 - i) + 1) ≡ 2 * i = omega arith in
          digit-from_bytes key bytes (2 * (7 - i) + 1) (omega arith) ∙ ap (λ (n : ℕ). get_or key n 0) place

      low : digit 256 (from_bytes key) (2 * (7 - i)) ≡ get_or key (2 * i + 1) 0
      low =
          let place : length key - 1 - 2 * (7 - i) ≡ 2 * i + 1 = omega arith in
          digit-from_bytes key bytes (2 * (7 - i)) (omega arith) ∙ ap (λ (n : ℕ). get_or key n 0) place

      is : new ≡ digit 65536 (from_bytes key) (7 - i)
      is = ap₂ (λ (a b : ℕ). a * 256 + b) (sym high) (sym low) ∙ sym (two_digits 256 (lit< tt) (from_bytes key) (7 - i))

  pub key_all : (k : List ℕ) (i : ℕ) → 8 ≤ i → KeyRead (from_bytes key) i k → key_of k ≡ from_bytes key
  key_all k i h t =
      number_cong 65536 8 (λ j. get_or k j 0) (digit 65536 (from_bytes key)) (λ j l. t.past j (omega arith) l)
      ∙ number-digit 65536 (lit< tt) 8 (from_bytes key) (block-lt key len bytes)
