-- Reading bytes as a number and writing a number as bytes are each other's inverse, for every length.
use mathlib.Core.Path.{◌≡◌, refl, sym, ap, ap₂, ◌∙◌}
use mathlib.Core.List.{List, [], ◌∷◌, ◌++◌}
use mathlib.Core.Logic.{⊎_elim}
use Prim.Native.Nat.{ℕ, zero, suc, ◌+◌, ◌-◌, ◌*◌, ◌/◌, ◌%◌, ◌^◌, ◌<◌}
use native.Mathlib.Nat.{le_refl, le_of_suc-le, le_of_suc-le-suc, not-suc-le-zero, eq-or-lt_of_le, pow-succ', div-add-mod, mod-lt}
use native.Mathlib.Omega.{arith}
use lib.Arith.{digits_lt}
use lib.Dec.{lit<}
use lib.ListN.{length, get_or, take, drop}
use lib.Seq.{get_or-drop}
use Rattle.bits.specs.Digit.{digit, number, bit}
use Rattle.bits.proofs.Digits.{number-digit, digit_lt, digit_top, digit-below}
use Rattle.bits.proofs.Bits.{bit-digit}
use Rattle.published.specs.Bytes.{from_bytes, to_bytes, Bytes}

base : zero < 256
base = lit< tt

pub length_to_bytes : (k x : ℕ) → length (to_bytes k x) ≡ k
unfolding to_bytes
length_to_bytes zero x = refl
length_to_bytes (suc k) x = ap suc (length_to_bytes k x)

pub no_bytes : Bytes []
no_bytes i = base

pub more_bytes : (b : ℕ) (bs : List ℕ) → b < 256 → Bytes bs → Bytes (b ∷ bs)
more_bytes b bs h hs zero = h
more_bytes b bs h hs (suc i) = hs i

pub bytes-append : (bs cs : List ℕ) → Bytes bs → Bytes cs → Bytes (bs ++ cs)
bytes-append [] cs h k i = k i
bytes-append (b ∷ bs) cs h k zero = h 0
bytes-append (b ∷ bs) cs h k (suc i) = bytes-append bs cs (λ j. h (suc j)) k i

-- parts of bytes are bytes
pub bytes_take : (n : ℕ) (b : List ℕ) → Bytes b → Bytes (take n b)
bytes_take zero b h i = lit< tt
bytes_take (suc n) [] h i = lit< tt
bytes_take (suc n) (x ∷ b) h zero = h 0
bytes_take (suc n) (x ∷ b) h (suc i) = bytes_take n b (λ j. h (suc j)) i

pub bytes_drop : (n : ℕ) (b : List ℕ) → Bytes b → Bytes (drop n b)
bytes_drop n b h i = rw get_or-drop (h (n + i))

pub bytes_to_bytes : (k x : ℕ) → Bytes (to_bytes k x)
unfolding to_bytes
bytes_to_bytes zero x = no_bytes
bytes_to_bytes (suc k) x = more_bytes (digit 256 x k) (to_bytes k x) (digit_lt 256 base x k) (bytes_to_bytes k x)

pub from_bytes-lt : (bs : List ℕ) → Bytes bs → from_bytes bs < 256 ^ length bs
unfolding from_bytes
from_bytes-lt [] h = lit< tt
from_bytes-lt (b ∷ bs) h = rw pow-succ' (digits_lt (h 0) (from_bytes-lt bs (λ i. h (suc i))))

read-digits : (k x : ℕ) → from_bytes (to_bytes k x) ≡ number 256 k (digit 256 x)
unfolding from_bytes to_bytes number
read-digits zero x = refl
read-digits (suc k) x = ap₂ (λ (l y : ℕ). digit 256 x k * 256 ^ l + y) (length_to_bytes k x) (read-digits k x)

-- a number of k bytes, written and read
pub from_to : (k x : ℕ) → x < 256 ^ k → from_bytes (to_bytes k x) ≡ x
from_to k x h = read-digits k x ∙ number-digit 256 base k x h

-- the low bytes are those of the rest, whatever stands above them
to_bytes_low : (k n d r : ℕ) → k < suc n → to_bytes k (d * 256 ^ n + r) ≡ to_bytes k r
unfolding to_bytes
to_bytes_low zero n d r h = refl
to_bytes_low (suc k) n d r h = ap₂ ◌∷◌ (digit-below 256 base n d r k (le_of_suc-le-suc h)) (to_bytes_low k n d r (le_of_suc-le h))

-- bytes read and written
pub to_from : (bs : List ℕ) → Bytes bs → to_bytes (length bs) (from_bytes bs) ≡ bs
unfolding from_bytes to_bytes
to_from [] h = refl
to_from (b ∷ bs) h =
    ap₂ ◌∷◌ (digit_top 256 base (length bs) b (from_bytes bs) (h 0) (from_bytes-lt bs (λ i. h (suc i))))
    (to_bytes_low (length bs) (length bs) b (from_bytes bs) (le_refl (suc (length bs))) ∙ to_from bs (λ i. h (suc i)))

-- digit m of bytes read as a number is the byte that stands m from the end, and so with its bits
pub digit-from_bytes : (bs : List ℕ) → Bytes bs → (m : ℕ) → m < length bs → digit 256 (from_bytes bs) m ≡ get_or bs (length bs - 1 - m) 0
unfolding from_bytes
digit-from_bytes [] h m l = absurd (not-suc-le-zero l)
digit-from_bytes (b ∷ bs) h m l =
    ⊎_elim
    (λ e.
    rw e
    (digit_top 256 base (length bs) b (from_bytes bs) (h 0) (from_bytes-lt bs (λ i. h (suc i)))
    ∙ ap (λ (k : ℕ). get_or (b ∷ bs) k 0) (ends e)))
    (λ k.
    digit-below 256 base (length bs) b (from_bytes bs) m k ∙ digit-from_bytes bs (λ i. h (suc i)) m k
    ∙ ap (λ (n : ℕ). get_or (b ∷ bs) n 0) (inside k))
    (eq-or-lt_of_le (le_of_suc-le-suc l))
  where
    ends : m ≡ length bs → 0 ≡ suc (length bs) - 1 - length bs
    ends e = omega arith

    inside : m < length bs → suc (length bs - 1 - m) ≡ suc (length bs) - 1 - m
    inside k = omega arith

pub bit-from_bytes : (bs : List ℕ) → Bytes bs → (i : ℕ) → i < 8 * length bs → bit (from_bytes bs) i ≡ bit (get_or bs (length bs - 1 - i / 8) 0) (i % 8)
bit-from_bytes bs h i l =
    ap (bit (from_bytes bs)) (sym (div-add-mod i 8))
    ∙ sym (bit-digit 8 (from_bytes bs) (i / 8) (i % 8) (mod-lt i (lit< tt)))
    ∙ ap (λ (x : ℕ). bit x (i % 8)) (digit-from_bytes bs h (i / 8) (omega arith))
