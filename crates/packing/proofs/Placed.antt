-- A block's halves read from its bytes, and put as bytes, place by place, whoever reads and puts them: what the landing of 2026-03 names. Today's code reads by `from_be_bytes` (`Halves.reads`) and puts by `put` (`Halves.halved`).
use mathlib.Core.Path.{◌≡◌, sym, ap, ◌∙◌}
use mathlib.Core.List.{List, [], ◌∷◌}
use Prim.Native.Nat.{ℕ, zero, suc, ◌+◌, ◌*◌, ◌%◌, ◌^◌, ◌<◌}
use native.Mathlib.Nat.{div-one, mod-eq_of_lt, mul-add-mod_self_right}
use native.Mathlib.Omega.{arith}
use lib.Dec.{T, ltb, lit<}
use lib.ListN.{length, get_or, set}
use Rattle.bits.specs.Digit.{digit}
use Rattle.bits.proofs.Digits.{digit_top, digit-digit}
use Rattle.published.specs.Bytes.{from_bytes, to_bytes}
use Rattle.published.proofs.Listed.{each}
use Rattle.packing.proofs.Halves.{half_of}

-- the number that four bytes at a place are, and the half that eight are
abbrev pub four_at : List ℕ → ℕ → ℕ
four_at bs at = from_bytes (get_or bs at 0 ∷ get_or bs (at + 1) 0 ∷ get_or bs (at + 2) 0 ∷ get_or bs (at + 3) 0 ∷ [])

abbrev pub half_at : List ℕ → ℕ → ℕ
half_at bs at = four_at bs at * 2 ^ 32 + four_at bs (at + 4)

-- the first n of some new bytes put at a place
unfoldable pub copied : ℕ → List ℕ → ℕ → List ℕ → List ℕ
copied zero bs at new = bs
copied (suc n) bs at new = set (copied n bs at new) (at + n) (get_or new n 0)

joined : (bs : List ℕ) → length bs ≡ 16 → from_bytes bs ≡ half_at bs 0 * 2 ^ 64 + half_at bs 8
unfolding from_bytes
joined = each 16 (λ bs. from_bytes bs ≡ half_at bs 0 * 2 ^ 64 + half_at bs 8) (λ _ _ _ _ _ _ _ _ _ _ _ _ _ _ _ _. omega arith)

pub reads : (bs : List ℕ) (high low : ℕ) → length bs ≡ 16 → high ≡ half_at bs 0 → low ≡ half_at bs 8 → high < 2 ^ 64 → low < 2 ^ 64
    → (high ≡ half_of (from_bytes bs) 1) × (low ≡ half_of (from_bytes bs) 0)
unfolding digit
reads bs high low len e f h l =
    rw (joined bs len, sym e, sym f)
    (sym (digit_top (2 ^ 64) (lit< tt) 1 high low h l), sym (ap (λ (x : ℕ). x % 2 ^ 64) (div-one (high * 2 ^ 64 + low)) ∙ mul-add-mod_self_right high (2 ^ 64) low ∙ mod-eq_of_lt l))

abbrev halves_put : ℕ → ℕ → List ℕ → List ℕ
halves_put high low out = copied 8 (copied 8 out 0 (to_bytes 8 high)) 8 (to_bytes 8 low)

pub puts : (x : ℕ) (out : List ℕ) → length out ≡ 16 → halves_put (half_of x 1) (half_of x 0) out ≡ to_bytes 16 x
unfolding copied to_bytes
puts x =
    each 16 (λ out. halves_put (half_of x 1) (half_of x 0) out ≡ to_bytes 16 x)
    (λ _ _ _ _ _ _ _ _ _ _ _ _ _ _ _ _. λ i.
    d 1 7 tt i ∷ d 1 6 tt i ∷ d 1 5 tt i ∷ d 1 4 tt i ∷ d 1 3 tt i ∷ d 1 2 tt i ∷ d 1 1 tt i ∷ d 1 0 tt i
    ∷ d 0 7 tt i ∷ d 0 6 tt i ∷ d 0 5 tt i ∷ d 0 4 tt i ∷ d 0 3 tt i ∷ d 0 2 tt i ∷ d 0 1 tt i ∷ d 0 0 tt i ∷ [])
  where
    d : (h m : ℕ) → T (ltb m 8) → digit 256 (half_of x h) m ≡ digit 256 x (8 * h + m)
    d h m t = digit-digit 256 (lit< tt) 8 x h m (lit< t)
