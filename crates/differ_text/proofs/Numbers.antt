-- The number of bytes, one byte more at a time, and that eight fit.
use mathlib.Core.Path.{◌≡◌, refl, sym, ap, ap₂, ◌∙◌}
use mathlib.Core.List.{List, [], ◌∷◌, ◌++◌}
use Prim.Native.Nat.{ℕ, suc, ◌+◌, ◌*◌, ◌^◌, ◌<◌, ◌≤◌, min}
use native.Mathlib.Nat.{pow-suc, pow-le-pow_right, mul_assoc}
use native.Mathlib.Numerals.{add-one}
use native.Mathlib.Omega.{arith}
use lib.Dec.{lit<, leb}
use lib.ListN.{length, take, get_or, length-append}
use lib.Seq.{take-suc, take_all, length-take-le}
use borrow.Author.Tests.{leb-true, leb-false}
use mathlib.Core.Bool.{Bool, true, false}
use Rattle.published.specs.Bytes.{from_bytes, Bytes}
use Rattle.published.proofs.Reading.{from_bytes-lt, bytes_take}

last_byte : (l : List ℕ) (b : ℕ) → from_bytes (l ++ (b ∷ [])) ≡ from_bytes l * 256 + b
unfolding from_bytes
last_byte [] b = alone
  where
    alone : b * 1 + 0 ≡ 0 * 256 + b
    alone = omega arith
last_byte (x ∷ l) b =
    ap₂ (λ (m n : ℕ). x * m + n) (ap (λ (k : ℕ). 256 ^ k) longer ∙ pow-suc 256 (length l)) (last_byte l b) ∙ moved
  where
    longer : length (l ++ (b ∷ [])) ≡ suc (length l)
    longer = length-append l (b ∷ []) ∙ add-one (length l)

    moved : x * (256 ^ length l * 256) + (from_bytes l * 256 + b) ≡ (x * 256 ^ length l + from_bytes l) * 256 + b
    moved = ap (λ (m : ℕ). m + (from_bytes l * 256 + b)) (sym (mul_assoc x (256 ^ length l) 256)) ∙ joined
      where
        joined : x * 256 ^ length l * 256 + (from_bytes l * 256 + b) ≡ (x * 256 ^ length l + from_bytes l) * 256 + b
        joined = omega arith

module _ (l : List ℕ) (i n : ℕ) (is : n ≡ from_bytes (take i l)) where
  pub next_byte : i < length l → n * 256 + get_or l i 0 ≡ from_bytes (take (i + 1) l)
  next_byte h =
      ap (λ (m : ℕ). m * 256 + get_or l i 0) is
      ∙ sym (last_byte (take i l) (get_or l i 0))
      ∙ ap from_bytes (sym (take-suc l i 0 h) ∙ ap (λ (k : ℕ). take k l) (sym (add-one i)))

  -- seven bytes leave room for one more
  pub fits_more : Bytes l → i ≤ length l → i ≤ 7 → n < 72057594037927936
  fits_more bytes h m =
      let lt : from_bytes (take i l) < 256 ^ length (take i l) = from_bytes-lt (take i l) (bytes_take i l bytes) in
      let size : length (take i l) ≡ i = length-take-le i l h in
      let most : 256 ^ length (take i l) ≤ 256 ^ 7 = pow-le-pow_right (lit< tt) {i = length (take i l)} {j = 7} (omega arith) in
      omega arith

pub first_eight : (l : List ℕ) (i : ℕ) → i ≡ min 8 (length l) → take i l ≡ take 8 l
first_eight l i e = go (leb (length l) 8) refl
  where
    go : (t : Bool) → leb (length l) 8 ≡ t → take i l ≡ take 8 l
    go true p = let h : length l ≤ 8 = leb-true (length l) 8 p in take_all i l (omega arith) ∙ sym (take_all 8 l h)
    go false p = let h : 8 < length l = leb-false (length l) 8 p in let is : i ≡ 8 = omega arith in ap (λ (k : ℕ). take k l) is
