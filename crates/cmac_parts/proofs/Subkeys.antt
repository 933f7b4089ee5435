-- A block read as one number, shifted and written; so with R, as the code makes a subkey.
use mathlib.Core.Path.{◌≡◌, refl, sym, ap, ◌∙◌}
use mathlib.Core.Bool.{Bool, cond}
use mathlib.Core.List.{List, [], ◌∷◌}
use mathlib.Core.Logic.{⊎_elim}
use Prim.Native.Nat.{ℕ, zero, suc, ◌-◌, ◌*◌, ◌/◌, ◌%◌, ◌^◌, ◌<◌}
use native.Mathlib.Nat.{div-one, eq-or-lt_of_le, le_of_suc-le-suc, not-suc-le-zero}
use native.Mathlib.Omega.{arith}
use lib.Bits.{bit_xor, xor_zero_r}
use lib.Dec.{eqb, lit<}
use lib.ListN.{length, get_or, set, replicate, length-set, length-replicate, get_or-replicate, get_or-append}
use lib.Seq.{ext_get_or, get_or-set_same, get_or-set_other, set-get_or}
use borrow.Author.Tests.{eq-eqb}
use Rattle.std.specs.Int.{w128, from_be_bytes, to_be_bytes}
use Rattle.bits.specs.Digit.{digit, bit}
use Rattle.bits.proofs.Computed.{cond-true}
use Rattle.published.specs.Bytes.{from_bytes, to_bytes, Bytes}
use Rattle.published.proofs.Listed.{each}
use Rattle.published.proofs.Reading.{length_to_bytes, bit-from_bytes}
use Rattle.cmac_parts.specs.Standard.{shifted, subkey, R128, first_bit, ◌⊕◌}
use Rattle.cmac_parts.specs.Inner.{subkey_of}
use Rattle.cmac_parts.proofs.Xored.{length-⊕, get_or_⊕}

-- what the library reads from sixteen bytes and writes as such
reads : (bs : List ℕ) → length bs ≡ 16 → from_be_bytes w128 bs ≡ from_bytes bs
unfolding from_bytes
reads = each 16 (λ bs. from_be_bytes w128 bs ≡ from_bytes bs) (λ _ _ _ _ _ _ _ _ _ _ _ _ _ _ _ _. omega arith)

writes : (x : ℕ) → to_be_bytes w128 x ≡ to_bytes 16 x
unfolding digit to_bytes
writes x = rw div-one

-- read, moved one place up, and written
pub shifted_is : (bs : List ℕ) → length bs ≡ 16 → to_be_bytes w128 (from_be_bytes w128 bs * 2 ^ 1 % 2 ^ 128) ≡ shifted bs
unfolding shifted
shifted_is bs len = writes _ ∙ ap (λ (n : ℕ). to_bytes 16 (n % 2 ^ 128)) (up (from_be_bytes w128 bs) (from_bytes bs) (reads bs len))
  where
    up : (n m : ℕ) → n ≡ m → n * 2 ^ 1 ≡ 2 * m
    up n m e = omega arith

length-shifted : (x : List ℕ) → length (shifted x) ≡ 16
unfolding shifted
length-shifted x = length_to_bytes 16 _

length-R128 : 16 ≡ length R128
unfolding R128
length-R128 = refl

R-last : get_or R128 15 0 ≡ 135
unfolding R128
R-last = refl

R_before : (i : ℕ) → i < 15 → get_or R128 i 0 ≡ 0
unfolding R128
R_before i l = get_or-append (replicate 15 0) (135 ∷ []) 0 i (rw length-replicate l) ∙ get_or-replicate 15 i 0 0 l

-- the first bit stands in byte 0
first_bit_lem : (x : List ℕ) → length x ≡ 16 → Bytes x → first_bit x ≡ eqb (get_or x 0 0 / 128 % 2) 1
unfolding first_bit bit digit
first_bit_lem x len h =
    bit-from_bytes x h 127 (rw len (lit< tt)) ∙ ap (λ (n : ℕ). bit (get_or x (n - 1 - 15) 0) 7) len

-- R under a block: its last byte alone changes
under_R : (y : List ℕ) → length y ≡ 16 → set y 15 (bit_xor (get_or y 15 0) 135) ≡ y ⊕ R128
under_R y len =
    ext_get_or 0 (set y 15 (bit_xor (get_or y 15 0) 135)) (y ⊕ R128) (length-set y 15 _ ∙ sym (length-⊕ y R128 long))
    (λ i l. at i (rw (length-set, len) at l) ∙ sym (get_or_⊕ y R128 i long))
  where
    long : length y ≡ length R128
    long = len ∙ length-R128

    at : (i : ℕ) → i < 16 → get_or (set y 15 (bit_xor (get_or y 15 0) 135)) i 0 ≡ bit_xor (get_or y i 0) (get_or R128 i 0)
    at i l =
        ⊎_elim
        (λ here. rw here (get_or-set_same y 15 _ 0 (rw len (lit< tt)) ∙ ap (bit_xor (get_or y 15 0)) (sym R-last)))
        (λ there. get_or-set_other y 15 i _ 0 (λ e. omega arith) ∙ sym (ap (bit_xor (get_or y i 0)) (R_before i there) ∙ xor_zero_r (get_or y i 0)))
        (eq-or-lt_of_le (le_of_suc-le-suc l))

-- as the code makes a subkey
pub subkey_is : (x y : List ℕ) → length x ≡ 16 → Bytes x → y ≡ shifted x → set y 15 (bit_xor (get_or y 15 0) (get_or x 0 0 / 128 * 135)) ≡ subkey x
unfolding subkey
subkey_is x y len h e = go (get_or x 0 0 / 128) small (first_bit_lem x len h)
  where
    size : length y ≡ 16
    size = ap length e ∙ length-shifted x

    small : get_or x 0 0 / 128 < 2
    small = omega (arith, h 0)

    go : (q : ℕ) → q < 2 → first_bit x ≡ eqb (q % 2) 1 → set y 15 (bit_xor (get_or y 15 0) (q * 135)) ≡ cond (first_bit x) (shifted x ⊕ R128) (shifted x)
    go zero l b = ap (set y 15) (xor_zero_r (get_or y 15 0)) ∙ set-get_or y 15 0 ∙ e ∙ ap (λ (t : Bool). cond t (shifted x ⊕ R128) (shifted x)) (sym b)
    go (suc zero) l b = under_R y size ∙ ap (λ (z : List ℕ). z ⊕ R128) e ∙ ap (λ (t : Bool). cond t (shifted x ⊕ R128) (shifted x)) (sym b)
    go (suc (suc q)) l b = absurd (not-suc-le-zero (le_of_suc-le-suc (le_of_suc-le-suc l)))

-- what doubling gives of a block
pub doubled_is : (x y : List ℕ) → length x ≡ 16 → y ≡ subkey_of x → y ≡ subkey x
doubled_is x y h e = e ∙ cond-true (eqb (length x) 16) (subkey x) x (eq-eqb (length x) 16 h)
