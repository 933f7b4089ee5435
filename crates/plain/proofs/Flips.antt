-- One bit xored into nibbles, and the steps that do so again and again: 3, the round key, and 4, the constant.
use mathlib.Core.Path.{◌≡◌, refl, sym, ap, ap₂, ◌∙◌}
use mathlib.Core.Bool.{Bool, true, false, ◌&&◌}
use mathlib.Core.List.{List}
use Prim.Native.Nat.{ℕ, zero, suc, ◌+◌, ◌-◌, ◌*◌, ◌/◌, ◌%◌, ◌^◌, ◌<◌}
use native.Mathlib.Nat.{lt_of_le_of_lt, lt_of_lt_of_le, mod-le, le_of_eq, le_of_suc-le-suc, not-suc-le-zero, sub_self}
use native.Mathlib.Decide.{ℕ_discrete, dec_lt}
use native.Mathlib.Omega.{arith}
use lib.Bits.{bit_xor, xor_lt}
use lib.Dec.{eqb, lit<}
use lib.ListN.{length, get_or, set, length-set}
use lib.Pow.{pow_mono, shl_lt}
use lib.Seq.{get_or-set_same, get_or-set_other}
use borrow.Author.Tests.{le-leb, lt-leb, eq-eqb, ne_eqb}
use Rattle.bits.specs.Digit.{digit, bit, ◌⊕◌}
use Rattle.bits.proofs.Digits.{digit_lt}
use Rattle.bits.proofs.Bits.{bit-digit, bit_ext, bit_out, bit_shl_cut, bit-xor, of_bits_bit, of_bits_cong, ⊕_assoc, ⊕-false}
use Rattle.published.specs.Rounds.{xored}
use Rattle.published.proofs.Steps.{bit-xored, xored-lt}
use Rattle.plain.specs.Inner.{state_of, nibbles_of, by, one_at}
use Rattle.plain.proofs.Nibbles.{nibbles_are, nibbles_of_state_of, digit_state_of, state_of_lt, by_by}

-- ---- one bit

same : (x : ℕ) → eqb x x ≡ true
same x = eq-eqb x x refl

bit-zero : (b : ℕ) → b < 2 → bit b 0 ≡ eqb b 1
unfolding bit digit
bit-zero zero h = refl
bit-zero (suc zero) h = refl
bit-zero (suc (suc b)) h = absurd (not-suc-le-zero (le_of_suc-le-suc (le_of_suc-le-suc h)))

-- bit j of b shifted left by k places, b being 0 or 1
bit_of_one : (b k j : ℕ) → b < 2 → j < 8 → bit (b * 2 ^ k % 2 ^ 8) j ≡ (eqb j k && eqb b 1)
bit_of_one b k j hb hj =
    bit_shl_cut 8 b k j hj
    ∙ elim (ℕ_discrete j k) [
      | yes e ↦ rw (e, le-leb k k (le_of_eq refl), sub_self k, same k) (bit-zero b hb)
      | no ne ↦
          elim (dec_lt j k) [
            | yes l ↦ rw (lt-leb k j l, ne_eqb j k ne)
            | no g ↦ rw (le-leb k j (omega arith), ne_eqb j k ne) (bit_out 1 b (j - k) hb (omega arith))
          ]
    ]

eqb_alike : (a b c d : ℕ) → (a ≡ b → c ≡ d) → (c ≡ d → a ≡ b) → eqb a b ≡ eqb c d
eqb_alike a b c d f g =
    elim (ℕ_discrete a b) [
      | yes e ↦ eq-eqb a b e ∙ sym (eq-eqb c d (f e))
      | no ne ↦ ne_eqb a b ne ∙ sym (ne_eqb c d (λ e. ne (g e)))
    ]

-- what the code stores in one nibble is what xoring one bit makes of the state
pub flipped : (ns : List ℕ) (q b : ℕ) → ((i : ℕ) → get_or ns i 0 < 16) → q < 4 * length ns → b < 2
    → set ns (q / 4) (bit_xor (get_or ns (q / 4) 0) (b * 2 ^ (q % 4) % 2 ^ 8)) ≡ by (λ n. xored n (one_at q b)) ns
flipped ns q b small hq hb =
    nibbles_are (length ns) (xored n (one_at q b) (state_of ns)) (set ns (q / 4) new) (length-set ns (q / 4) new)
    (λ i h. bit_ext 4 _ _ (stored-lt i h) (digit_lt 16 (lit< tt) (xored n (one_at q b) (state_of ns)) i) (λ j l. stored i j h l ∙ sym (wanted i j h l)))
  where
    n : ℕ
    n = 4 * length ns

    new : ℕ
    new = bit_xor (get_or ns (q / 4) 0) (b * 2 ^ (q % 4) % 2 ^ 8)

    wanted : (i j : ℕ) → i < length ns → j < 4 → bit (digit 16 (xored n (one_at q b) (state_of ns)) i) j ≡ bit (get_or ns i 0) j ⊕ (eqb (4 * i + j) q && eqb b 1)
    wanted i j h l =
        bit-digit 4 (xored n (one_at q b) (state_of ns)) i j l ∙ bit-xored n (one_at q b) (state_of ns) (4 * i + j) (omega arith)
        ∙ ap (λ (x : Bool). x ⊕ (eqb (4 * i + j) q && eqb b 1)) (sym (bit-digit 4 (state_of ns) i j l) ∙ ap (λ (x : ℕ). bit x j) (digit_state_of ns small i h))

    new_lt : new < 2 ^ 4
    new_lt = xor_lt 4 (get_or ns (q / 4) 0) (b * 2 ^ (q % 4) % 2 ^ 8) (small (q / 4))
        (lt_of_le_of_lt (mod-le (b * 2 ^ (q % 4)) (2 ^ 8)) (lt_of_lt_of_le (shl_lt 1 (q % 4) hb) (pow_mono {j = 4} (omega arith))))

    stored-lt : (i : ℕ) → i < length ns → get_or (set ns (q / 4) new) i 0 < 2 ^ 4
    stored-lt i h =
        elim (ℕ_discrete i (q / 4)) [
          | yes e ↦ rw (e, get_or-set_same ns (q / 4) new 0 (rw e at h)) new_lt
          | no ne ↦ rw (get_or-set_other ns (q / 4) i new 0 ne) (small i)
        ]

    stored : (i j : ℕ) → i < length ns → j < 4 → bit (get_or (set ns (q / 4) new) i 0) j ≡ bit (get_or ns i 0) j ⊕ (eqb (4 * i + j) q && eqb b 1)
    stored i j h l =
        elim (ℕ_discrete i (q / 4)) [
          | yes e ↦
              ap (λ (x : ℕ). bit x j) (ap (λ (k : ℕ). get_or (set ns (q / 4) new) k 0) e ∙ get_or-set_same ns (q / 4) new 0 (rw e at h))
              ∙ bit-xor (get_or ns (q / 4) 0) (b * 2 ^ (q % 4) % 2 ^ 8) j
              ∙ ap₂ (λ (k : ℕ) (x : Bool). bit (get_or ns k 0) j ⊕ x) (sym e)
              (bit_of_one b (q % 4) j hb (omega arith) ∙ ap (λ (x : Bool). x && eqb b 1) (eqb_alike j (q % 4) (4 * i + j) q (λ d. omega arith) (λ d. omega arith)))
          | no ne ↦
              ap (λ (x : ℕ). bit x j) (get_or-set_other ns (q / 4) i new 0 ne)
              ∙ sym (⊕-false (bit (get_or ns i 0) j))
              ∙ ap (λ (x : Bool). bit (get_or ns i 0) j ⊕ (x && eqb b 1)) (sym (ne_eqb (4 * i + j) q (λ d. ne (omega arith))))
        ]

-- ---- bits xored into a state, more and more of them

xored_cong : (n : ℕ) (f g : ℕ → Bool) (s : ℕ) → ((q : ℕ) → q < n → f q ≡ g q) → xored n f s ≡ xored n g s
unfolding xored
xored_cong n f g s e = of_bits_cong n (λ q. bit s q ⊕ f q) (λ q. bit s q ⊕ g q) (λ q h. ap (λ (x : Bool). bit s q ⊕ x) (e q h))

xored_none : (n : ℕ) (f : ℕ → Bool) (s : ℕ) → s < 2 ^ n → ((q : ℕ) → q < n → f q ≡ false) → xored n f s ≡ s
unfolding xored
xored_none n f s h e =
    of_bits_cong n (λ q. bit s q ⊕ f q) (bit s) (λ q l. ap (λ (x : Bool). bit s q ⊕ x) (e q l) ∙ ⊕-false (bit s q)) ∙ of_bits_bit n s h

xored-xored : (n : ℕ) (f g : ℕ → Bool) (s : ℕ) → xored n g (xored n f s) ≡ xored n (λ q. f q ⊕ g q) s
unfolding xored
xored-xored n f g s =
    of_bits_cong n (λ q. bit (xored n f s) q ⊕ g q) (λ q. bit s q ⊕ (f q ⊕ g q))
    (λ q h. ap (λ (x : Bool). x ⊕ g q) (bit-xored n f s q h) ∙ ⊕_assoc (bit s q) (f q) (g q))

-- the nibbles now are those of ns with f q xored into each bit q
abbrev pub Flipped : List ℕ → (ℕ → Bool) → List ℕ → Type 0
Flipped ns f now = now ≡ by (λ n. xored n f) ns

module _ (ns : List ℕ) where
  pub none_flipped : (f : ℕ → Bool) → ((i : ℕ) → get_or ns i 0 < 16) → ((q : ℕ) → q < 4 * length ns → f q ≡ false) → Flipped ns f ns
  none_flipped f small e =
      nibbles_of_state_of ns small ∙ ap (nibbles_of (length ns)) (sym (xored_none (4 * length ns) f (state_of ns) (state_of_lt ns small) e))

  -- first f and then g are h
  pub then_flipped : (f g h : ℕ → Bool) {mid now : List ℕ} → Flipped ns f mid → Flipped mid g now → ((q : ℕ) → q < 4 * length ns → f q ⊕ g q ≡ h q) → Flipped ns h now
  then_flipped f g h before after e =
      after ∙ ap (by (λ n. xored n g)) before ∙ by_by (λ n. xored n g) (λ n. xored n f) ns (xored-lt (4 * length ns) f (state_of ns))
      ∙ ap (nibbles_of (length ns)) (xored-xored (4 * length ns) f g (state_of ns) ∙ xored_cong (4 * length ns) (λ q. f q ⊕ g q) h (state_of ns) e)

  pub as_flipped : (f g : ℕ → Bool) {now : List ℕ} → Flipped ns f now → ((q : ℕ) → q < 4 * length ns → f q ≡ g q) → Flipped ns g now
  as_flipped f g before e = before ∙ ap (nibbles_of (length ns)) (xored_cong (4 * length ns) f g (state_of ns) e)
