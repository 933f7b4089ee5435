-- The reflection: an expression of words, what can be told of each of its bits by computing, and one law that this is so.
-- A function that moves, masks and xors bits is then right by a test that the checker computes, place by place.
use mathlib.Core.Path.{◌≡◌, refl, sym, ap, ap₂, ◌∙◌}
use mathlib.Core.Bool.{Bool, true, false, not, ◌&&◌, ◌||◌}
use mathlib.Core.List.{List, [], ◌∷◌}
use Prim.Native.Nat.{ℕ, zero, suc, ◌+◌, ◌-◌, ◌*◌, ◌/◌, ◌%◌, ◌^◌, ◌≤◌, ◌<◌}
use native.Mathlib.Nat.{lt_of_le_of_lt, lt_of_lt_of_le, mod-lt, div-le_self, mod-le, add-sub_of_le}
use lib.Bits.{bit_and, bit_or, bit_xor, and_lt, or_lt, xor_lt}
use lib.Dec.{T, eqb, eqb→eq, ltb, ltb→lt, nltb→le, leb, leb→le}
use lib.ListN.{get_or}
use lib.Pow.{pow_pos, pow_mono}
use Rattle.bits.specs.Digit.{digit, bit, of_bits, ◌⊕◌}
use Rattle.bits.proofs.Bits.{bit_out, bit_shr, bit_shl, bit_shl_low, bit-mod, bit_mod_out, bit-and, bit-or, bit-xor, bit_ext, bit_of_bits, of_bits_lt, ⊕-false, ⊕-self, ⊕_assoc, ⊕_comm, ⊕_equal}
use Rattle.bits.proofs.Computed.{below, at, and_left, and_right}

-- ---- expressions

-- `shl` is cut at the width of the words, `low e k` are the k low bits of e
pub data W : Type 0 where
  var lit : ℕ → W
  and or xor : W → W → W
  shr shl low : W → ℕ → W

-- the value of an expression of words of w bits: exactly the terms that the operators of the code become
abbrev pub value : ℕ → List ℕ → W → ℕ
value w ρ (var k) = get_or ρ k 0
value w ρ (lit n) = n
value w ρ (and a b) = bit_and (value w ρ a) (value w ρ b)
value w ρ (or a b) = bit_or (value w ρ a) (value w ρ b)
value w ρ (xor a b) = bit_xor (value w ρ a) (value w ρ b)
value w ρ (shr e k) = value w ρ e / 2 ^ k
value w ρ (shl e k) = value w ρ e * 2 ^ k % 2 ^ w
value w ρ (low e k) = value w ρ e % 2 ^ k

-- each variable has no more bits than its width says
abbrev pub Within : List ℕ → List ℕ → Type 0
Within [] [] = Unit {0}
Within [] (x ∷ ρ) = ⊥
Within (v ∷ vs) [] = ⊥
Within (v ∷ vs) (x ∷ ρ) = (x < 2 ^ v) × Within vs ρ

pub within_at : (vs ρ : List ℕ) → Within vs ρ → (k : ℕ) → get_or ρ k 0 < 2 ^ get_or vs k 0
within_at [] [] h k = pow_pos 0
within_at [] (x ∷ ρ) h k = absurd h
within_at (v ∷ vs) [] h k = absurd h
within_at (v ∷ vs) (x ∷ ρ) h zero = h.0
within_at (v ∷ vs) (x ∷ ρ) h (suc k) = within_at vs ρ h.1 k

-- ---- what is known of one bit

-- one bit of one variable
pub record Atom : Type 0 where
  pub name : ℕ
  pub place : ℕ

-- a constant xored with the bits of some atoms; or nothing is known, which can only make a test fail
pub data S : Type 0 where
  known : Bool → List Atom → S
  unknown : S

abbrev pub atom : ℕ → ℕ → S
atom k i = known false (record { name = k; place = i } ∷ [])

abbrev zero_s : S
zero_s = known false []

abbrev pick {ℓ} : {A : Type ℓ} → Bool → A → A → A
pick true a b = a
pick false a b = b

abbrev same_atom : Atom → Atom → Bool
same_atom a b = eqb a.name b.name && eqb a.place b.place

abbrev toggle : Atom → List Atom → List Atom
toggle a [] = a ∷ []
toggle a (b ∷ l) = pick (same_atom a b) l (b ∷ toggle a l)

abbrev toggles : List Atom → List Atom → List Atom
toggles [] l = l
toggles (a ∷ k) l = toggle a (toggles k l)

abbrev same_atoms : List Atom → List Atom → Bool
same_atoms [] [] = true
same_atoms [] (b ∷ l) = false
same_atoms (a ∷ k) [] = false
same_atoms (a ∷ k) (b ∷ l) = same_atom a b && same_atoms k l

abbrev pub xor_s : S → S → S
xor_s (known c k) (known d l) = known (c ⊕ d) (toggles k l)
xor_s (known c k) unknown = unknown
xor_s unknown t = unknown

abbrev and_s : S → S → S
and_s (known false []) t = zero_s
and_s (known true []) t = t
and_s (known c (a ∷ k)) (known false []) = zero_s
and_s (known c (a ∷ k)) (known true []) = known c (a ∷ k)
and_s (known c (a ∷ k)) (known d (b ∷ l)) = pick (not (c ⊕ d) && same_atoms (a ∷ k) (b ∷ l)) (known c (a ∷ k)) unknown
and_s (known c (a ∷ k)) unknown = unknown
and_s unknown (known false []) = zero_s
and_s unknown (known true []) = unknown
and_s unknown (known d (b ∷ l)) = unknown
and_s unknown unknown = unknown

abbrev not_s : S → S
not_s (known c k) = known (not c) k
not_s unknown = unknown

abbrev or_s : S → S → S
or_s s t = not_s (and_s (not_s s) (not_s t))

abbrev is_zero : S → Bool
is_zero (known false []) = true
is_zero (known true []) = false
is_zero (known c (a ∷ k)) = false
is_zero unknown = false

-- what can be told of bit i of an expression: vs the variables' widths, w the words' width
abbrev pub known-bit : List ℕ → ℕ → W → ℕ → S
known-bit vs w (var k) i = pick (ltb i (get_or vs k 0)) (atom k i) zero_s
known-bit vs w (lit n) i = known (eqb (n / 2 ^ i % 2) 1) []
known-bit vs w (and a b) i = and_s (known-bit vs w a i) (known-bit vs w b i)
known-bit vs w (or a b) i = or_s (known-bit vs w a i) (known-bit vs w b i)
known-bit vs w (xor a b) i = xor_s (known-bit vs w a i) (known-bit vs w b i)
known-bit vs w (shr e k) i = known-bit vs w e (k + i)
known-bit vs w (shl e k) i = pick (not (ltb i k) && ltb i w) (known-bit vs w e (i - k)) zero_s
known-bit vs w (low e k) i = pick (ltb i k) (known-bit vs w e i) zero_s

-- ---- what that says, and that it is so

abbrev bit_of : List ℕ → Atom → Bool
bit_of ρ a = bit (get_or ρ a.name 0) a.place

-- (one atom is its bit and no more, so that a contract's term comes out as it is written)
abbrev bits_of : List ℕ → List Atom → Bool
bits_of ρ [] = false
bits_of ρ (a ∷ []) = bit_of ρ a
bits_of ρ (a ∷ b ∷ l) = bit_of ρ a ⊕ bits_of ρ (b ∷ l)

abbrev pub told : List ℕ → S → Bool
told ρ (known c k) = c ⊕ bits_of ρ k
told ρ unknown = false

-- s is right about the bit v
abbrev Says : List ℕ → S → Bool → Type 0
Says ρ (known c k) v = v ≡ c ⊕ bits_of ρ k
Says ρ unknown v = Unit {0}

module _ (ρ : List ℕ) where
  bits-cons : (a : Atom) (l : List Atom) → bits_of ρ (a ∷ l) ≡ bit_of ρ a ⊕ bits_of ρ l
  bits-cons a [] = sym (⊕-false (bit_of ρ a))
  bits-cons a (b ∷ l) = refl

  same_atom_lem : (a b : Atom) → T (same_atom a b) → bit_of ρ a ≡ bit_of ρ b
  same_atom_lem a b t =
      ap₂ (λ (k i : ℕ). bit (get_or ρ k 0) i)
      (eqb→eq a.name b.name (and_left (eqb a.name b.name) (eqb a.place b.place) t))
      (eqb→eq a.place b.place (and_right (eqb a.name b.name) (eqb a.place b.place) t))

  swap_heads : (x y z : Bool) → y ⊕ (x ⊕ z) ≡ x ⊕ (y ⊕ z)
  swap_heads x y z = sym (⊕_assoc y x z) ∙ ap (λ (u : Bool). u ⊕ z) (⊕_comm y x) ∙ ⊕_assoc x y z

  toggle-bits : (a : Atom) (l : List Atom) → bits_of ρ (toggle a l) ≡ bit_of ρ a ⊕ bits_of ρ l
  toggle-bits a [] = sym (⊕-false (bit_of ρ a))
  toggle-bits a (b ∷ l) = go (toggle-bits a l) (same_atom a b) refl
    where
      go : bits_of ρ (toggle a l) ≡ bit_of ρ a ⊕ bits_of ρ l → (t : Bool) → same_atom a b ≡ t
          → bits_of ρ (pick t l (b ∷ toggle a l)) ≡ bit_of ρ a ⊕ bits_of ρ (b ∷ l)
      go ih true e =
          sym
          (ap (λ (u : Bool). bit_of ρ a ⊕ u) (bits-cons b l) ∙ sym (⊕_assoc (bit_of ρ a) (bit_of ρ b) (bits_of ρ l))
          ∙ ap (λ (u : Bool). u ⊕ bit_of ρ b ⊕ bits_of ρ l) (same_atom_lem a b (rw e tt))
          ∙ ap (λ (u : Bool). u ⊕ bits_of ρ l) (⊕-self (bit_of ρ b)))
      go ih false e =
          bits-cons b (toggle a l) ∙ ap (λ (u : Bool). bit_of ρ b ⊕ u) ih ∙ swap_heads (bit_of ρ a) (bit_of ρ b) (bits_of ρ l)
          ∙ ap (λ (u : Bool). bit_of ρ a ⊕ u) (sym (bits-cons b l))

  toggles-bits : (k l : List Atom) → bits_of ρ (toggles k l) ≡ bits_of ρ k ⊕ bits_of ρ l
  toggles-bits [] l = refl
  toggles-bits (a ∷ k) l =
      toggle-bits a (toggles k l) ∙ ap (λ (u : Bool). bit_of ρ a ⊕ u) (toggles-bits k l) ∙ sym (⊕_assoc (bit_of ρ a) (bits_of ρ k) (bits_of ρ l))
      ∙ ap (λ (u : Bool). u ⊕ bits_of ρ l) (sym (bits-cons a k))

  same_bits : (k l : List Atom) → T (same_atoms k l) → bits_of ρ k ≡ bits_of ρ l
  same_bits [] [] t = refl
  same_bits [] (b ∷ l) t = absurd t
  same_bits (a ∷ k) [] t = absurd t
  same_bits (a ∷ k) (b ∷ l) t =
      bits-cons a k
      ∙ ap₂ ◌⊕◌ (same_atom_lem a b (and_left (same_atom a b) (same_atoms k l) t)) (same_bits k l (and_right (same_atom a b) (same_atoms k l) t))
      ∙ sym (bits-cons b l)

  middle-four : (a b c d : Bool) → (a ⊕ b) ⊕ (c ⊕ d) ≡ (a ⊕ c) ⊕ (b ⊕ d)
  middle-four a b c d = ⊕_assoc a b (c ⊕ d) ∙ ap (λ (u : Bool). a ⊕ u) (swap_heads c b d) ∙ sym (⊕_assoc a c (b ⊕ d))

  xor_says : (s t : S) (u v : Bool) → Says ρ s u → Says ρ t v → Says ρ (xor_s s t) (u ⊕ v)
  xor_says (known c k) (known d l) u v p q =
      ap₂ ◌⊕◌ p q ∙ middle-four c (bits_of ρ k) d (bits_of ρ l) ∙ ap (λ (x : Bool). c ⊕ d ⊕ x) (sym (toggles-bits k l))
  xor_says (known c k) unknown u v p q = tt
  xor_says unknown t u v p q = tt

  and-true : (u : Bool) → (u && true) ≡ u
  and-true false = refl
  and-true true = refl

  and-false : (u : Bool) → (u && false) ≡ false
  and-false false = refl
  and-false true = refl

  and_self : (u : Bool) → (u && u) ≡ u
  and_self false = refl
  and_self true = refl

  not_xor : (c d : Bool) → T (not (c ⊕ d)) → c ≡ d
  not_xor false false t = refl
  not_xor false true t = absurd t
  not_xor true false t = absurd t
  not_xor true true t = refl

  and_says : (s t : S) (u v : Bool) → Says ρ s u → Says ρ t v → Says ρ (and_s s t) (u && v)
  and_says (known false []) t u v p q = ap (λ (x : Bool). x && v) p
  and_says (known true []) t u v p q = rw p q
  and_says (known c (a ∷ k)) (known false []) u v p q = ap (λ (x : Bool). u && x) q ∙ and-false u
  and_says (known c (a ∷ k)) (known true []) u v p q = ap (λ (x : Bool). u && x) q ∙ and-true u ∙ p
  and_says (known c (a ∷ k)) (known d (b ∷ l)) u v p q = go (not (c ⊕ d) && same_atoms (a ∷ k) (b ∷ l)) refl
    where
      go : (t : Bool) → (not (c ⊕ d) && same_atoms (a ∷ k) (b ∷ l)) ≡ t → Says ρ (pick t (known c (a ∷ k)) unknown) (u && v)
      go false e = tt
      go true e =
          let t : T (not (c ⊕ d) && same_atoms (a ∷ k) (b ∷ l)) = rw e tt in
          let same : u ≡ v =
          p
          ∙ ap₂ ◌⊕◌ (not_xor c d (and_left (not (c ⊕ d)) (same_atoms (a ∷ k) (b ∷ l)) t))
          (same_bits (a ∷ k) (b ∷ l) (and_right (not (c ⊕ d)) (same_atoms (a ∷ k) (b ∷ l)) t))
          ∙ sym q in
          ap (λ (x : Bool). u && x) (sym same) ∙ and_self u ∙ p
  and_says (known c (a ∷ k)) unknown u v p q = tt
  and_says unknown (known false []) u v p q = ap (λ (x : Bool). u && x) q ∙ and-false u
  and_says unknown (known true []) u v p q = tt
  and_says unknown (known d (b ∷ l)) u v p q = tt
  and_says unknown unknown u v p q = tt

  not_says : (s : S) (u : Bool) → Says ρ s u → Says ρ (not_s s) (not u)
  not_says (known false k) u p = ap not p
  not_says (known true k) u p = ap not p ∙ not_not (bits_of ρ k)
    where
      not_not : (x : Bool) → not (not x) ≡ x
      not_not false = refl
      not_not true = refl
  not_says unknown u p = tt

  or_is : (u v : Bool) → (u || v) ≡ not (not u && not v)
  or_is false false = refl
  or_is false true = refl
  or_is true v = refl

  or_says : (s t : S) (u v : Bool) → Says ρ s u → Says ρ t v → Says ρ (or_s s t) (u || v)
  or_says s t u v p q = rw or_is (not_says (and_s (not_s s) (not_s t)) (not u && not v) (and_says (not_s s) (not_s t) (not u) (not v) (not_says s u p) (not_says t v q)))

  pick_says : (b : Bool) (s : S) (v : Bool) → (T b → Says ρ s v) → (T (not b) → v ≡ false) → Says ρ (pick b s zero_s) v
  pick_says true s v p q = p tt
  pick_says false s v p q = q tt

-- bit i of a word shifted left by k places and cut to w bits
shl_bit : (w x k i : ℕ) → T (not (ltb i k) && ltb i w) → bit (x * 2 ^ k % 2 ^ w) i ≡ bit x (i - k)
shl_bit w x k i t =
    let from : k ≤ i = nltb→le i k (and_left (not (ltb i k)) (ltb i w) t) in
    bit-mod (x * 2 ^ k) w i (ltb→lt i w (and_right (not (ltb i k)) (ltb i w) t))
    ∙ ap (bit (x * 2 ^ k)) (sym (add-sub_of_le from))
    ∙ bit_shl x k (i - k)

shl_out : (w x k i : ℕ) → T (not (not (ltb i k) && ltb i w)) → bit (x * 2 ^ k % 2 ^ w) i ≡ false
shl_out w x k i = go (ltb i k) (ltb i w) (λ t. ltb→lt i k t) (λ t. ltb→lt i w t) (λ t. nltb→le i w t)
  where
    go : (a b : Bool) → (T a → i < k) → (T b → i < w) → (T (not b) → w ≤ i) → T (not (not a && b)) → bit (x * 2 ^ k % 2 ^ w) i ≡ false
    go true true p q r t = bit-mod (x * 2 ^ k) w i (q tt) ∙ bit_shl_low x k i (p tt)
    go true false p q r t = bit_mod_out (x * 2 ^ k) w i (r tt)
    go false true p q r t = absurd t
    go false false p q r t = bit_mod_out (x * 2 ^ k) w i (r tt)

module _ (vs ρ : List ℕ) (w : ℕ) (inside : Within vs ρ) where
  sound : (e : W) (i : ℕ) → Says ρ (known-bit vs w e i) (bit (value w ρ e) i)
  unfolding bit digit
  sound (var k) i =
      pick_says ρ (ltb i (get_or vs k 0)) (atom k i) (bit (get_or ρ k 0) i) (λ t. refl)
      (λ t. bit_out (get_or vs k 0) (get_or ρ k 0) i (within_at vs ρ inside k) (nltb→le i (get_or vs k 0) t))
  sound (lit n) i = sym (⊕-false (eqb (n / 2 ^ i % 2) 1))
  sound (and a b) i =
      rw bit-and (and_says ρ (known-bit vs w a i) (known-bit vs w b i) (bit (value w ρ a) i) (bit (value w ρ b) i) (sound a i) (sound b i))
  sound (or a b) i =
      rw bit-or (or_says ρ (known-bit vs w a i) (known-bit vs w b i) (bit (value w ρ a) i) (bit (value w ρ b) i) (sound a i) (sound b i))
  sound (xor a b) i =
      rw bit-xor (xor_says ρ (known-bit vs w a i) (known-bit vs w b i) (bit (value w ρ a) i) (bit (value w ρ b) i) (sound a i) (sound b i))
  sound (shr e k) i = rw bit_shr (sound e (k + i))
  sound (shl e k) i =
      pick_says ρ (not (ltb i k) && ltb i w) (known-bit vs w e (i - k)) (bit (value w ρ e * 2 ^ k % 2 ^ w) i)
      (λ t. rw (shl_bit w (value w ρ e) k i t) (sound e (i - k))) (shl_out w (value w ρ e) k i)
  sound (low e k) i =
      pick_says ρ (ltb i k) (known-bit vs w e i) (bit (value w ρ e % 2 ^ k) i)
      (λ t. rw (bit-mod (value w ρ e) k i (ltb→lt i k t)) (sound e i)) (λ t. bit_mod_out (value w ρ e) k i (nltb→le i k t))

-- ---- the computed test

-- an expression has no more than w bits
abbrev pub sized : List ℕ → ℕ → W → Bool
sized vs w (var k) = leb (get_or vs k 0) w
sized vs w (lit n) = ltb n (2 ^ w)
sized vs w (and a b) = sized vs w a && sized vs w b
sized vs w (or a b) = sized vs w a && sized vs w b
sized vs w (xor a b) = sized vs w a && sized vs w b
sized vs w (shr e k) = sized vs w e
sized vs w (shl e k) = true
sized vs w (low e k) = sized vs w e

-- the n low bits of an expression are those that f tells
abbrev pub tells : List ℕ → ℕ → W → ℕ → (ℕ → S) → Bool
tells vs w e n f = below n (λ i. is_zero (xor_s (known-bit vs w e i) (f i)))

module _ (vs ρ : List ℕ) (w : ℕ) (inside : Within vs ρ) where
  pub value-lt : (e : W) → T (sized vs w e) → value w ρ e < 2 ^ w
  value-lt (var k) t = lt_of_lt_of_le (within_at vs ρ inside k) (pow_mono (leb→le (get_or vs k 0) w t))
  value-lt (lit n) t = ltb→lt n (2 ^ w) t
  value-lt (and a b) t =
      and_lt w (value w ρ a) (value w ρ b) (value-lt a (and_left (sized vs w a) (sized vs w b) t)) (value-lt b (and_right (sized vs w a) (sized vs w b) t))
  value-lt (or a b) t =
      or_lt w (value w ρ a) (value w ρ b) (value-lt a (and_left (sized vs w a) (sized vs w b) t)) (value-lt b (and_right (sized vs w a) (sized vs w b) t))
  value-lt (xor a b) t =
      xor_lt w (value w ρ a) (value w ρ b) (value-lt a (and_left (sized vs w a) (sized vs w b) t)) (value-lt b (and_right (sized vs w a) (sized vs w b) t))
  value-lt (shr e k) t = lt_of_le_of_lt (div-le_self (value w ρ e) (2 ^ k)) (value-lt e t)
  value-lt (shl e k) t = mod-lt (value w ρ e * 2 ^ k) (pow_pos w)
  value-lt (low e k) t = lt_of_le_of_lt (mod-le (value w ρ e) (2 ^ k)) (value-lt e t)

  equal_bits : (s t : S) (u : Bool) → Says ρ s u → T (is_zero (xor_s s t)) → u ≡ told ρ t
  equal_bits (known c k) (known d l) u p z =
      ⊕_equal u (d ⊕ bits_of ρ l) (zero_says (xor_s (known c k) (known d l)) (u ⊕ (d ⊕ bits_of ρ l)) z (xor_says ρ (known c k) (known d l) u (d ⊕ bits_of ρ l) p refl))
    where
      zero_says : (s : S) (v : Bool) → T (is_zero s) → Says ρ s v → v ≡ false
      zero_says (known false []) v z p = p
      zero_says (known true []) v z p = absurd z
      zero_says (known c (a ∷ k)) v z p = absurd z
      zero_says unknown v z p = absurd z
  equal_bits (known c k) unknown u p z = absurd z
  equal_bits unknown t u p z = absurd z

  -- one bit, by the test
  pub bit_by_test : (e : W) (n : ℕ) (f : ℕ → S) → T (tells vs w e n f) → (i : ℕ) → i < n → bit (value w ρ e) i ≡ told ρ (f i)
  bit_by_test e n f t i h =
      equal_bits (known-bit vs w e i) (f i) (bit (value w ρ e) i) (sound vs ρ w inside e i)
      (at n (λ j. is_zero (xor_s (known-bit vs w e j) (f j))) t i h)

  -- the whole word, by the test: the word is made of the bits that f tells
  pub by_test : (e : W) (f : ℕ → S) → T (sized vs w e && tells vs w e w f) → value w ρ e ≡ of_bits w (λ i. told ρ (f i))
  by_test e f t =
      bit_ext w (value w ρ e) (of_bits w (λ i. told ρ (f i))) (value-lt e (and_left (sized vs w e) (tells vs w e w f) t)) (of_bits_lt w (λ i. told ρ (f i)))
      (λ i h. bit_by_test e w f (and_right (sized vs w e) (tells vs w e w f) t) i h ∙ sym (bit_of_bits w (λ j. told ρ (f j)) i h))
