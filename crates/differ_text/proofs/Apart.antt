-- Different answers never print alike: each part of a line is read back from the text, and ends where a byte stands that it does not have.
use mathlib.Core.Path.{◌≡◌, refl, sym, ap, ap₂, ◌∙◌}
use mathlib.Core.Bool.{Bool, true, false, cond, false≢true}
use mathlib.Core.Logic.{◌≢◌}
use mathlib.Core.List.{List, [], ◌∷◌, ◌++◌, append_assoc}
use Prim.Native.Nat.{ℕ, zero, suc, ◌+◌, ◌-◌, ◌*◌, ◌/◌, ◌%◌, ◌<◌, ◌≤◌}
use native.Mathlib.Nat.{not-suc-le-zero}
use native.Mathlib.Omega.{arith}
use lib.Dec.{eqb, leb, ltb}
use lib.ListN.{length, take, drop, get_or}
use lib.Seq.{take_all}
use borrow.Author.Tests.{ltb-true, ltb-false, eqb-true}
use Rattle.bits.proofs.Truth.{both}
use Rattle.published.specs.Bytes.{from_bytes, to_bytes, Bytes}
use Rattle.published.proofs.Reading.{to_from}
use Rattle.text.specs.Hex.{hex_digits, place_of, value_of, hex_of}
use Rattle.text.specs.Decimal.{last_digits, decimal_of}
use Rattle.text.proofs.Numerals.{value-digit}
use Rattle.bundle_format.specs.Format.{good_value}
use Rattle.bundle_format.specs.Reader.{Answer, value, meant}
use Rattle.differ.specs.Difference.{Line}
use Rattle.differ_text.specs.Rendered.{plain, escaped_byte, escaped, side_text, line_text}
use Rattle.differ_text.specs.Promises.{Shown, a_value, an_absence, an_unknown}
use Rattle.differ_text.proofs.Accepted.{no_kind}

-- ---- up to a byte that the text before it does not have

data Free (c : ℕ) : List ℕ → Type 0 where
  none : Free c []
  more : {x : ℕ} {l : List ℕ} → x ≢ c → Free c l → Free c (x ∷ l)

free-append : (c : ℕ) (x y : List ℕ) → Free c x → Free c y → Free c (x ++ y)
free-append c [] y none g = g
free-append c (a ∷ x) y (more h f) g = more h (free-append c x y f g)

split : (c : ℕ) (x y s t : List ℕ) → Free c x → Free c y → x ++ c ∷ s ≡ y ++ c ∷ t → (x ≡ y) × (s ≡ t)
split c [] [] s t f g e = let r : s ≡ t = cc in (refl, r)
split c [] (b ∷ y) s t f (more h g) e = let r : c ≡ b = cc in absurd (h (sym r))
split c (a ∷ x) [] s t (more h f) g e = let r : a ≡ c = cc in absurd (h r)
split c (a ∷ x) (b ∷ y) s t (more h f) (more k g) e =
    let r : a ≡ b = cc in
    let q : x ++ c ∷ s ≡ y ++ c ∷ t = cc in
    let p = split c x y s t f g q in
    (ap₂ ◌∷◌ r p.0, p.1)

-- ---- decimal digits

read_by : List ℕ → ℕ → ℕ
read_by [] n = n
read_by (d ∷ ds) n = read_by ds (n * 10 + (d - 48))

read-append : (x y : List ℕ) (n : ℕ) → read_by (x ++ y) n ≡ read_by y (read_by x n)
unfolding read_by
read-append [] y n = refl
read-append (d ∷ x) y n = read-append x y (n * 10 + (d - 48))

read_back : (k n : ℕ) → n < k → read_by (last_digits k n) 0 ≡ n
unfolding last_digits read_by
read_back zero n h = absurd (not-suc-le-zero h)
read_back (suc k) n h = read-append (cond (ltb n 10) [] (last_digits k (n / 10))) ((48 + n % 10) ∷ []) 0 ∙ go (ltb n 10) refl (read_back k (n / 10))
  where
    go : (t : Bool) → ltb n 10 ≡ t → (n / 10 < k → read_by (last_digits k (n / 10)) 0 ≡ n / 10) → read_by (cond t [] (last_digits k (n / 10))) 0 * 10 + (48 + n % 10 - 48) ≡ n
    go true p front = let l : 0 * 10 + (48 + n % 10 - 48) ≡ n = omega (arith, ltb-true n 10 p) in l
    go false p front =
        let l : n / 10 * 10 + (48 + n % 10 - 48) ≡ n = omega arith in
        ap (λ (m : ℕ). m * 10 + (48 + n % 10 - 48)) (front (omega (arith, ltb-false n 10 p))) ∙ l

decimal_only : (n m : ℕ) → decimal_of n ≡ decimal_of m → n ≡ m
unfolding decimal_of
decimal_only n m e = sym (read_back (suc n) n (omega arith)) ∙ ap (λ (l : List ℕ). read_by l 0) e ∙ read_back (suc m) m (omega arith)

-- digits, and then a byte that is none, whatever it is on either side
abbrev pub NoDigit : ℕ → Type 0
NoDigit c = (d : ℕ) → d < 10 → 48 + d ≢ c

data Digits : List ℕ → Type 0 where
  no_more : Digits []
  digit : {x : ℕ} {l : List ℕ} (d : ℕ) → d < 10 → x ≡ 48 + d → Digits l → Digits (x ∷ l)

digits_append : (x y : List ℕ) → Digits x → Digits y → Digits (x ++ y)
digits_append [] y no_more g = g
digits_append (a ∷ x) y (digit d h is f) g = digit d h is (digits_append x y f g)

digits-end : (c d : ℕ) (x y s t : List ℕ) → NoDigit c → NoDigit d → Digits x → Digits y → x ++ c ∷ s ≡ y ++ d ∷ t → (x ≡ y) × (c ∷ s ≡ d ∷ t)
digits-end c d [] [] s t f g no_more no_more e = (refl, e)
digits-end c d [] (b ∷ y) s t f g no_more (digit n h is q) e = let r : c ≡ b = cc in absurd (f n h (sym is ∙ sym r))
digits-end c d (a ∷ x) [] s t f g (digit n h is q) no_more e = let r : a ≡ d = cc in absurd (g n h (sym is ∙ r))
digits-end c d (a ∷ x) (b ∷ y) s t f g (digit n h is p) (digit m k js q) e =
    let r : a ≡ b = cc in
    let rest : x ++ c ∷ s ≡ y ++ d ∷ t = cc in
    let z = digits-end c d x y s t f g p q rest in
    (ap₂ ◌∷◌ r z.0, z.1)

all_digits : (k n : ℕ) → Digits (last_digits k n)
unfolding last_digits
all_digits zero n = no_more
all_digits (suc k) n = digits_append (cond (ltb n 10) [] (last_digits k (n / 10))) ((48 + n % 10) ∷ []) (go (ltb n 10) (all_digits k (n / 10))) (digit (n % 10) (omega arith) refl no_more)
  where
    go : (t : Bool) → Digits (last_digits k (n / 10)) → Digits (cond t [] (last_digits k (n / 10)))
    go true f = no_more
    go false f = f

decimal_digits : (n : ℕ) → Digits (decimal_of n)
unfolding decimal_of
decimal_digits n = all_digits (suc n) n

-- a number, and then a byte that is no digit
pub decimal_first : (c d n m : ℕ) (s t : List ℕ) → NoDigit c → NoDigit d → decimal_of n ++ c ∷ s ≡ decimal_of m ++ d ∷ t → (n ≡ m) × (c ∷ s ≡ d ∷ t)
decimal_first c d n m s t h k e =
    let p = digits-end c d (decimal_of n) (decimal_of m) s t h k (decimal_digits n) (decimal_digits m) e in
    (decimal_only n m p.0, p.1)

-- ---- text

digit_only : (d e : ℕ) → d < 16 → e < 16 → get_or hex_digits d 0 ≡ get_or hex_digits e 0 → d ≡ e
digit_only d e h k same = sym (value-digit d h) ∙ ap value_of same ∙ value-digit e k

no_mark : (d : ℕ) → d < 16 → get_or hex_digits d 0 ≢ 34
unfolding value_of
no_mark d h e = let z : d ≡ 16 = sym (value-digit d h) ∙ ap (λ (c : ℕ). place_of c hex_digits) e in omega arith

-- what a plain byte is not
plain_not : (b : ℕ) → plain b ≡ true → (b ≢ 34) × (b ≢ 92)
unfolding plain
plain_not b e = (λ i. false≢true (ap plain (sym i) ∙ e), λ i. false≢true (ap plain (sym i) ∙ e))

byte-free : (b : ℕ) → b < 256 → Free 34 (escaped_byte b)
unfolding escaped_byte hex_of
byte-free b h = go (plain b) refl
  where
    stroke : ◌≡◌ {A = ℕ} 92 34 → ⊥
    stroke e = omega arith

    letter : ◌≡◌ {A = ℕ} 120 34 → ⊥
    letter e = omega arith

    go : (t : Bool) → plain b ≡ t → Free 34 (cond t (b ∷ []) (92 ∷ 120 ∷ get_or hex_digits (b / 16) 0 ∷ get_or hex_digits (b % 16) 0 ∷ []))
    go true e = more (plain_not b e).0 none
    go false e = more stroke (more letter (more (no_mark (b / 16) (omega arith)) (more (no_mark (b % 16) (omega arith)) none)))

escaped-free : (bs : List ℕ) → Bytes bs → Free 34 (escaped bs)
unfolding escaped
escaped-free [] h = none
escaped-free (b ∷ bs) h = free-append 34 (escaped_byte b) (escaped bs) (byte-free b (h 0)) (escaped-free bs (λ i. h (suc i)))

byte_only : (a b : ℕ) (s t : List ℕ) → a < 256 → b < 256 → escaped_byte a ++ s ≡ escaped_byte b ++ t → (a ≡ b) × (s ≡ t)
unfolding escaped_byte hex_of
byte_only a b s t h k e = go (plain a) refl (plain b) refl e
  where
    form : (p : Bool) (x : ℕ) → List ℕ
    form p x = cond p (x ∷ []) (92 ∷ 120 ∷ get_or hex_digits (x / 16) 0 ∷ get_or hex_digits (x % 16) 0 ∷ [])

    go : (p : Bool) → plain a ≡ p → (q : Bool) → plain b ≡ q → form p a ++ s ≡ form q b ++ t → (a ≡ b) × (s ≡ t)
    go true p true q f = (ap (λ (l : List ℕ). get_or l 0 0) f, ap (drop 1) f)
    go true p false q f = absurd ((plain_not a p).1 (ap (λ (l : List ℕ). get_or l 0 0) f))
    go false p true q f = absurd ((plain_not b q).1 (sym (ap (λ (l : List ℕ). get_or l 0 0) f)))
    go false p false q f =
        let high : a / 16 ≡ b / 16 = digit_only (a / 16) (b / 16) (omega arith) (omega arith) (ap (λ (l : List ℕ). get_or l 2 0) f) in
        let low : a % 16 ≡ b % 16 = digit_only (a % 16) (b % 16) (omega arith) (omega arith) (ap (λ (l : List ℕ). get_or l 3 0) f) in
        (omega arith, ap (drop 4) f)

some_byte : (b : ℕ) (l : List ℕ) → escaped_byte b ++ l ≡ [] → ⊥
unfolding escaped_byte
some_byte b l e = go (plain b) e
  where
    go : (p : Bool) → cond p (b ∷ []) (92 ∷ 120 ∷ hex_of (b ∷ [])) ++ l ≡ [] → ⊥
    go true f = let z : suc (length l) ≡ 0 = ap length f in omega arith
    go false f = let z : suc (suc (length (hex_of (b ∷ []) ++ l))) ≡ 0 = ap length f in omega arith

escaped_only : (x y : List ℕ) → Bytes x → Bytes y → escaped x ≡ escaped y → x ≡ y
unfolding escaped
escaped_only [] [] h k e = refl
escaped_only [] (b ∷ y) h k e = absurd (some_byte b (escaped y) (sym e))
escaped_only (a ∷ x) [] h k e = absurd (some_byte a (escaped x) e)
escaped_only (a ∷ x) (b ∷ y) h k e =
    let p = byte_only a b (escaped x) (escaped y) (h 0) (k 0) e in
    ap₂ ◌∷◌ p.0 (escaped_only x y (λ i. h (suc i)) (λ i. k (suc i)) p.1)

-- ---- values

body_only : (n : ℕ) (x y : List ℕ) → n ≤ 8 → length x ≡ n → length y ≡ n → Bytes x → Bytes y → from_bytes (take 8 x) ≡ from_bytes (take 8 y) → x ≡ y
body_only n x y small lx ly h k e =
    let same : from_bytes x ≡ from_bytes y = ap from_bytes (sym (take_all 8 x (omega arith))) ∙ e ∙ ap from_bytes (take_all 8 y (omega arith)) in
    sym (to_from x h) ∙ ap₂ to_bytes (lx ∙ sym ly) same ∙ to_from y k

flag-long : (body : List ℕ) → good_value 0 body ≡ true → length body ≡ 1
unfolding good_value
flag-long body e = eqb-true (length body) 1 (both (eqb (length body) 1) (leb (get_or body 0 0) 1) e).0

number-long : (body : List ℕ) → good_value 1 body ≡ true → length body ≡ 8
unfolding good_value
number-long body e = eqb-true (length body) 8 e

-- the first byte tells what it is
abbrev first : List ℕ → ℕ
first l = get_or l 0 0

module _ (c d : ℕ) (h : c < 48) (h' : d < 48) (s t : List ℕ) where
  pub values_first : (k : ℕ) (x : List ℕ) (m : ℕ) (y : List ℕ) → good_value k x ≡ true → good_value m y ≡ true → Bytes x → Bytes y
      → side_text (value k x) ++ c ∷ s ≡ side_text (value m y) ++ d ∷ t → (value k x ≡ value m y) × (c ∷ s ≡ d ∷ t)
  unfolding side_text
  values_first zero x zero y g g' bx by e =
      let p = decimal_first c d (from_bytes (take 8 x)) (from_bytes (take 8 y)) s t (λ n k i. omega arith) (λ n k i. omega arith) (ap (drop 5) e) in
      (ap (value 0) (body_only 1 x y (omega arith) (flag-long x g) (flag-long y g') bx by p.0), p.1)
  values_first (suc zero) x (suc zero) y g g' bx by e =
      let p = decimal_first c d (from_bytes (take 8 x)) (from_bytes (take 8 y)) s t (λ n k i. omega arith) (λ n k i. omega arith) (ap (drop 7) e) in
      (ap (value 1) (body_only 8 x y (omega arith) (number-long x g) (number-long y g') bx by p.0), p.1)
  values_first (suc (suc zero)) x (suc (suc zero)) y g g' bx by e =
      let q : escaped x ++ 34 ∷ c ∷ s ≡ escaped y ++ 34 ∷ d ∷ t = sym (append_assoc (escaped x) (34 ∷ []) (c ∷ s)) ∙ ap (drop 6) e ∙ append_assoc (escaped y) (34 ∷ []) (d ∷ t) in
      let p = split 34 (escaped x) (escaped y) (c ∷ s) (d ∷ t) (escaped-free x bx) (escaped-free y by) q in
      (ap (value 2) (escaped_only x y bx by p.0), p.1)
  values_first zero x (suc zero) y g g' bx by e = let z : ◌≡◌ {A = ℕ} 102 110 = ap first e in absurd (omega arith)
  values_first zero x (suc (suc m)) y g g' bx by e = let z : ◌≡◌ {A = ℕ} 102 116 = ap first e in absurd (omega arith)
  values_first (suc zero) x zero y g g' bx by e = let z : ◌≡◌ {A = ℕ} 110 102 = ap first e in absurd (omega arith)
  values_first (suc zero) x (suc (suc m)) y g g' bx by e = let z : ◌≡◌ {A = ℕ} 110 116 = ap first e in absurd (omega arith)
  values_first (suc (suc k)) x zero y g g' bx by e = let z : ◌≡◌ {A = ℕ} 116 102 = ap first e in absurd (omega arith)
  values_first (suc (suc k)) x (suc zero) y g g' bx by e = let z : ◌≡◌ {A = ℕ} 116 110 = ap first e in absurd (omega arith)
  values_first (suc (suc zero)) x (suc (suc (suc m))) y g g' bx by e = absurd (no_kind m y g')
  values_first (suc (suc (suc k))) x (suc (suc m)) y g g' bx by e = absurd (no_kind k x g)

  -- a value begins as none of the words
  value-begins : (k : ℕ) (x l : List ℕ) (w : ℕ) → w < 100 → first (side_text (value k x) ++ l) ≡ w → ⊥
  unfolding side_text
  value-begins zero x l w below e = omega arith
  value-begins (suc zero) x l w below e = omega arith
  value-begins (suc (suc k)) x l w below e = omega arith

  value_not_117 : (k : ℕ) (x l : List ℕ) → first (side_text (value k x) ++ l) ≡ 117 → ⊥
  unfolding side_text
  value_not_117 zero x l e = omega arith
  value_not_117 (suc zero) x l e = omega arith
  value_not_117 (suc (suc k)) x l e = omega arith

  -- an answer, and then a byte that is no digit
  side_first : (a a' : Answer) → Shown a → Shown a' → side_text a ++ c ∷ s ≡ side_text a' ++ d ∷ t → (a ≡ a') × (c ∷ s ≡ d ∷ t)
  unfolding side_text
  side_first a a' (a_value k x known g bx) (a_value m y known' g' by) e = values_first k x m y g g' bx by e
  side_first a a' (a_value k x known g bx) an_absence e = absurd (value-begins k x (c ∷ s) 97 (omega arith) (ap first e))
  side_first a a' (a_value k x known g bx) an_unknown e = absurd (value_not_117 k x (c ∷ s) (ap first e))
  side_first a a' an_absence (a_value m y known g by) e = absurd (value-begins m y (d ∷ t) 97 (omega arith) (sym (ap first e)))
  side_first a a' an_unknown (a_value m y known g by) e = absurd (value_not_117 m y (d ∷ t) (sym (ap first e)))
  side_first a a' an_absence an_absence e = (refl, ap (drop 6) e)
  side_first a a' an_unknown an_unknown e = (refl, ap (drop 7) e)
  side_first a a' an_absence an_unknown e = let z : ◌≡◌ {A = ℕ} 97 117 = ap first e in absurd (omega arith)
  side_first a a' an_unknown an_absence e = let z : ◌≡◌ {A = ℕ} 117 97 = ap first e in absurd (omega arith)

-- ---- different answers never print alike

-- a line, its parts one after the other
shaped : (b c : List ℕ) (l : Line) → line_text b c l ≡ decimal_of l.id ++ 58 ∷ 32 ∷ (side_text (meant b l.one) ++ 32 ∷ 124 ∷ 32 ∷ (side_text (meant c l.two) ++ 10 ∷ []))
unfolding line_text
shaped b c l = simp append_assoc

pub never_alike : (a a' : Answer) → Shown a → Shown a' → side_text a ≡ side_text a' → a ≡ a'
never_alike a a' shown shown' e = (side_first 10 10 (omega arith) (omega arith) [] [] a a' shown shown' (ap (λ (l : List ℕ). l ++ (10 ∷ [])) e)).0

-- of whole lines: the id and both answers are read back
pub line_only : (b c b' c' : List ℕ) (l l' : Line) → Shown (meant b l.one) → Shown (meant b' l'.one) → Shown (meant c l.two) → Shown (meant c' l'.two) → line_text b c l ≡ line_text b' c' l'
    → (l.id ≡ l'.id) × (meant b l.one ≡ meant b' l'.one) × (meant c l.two ≡ meant c' l'.two)
line_only b c b' c' l l' s s' t t' e =
    let p = decimal_first 58 58 l.id l'.id _ _ (λ d h e. omega arith) (λ d h e. omega arith) (sym (shaped b c l) ∙ e ∙ shaped b' c' l') in
    let q = side_first 32 32 (omega arith) (omega arith) _ _ (meant b l.one) (meant b' l'.one) s s' (ap (drop 2) p.1) in
    let r = side_first 10 10 (omega arith) (omega arith) [] [] (meant c l.two) (meant c' l'.two) t t' (ap (drop 3) q.1) in
    (p.0, q.0, r.0)
