-- A line is good exactly if it is a letter, a space, a key in hex, a space and a block in hex; and then it is answered by its letter's rule.
use mathlib.Core.Path.{◌≡◌, refl, sym, ap, ap₂, ◌∙◌}
use mathlib.Core.Bool.{Bool, true, false, cond}
use mathlib.Core.List.{List, [], ◌∷◌, ◌++◌}
use Prim.Native.Nat.{ℕ, zero, suc, ◌+◌, ◌*◌, ◌/◌, ◌%◌, ◌<◌}
use native.Mathlib.Nat.{not-suc-le-zero, le_of_suc-le-suc, div-add-mod'}
use native.Mathlib.Omega.{arith}
use lib.Dec.{ltb, eqb, lit≤}
use lib.ListN.{length, get_or, take, drop, length-append, length-drop, take-append-drop}
use lib.Seq.{take_at, take_all, get_or_at, drop-cons, drop-append-add}
use borrow.Author.Tests.{lt-ltb, eqb-true}
use Rattle.published.specs.Bytes.{Bytes}
use Rattle.text.specs.Hex.{hex_digits, place_of, value_of, all_hex, bytes_of, hex_of}
use Rattle.text.proofs.Numerals.{value-digit}
use Rattle.text.proofs.Lengths.{length-hex_of}
use Rattle.line_answers.specs.Line.{is_letter, is_good, key_text, block_text, line_of, response, answer_of}
use Rattle.line_answers.proofs.Numerals.{both, hex_at}
use Rattle.line_answers.proofs.Good.{good, length_part}

-- ---- digits read and written

at_place : (c : ℕ) (ds : List ℕ) → place_of c ds < length ds → get_or ds (place_of c ds) 0 ≡ c
at_place c [] h = absurd (not-suc-le-zero h)
at_place c (d ∷ ds) h = go (eqb c d) refl (at_place c ds) h
  where
    go :
        (t : Bool) → eqb c d ≡ t → (place_of c ds < length ds → get_or ds (place_of c ds) 0 ≡ c) → cond t 0 (suc (place_of c ds)) < suc (length ds)
        → get_or (d ∷ ds) (cond t 0 (suc (place_of c ds))) 0 ≡ c
    go true p more l = sym (eqb-true c d p)
    go false p more l = more (le_of_suc-le-suc l)

digit_value : (c : ℕ) → value_of c < 16 → get_or hex_digits (value_of c) 0 ≡ c
unfolding value_of
digit_value c h = at_place c hex_digits h

-- bytes in hex are digits, and read they are the bytes
module _ (b : ℕ) (h : b < 256) where
  high : value_of (get_or hex_digits (b / 16) 0) ≡ b / 16
  high = value-digit (b / 16) (omega arith)

  low : value_of (get_or hex_digits (b % 16) 0) ≡ b % 16
  low = value-digit (b % 16) (omega arith)

all_hex_of : (bs : List ℕ) → Bytes bs → all_hex (hex_of bs) ≡ true
unfolding hex_of all_hex
all_hex_of [] h = refl
all_hex_of (b ∷ bs) h =
    rw (high b (h 0), low b (h 0), lt-ltb (b / 16) 16 (omega (arith, h 0)), lt-ltb (b % 16) 16 (omega (arith, h 0))) (all_hex_of bs (λ i. h (suc i)))

read-hex_of : (bs : List ℕ) → Bytes bs → bytes_of (hex_of bs) ≡ bs
unfolding hex_of bytes_of
read-hex_of [] h = refl
read-hex_of (b ∷ bs) h = ap₂ ◌∷◌ (rw (high b (h 0), low b (h 0)) (div-add-mod' b 16)) (read-hex_of bs (λ i. h (suc i)))

hex_tail : (c : ℕ) (cs : List ℕ) → all_hex (c ∷ cs) ≡ true → all_hex cs ≡ true
unfolding all_hex
hex_tail c cs h = (both (ltb (value_of c) 16) (all_hex cs) h).1

-- and digits, two to a byte, are the hex of the bytes read
hex_read : (n : ℕ) (text : List ℕ) → length text ≡ n + n → all_hex text ≡ true → hex_of (bytes_of text) ≡ text
unfolding hex_of bytes_of
hex_read zero [] e h = refl
hex_read zero (c ∷ cs) e h = absurd (omega arith)
hex_read (suc n) [] e h = absurd (omega arith)
hex_read (suc n) (c ∷ []) e h = absurd (omega arith)
hex_read (suc n) (c ∷ d ∷ cs) e h =
    let v : value_of c < 16 = hex_at (c ∷ d ∷ cs) h 0 (omega arith) in
    let w : value_of d < 16 = hex_at (c ∷ d ∷ cs) h 1 (omega arith) in
    let divided : (value_of c * 16 + value_of d) / 16 ≡ value_of c = omega arith in
    let left : (value_of c * 16 + value_of d) % 16 ≡ value_of d = omega arith in
    rw (divided, left, digit_value c v, digit_value d w)
    (ap (λ (t : List ℕ). c ∷ d ∷ t) (hex_read n cs (omega arith) (hex_tail d cs (hex_tail c (d ∷ cs) h))))

module _ (c : ℕ) (key block : List ℕ) (k : length key ≡ 16) (b : length block ≡ 16) where
  key-digits : length (hex_of key) ≡ 32
  key-digits = length-hex_of key ∙ ap (λ (n : ℕ). 2 * n) k

  block-digits : length (hex_of block) ≡ 32
  block-digits = length-hex_of block ∙ ap (λ (n : ℕ). 2 * n) b

  key_text_lem : key_text (line_of c key block) ≡ hex_of key
  unfolding line_of
  key_text_lem = take_at (hex_of key) (32 ∷ hex_of block) 32 key-digits

  block_text_lem : block_text (line_of c key block) ≡ hex_of block
  unfolding line_of
  block_text_lem =
      let past : 33 ≡ length (hex_of key) + 1 = omega (arith, key-digits) in
      ap (λ (n : ℕ). take 32 (drop n (hex_of key ++ 32 ∷ hex_of block))) past
      ∙ ap (take 32) (drop-append-add (hex_of key) (32 ∷ hex_of block) 1)
      ∙ take_all 32 (hex_of block) (omega (arith, block-digits))

  line_length : length (line_of c key block) ≡ 67
  unfolding line_of
  line_length = omega (arith, length-append (hex_of key) (32 ∷ hex_of block), key-digits, block-digits)

  line_0 : get_or (line_of c key block) 0 0 ≡ c
  unfolding line_of
  line_0 = refl

  line_1 : get_or (line_of c key block) 1 0 ≡ 32
  unfolding line_of
  line_1 = refl

  line_34 : get_or (line_of c key block) 34 0 ≡ 32
  unfolding line_of
  line_34 = get_or_at (hex_of key) 32 (hex_of block) 0 32 key-digits

  module _ (letter : is_letter c ≡ true) (hk : Bytes key) (hb : Bytes block) where
    pub good_line : is_good (line_of c key block) ≡ true
    unfolding is_good
    good_line = rw (line_length, line_0, letter, line_1, line_34, key_text_lem, all_hex_of key hk, block_text_lem) (all_hex_of block hb)

    pub good-answer : (n : ℕ) → answer_of n (line_of c key block) ≡ response c key block
    unfolding answer_of
    good-answer n = rw (good_line, line_0, key_text_lem, block_text_lem, read-hex_of key hk, read-hex_of block hb)

pub good_shape : (line : List ℕ) → is_good line ≡ true → line ≡ line_of (get_or line 0 0) (bytes_of (key_text line)) (bytes_of (block_text line))
unfolding line_of
good_shape [] e = absurd (omega (arith, (good [] e).long))
good_shape (c ∷ []) e = absurd (omega (arith, (good (c ∷ []) e).long))
good_shape (c ∷ d ∷ rest) e =
    let g = good (c ∷ d ∷ rest) e in
    let long : length rest ≡ 65 = omega (arith, g.long) in
    let last : take 32 (drop 33 rest) ≡ drop 33 rest = take_all 32 (drop 33 rest) (omega (arith, length-drop 33 rest)) in
    ap₂ (λ (x : ℕ) (y : List ℕ). c ∷ x ∷ y) g.first
    (sym (take-append-drop 32 rest)
    ∙ ap₂ ◌++◌ (sym (hex_read 16 (take 32 rest) (length_part (c ∷ d ∷ rest) 2 g.long (lit≤ tt)) g.key))
    (drop-cons rest 32 0 (omega arith)
    ∙ ap₂ ◌∷◌ g.second (sym last ∙ sym (hex_read 16 (take 32 (drop 33 rest)) (length_part (c ∷ d ∷ rest) 35 g.long (lit≤ tt)) g.block))))
