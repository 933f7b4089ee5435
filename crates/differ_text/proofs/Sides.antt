-- An answer's text by its state and kind; a body within its bundle; a short text that is shown whole.
use mathlib.Core.Path.{◌≡◌, refl, sym, ap, ap₂, ◌∙◌}
use mathlib.Core.Bool.{Bool, true, false, cond}
use mathlib.Core.Logic.{◌≢◌}
use mathlib.Core.List.{List, [], ◌∷◌, ◌++◌, append_assoc, append-nil}
use Prim.Native.Nat.{ℕ, zero, suc, ◌+◌, ◌-◌, ◌≤◌, ◌<◌, ◌^◌, min}
use native.Mathlib.Omega.{arith}
use lib.Dec.{eqb, leb}
use lib.ListN.{length, take, drop, get_or, length-drop, drop_of_length-le}
use lib.Seq.{take_all, take-nil}
use borrow.Author.Tests.{ne_eqb, leb-true, leb-false}
use Rattle.published.specs.Bytes.{from_bytes}
use Rattle.text.specs.Hex.{hex_of}
use Rattle.text.specs.Decimal.{decimal_of}
use Rattle.text.specs.Written.{written, shown}
use Rattle.text.specs.declared.Text.{Text}
use Rattle.text.proofs.Texts.{shown-written}
use Rattle.text.proofs.Lengths.{number-length, length-hex_of}
use Rattle.std.specs.declared.result.Result.{Result}
use Rattle.std.specs.declared.result.Result.TheVariants.{Ok, Err}
use Rattle.bundle_format.specs.Answers.{kind_at, state_at}
use Rattle.bundle_format.specs.declared.Kind.{Kind}
use Rattle.bundle_format.specs.declared.Kind.TheVariants.{Flag, Number, Text as Words}
use Rattle.bundle_format.specs.declared.NoKind.{NoKind}
use Rattle.bundle_format.specs.declared.NoState.{NoState}
use Rattle.bundle_format.specs.declared.State.{State}
use Rattle.bundle_format.specs.declared.State.TheVariants.{Refused, Absent, Unknown, Value}
use Rattle.bundle_format.specs.Reader.{ABSENT, UNKNOWN, VALUE, Answer, value, absent, unknown, refused, meant}
use Rattle.bundle_format.specs.declared.Told.{Told}
use Rattle.differ_text.specs.Rendered.{plain, escaped_byte, escaped, flag_word, number_word, text_word, side_text, line_text}
use Rattle.differ_text.specs.Pieces.{told_at, line_at}

-- ---- a short text

pub shown_text : (t : Text) (x : List ℕ) → t ≡ written x → length x ≤ 64 → shown t ≡ x
shown_text t x e h = ap shown e ∙ shown-written x h

pub shown_decimal : (t : Text) (n : ℕ) → n < 2 ^ 64 → t ≡ written ([] ++ decimal_of n) → shown t ≡ decimal_of n
shown_decimal t n h e = shown_text t (decimal_of n) e (omega (arith, number-length n h))

pub shown_escape : (t : Text) (b : ℕ) → t ≡ written (([] ++ (92 ∷ 120 ∷ [])) ++ hex_of (b ∷ [])) → plain b ≡ false → shown t ≡ escaped_byte b
unfolding escaped_byte
shown_escape t b e no_plain =
    shown_text t (92 ∷ 120 ∷ hex_of (b ∷ [])) e (omega (arith, length-hex_of (b ∷ []))) ∙ sym (ap (λ (p : Bool). cond p (b ∷ []) (92 ∷ 120 ∷ hex_of (b ∷ []))) no_plain)

pub plain_byte : (b : ℕ) → plain b ≡ true → b ∷ [] ≡ escaped_byte b
unfolding escaped_byte
plain_byte b e = sym (ap (λ (p : Bool). cond p (b ∷ []) (92 ∷ 120 ∷ hex_of (b ∷ []))) e)

pub escaped-append : (a b : List ℕ) → escaped (a ++ b) ≡ escaped a ++ escaped b
unfolding escaped
escaped-append [] b = refl
escaped-append (x ∷ a) b = ap (λ (y : List ℕ). escaped_byte x ++ y) (escaped-append a b) ∙ sym (append_assoc (escaped_byte x) (escaped a) (escaped b))

pub escaped_one : (b : ℕ) → escaped_byte b ≡ escaped (b ∷ [])
unfolding escaped
escaped_one b = sym (append-nil (escaped_byte b))

-- ---- a value, by its kind

kind_text : List ℕ → Result Kind NoKind → List ℕ
kind_text body (Ok Flag) = flag_word ++ decimal_of (from_bytes (take 8 body))
kind_text body (Ok Number) = number_word ++ decimal_of (from_bytes (take 8 body))
kind_text body (Ok Words) = text_word ++ escaped body ++ (34 ∷ [])
kind_text body (Err e) = text_word ++ escaped body ++ (34 ∷ [])

by_kind : (kind : ℕ) (body : List ℕ) → kind_text body (kind_at kind) ≡ side_text (value kind body)
unfolding kind_text side_text
by_kind zero body = refl
by_kind (suc zero) body = refl
by_kind (suc (suc zero)) body = refl
by_kind (suc (suc (suc kind))) body = refl

module _ (kind : ℕ) (body : List ℕ) where
  pub flag_text : Ok Flag ≡ kind_at kind → flag_word ++ decimal_of (from_bytes (take 8 body)) ≡ side_text (value kind body)
  unfolding kind_text
  flag_text e = ap (kind_text body) e ∙ by_kind kind body

  pub number_text : Ok Number ≡ kind_at kind → number_word ++ decimal_of (from_bytes (take 8 body)) ≡ side_text (value kind body)
  unfolding kind_text
  number_text e = ap (kind_text body) e ∙ by_kind kind body

  pub text_text : Ok Words ≡ kind_at kind → text_word ++ escaped body ++ (34 ∷ []) ≡ side_text (value kind body)
  unfolding kind_text
  text_text e = ap (kind_text body) e ∙ by_kind kind body

  pub no_kind_text : (e : NoKind) → Err e ≡ kind_at kind → text_word ++ escaped body ++ (34 ∷ []) ≡ side_text (value kind body)
  unfolding kind_text
  no_kind_text n e = ap (kind_text body) e ∙ by_kind kind body

-- ---- an answer, by its state

module _ (b : List ℕ) (t : Told) where
  by_state : Result State NoState → Answer
  by_state (Ok Value) = value t.kind (take t.len (drop t.at b))
  by_state (Ok Unknown) = unknown
  by_state (Ok Absent) = absent
  by_state (Ok Refused) = refused
  by_state (Err e) = refused

  by_number : (s : ℕ) → by_state (state_at s) ≡ cond (eqb s VALUE) (value t.kind (take t.len (drop t.at b))) (cond (eqb s UNKNOWN) unknown (cond (eqb s ABSENT) absent refused))
  unfolding by_state
  by_number zero = refl
  by_number (suc zero) = refl
  by_number (suc (suc zero)) = refl
  by_number (suc (suc (suc zero))) = refl
  by_number (suc (suc (suc (suc s)))) = rw (ne_eqb (suc (suc (suc (suc s)))) 3 (λ e. omega arith), ne_eqb (suc (suc (suc (suc s)))) 2 (λ e. omega arith), ne_eqb (suc (suc (suc (suc s)))) 1 (λ e. omega arith))

  told : (r : Result State NoState) → r ≡ state_at t.state → by_state r ≡ meant b t
  unfolding meant
  told r e = ap by_state e ∙ by_number t.state

  pub told-value : Ok Value ≡ state_at t.state → value t.kind (take t.len (drop t.at b)) ≡ meant b t
  unfolding by_state
  told-value = told (Ok Value)

  pub told-unknown : Ok Unknown ≡ state_at t.state → unknown ≡ meant b t
  unfolding by_state
  told-unknown = told (Ok Unknown)

  pub told-absent : Ok Absent ≡ state_at t.state → absent ≡ meant b t
  unfolding by_state
  told-absent = told (Ok Absent)

  pub told-refused : Ok Refused ≡ state_at t.state → refused ≡ meant b t
  unfolding by_state
  told-refused = told (Ok Refused)

  pub told-no_state : (n : NoState) → Err n ≡ state_at t.state → refused ≡ meant b t
  unfolding by_state
  told-no_state n = told (Err n)

  pub value-meant : t.state ≡ VALUE → meant b t ≡ value t.kind (take t.len (drop t.at b))
  value-meant e = sym (told-value (ap state_at (sym e)))

  pub unknown-meant : t.state ≡ UNKNOWN → meant b t ≡ unknown
  unknown-meant e = sym (told-unknown (ap state_at (sym e)))

  pub absent_meant : t.state ≡ ABSENT → meant b t ≡ absent
  absent_meant e = sym (told-absent (ap state_at (sym e)))

-- ---- a body, as far as its bundle reaches

pub clipped : (b : List ℕ) (at len start end : ℕ) → start ≡ min at (length b) → end ≡ min (start + len) (length b) → take (end - start) (drop start b) ≡ take len (drop at b)
clipped b at len start end s e = go (leb at (length b)) refl
  where
    go : (t : Bool) → leb at (length b) ≡ t → take (end - start) (drop start b) ≡ take len (drop at b)
    go true p =
        let h : at ≤ length b = leb-true at (length b) p in
        let is : start ≡ at = omega arith in
        ap (λ (n : ℕ). take (end - start) (drop n b)) is ∙ reach (leb (at + len) (length b)) refl h
      where
        reach : (t : Bool) → leb (at + len) (length b) ≡ t → at ≤ length b → take (end - start) (drop at b) ≡ take len (drop at b)
        reach true q h = let k : at + len ≤ length b = leb-true (at + len) (length b) q in let same : end - start ≡ len = omega arith in ap (λ (n : ℕ). take n (drop at b)) same
        reach false q h =
            let k : length b < at + len = leb-false (at + len) (length b) q in
            take_all (end - start) (drop at b) (omega (arith, length-drop at b)) ∙ sym (take_all len (drop at b) (omega (arith, length-drop at b)))
    go false p =
        let h : length b < at = leb-false at (length b) p in
        ap (take (end - start)) (drop_of_length-le b {i = start} (omega arith)) ∙ take-nil (end - start) ∙ sym (take-nil len) ∙ ap (take len) (sym (drop_of_length-le b {i = at} (omega arith)))

-- ---- a line, of what was read of its row

pub line_as : (rows b c : List ℕ) (p id : ℕ) (one two : Told) → id ≡ get_or rows p 0 → one ≡ told_at rows (p + 1) → two ≡ told_at rows (p + 5)
    → decimal_of id ++ (58 ∷ 32 ∷ []) ++ side_text (meant b one) ++ (32 ∷ 124 ∷ 32 ∷ []) ++ side_text (meant c two) ++ (10 ∷ []) ≡ line_text b c (line_at rows p)
unfolding line_text line_at
line_as rows b c p id one two e f g = λ i. decimal_of (e i) ++ (58 ∷ 32 ∷ []) ++ side_text (meant b (f i)) ++ (32 ∷ 124 ∷ 32 ∷ []) ++ side_text (meant c (g i)) ++ (10 ∷ [])
