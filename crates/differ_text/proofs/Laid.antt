-- A text laid in a buffer, byte by byte.
use mathlib.Core.Path.{◌≡◌, refl, sym, ap, ap₂, ◌∙◌}
use mathlib.Core.Bool.{Bool, true, false}
use mathlib.Core.List.{List, [], ◌∷◌, ◌++◌, append_assoc, append-nil}
use Prim.Native.Nat.{ℕ, suc, ◌+◌, ◌<◌, ◌≤◌, min}
use native.Mathlib.Nat.{min-le_right}
use native.Mathlib.Numerals.{add-one}
use native.Mathlib.Omega.{arith}
use lib.Dec.{leb}
use lib.ListN.{length, take, drop, get_or, set, length-append, length-drop, length-take}
use lib.Seq.{take-suc, take_all, drop-cons, set-append_seam, take-append-le, take_at, take-take}
use borrow.Author.Tests.{leb-true, leb-false}
use Rattle.differ_text.specs.declared.Page.{Page}
use Rattle.differ_text.specs.Pieces.{Lays}
use Rattle.differ_text.specs.Puts.{Puts}

module _ (l o : List ℕ) (n : ℕ) (e : List ℕ) (lays : Lays l o n e) where
  pub same_room : length e ≡ length o
  same_room = ap length lays.leaves ∙ length-take (length o) (l ++ drop (length l) o) ∙ enough
    where
      enough : min (length o) (length (l ++ drop (length l) o)) ≡ length o
      enough = omega (arith, length-append l (drop (length l) o), length-drop (length l) o)

  pub within : n ≤ length e
  within = omega (arith, lays.is, same_room)

  -- a byte more, if there is room
  module _ (b : ℕ) where
    longer : length (l ++ (b ∷ [])) ≡ length l + 1
    longer = length-append l (b ∷ [])

    pub one_more : n < length e → Lays (l ++ (b ∷ [])) o (n + 1) (set e n b)
    one_more h =
        let room : length e ≡ length o = same_room in
        let is : n ≡ length l = omega (arith, lays.is) in
        let fits : length l < length o = omega arith in
        record {
          is = omega (arith, longer);
          leaves =
              ap₂ (λ (x : List ℕ) (m : ℕ). set x m b) (lays.leaves ∙ take_all (length o) (l ++ drop (length l) o) (omega (arith, length-append l (drop (length l) o), length-drop (length l) o)) ∙ ap (λ (x : List ℕ). l ++ x) (drop-cons o (length l) 0 fits)) is
              ∙ set-append_seam l _ (drop (suc (length l)) o) b
              ∙ sym (append_assoc l (b ∷ []) (drop (suc (length l)) o))
              ∙ ap (λ (m : ℕ). (l ++ (b ∷ [])) ++ drop m o) next
              ∙ sym (take_all (length o) ((l ++ (b ∷ [])) ++ drop (length (l ++ (b ∷ []))) o) (omega (arith, length-append (l ++ (b ∷ [])) (drop (length (l ++ (b ∷ []))) o), length-drop (length (l ++ (b ∷ []))) o, longer)));
        }
      where
        next : suc (length l) ≡ length (l ++ (b ∷ []))
        next = omega (arith, longer)

    pub no_room : length e ≤ n → Lays (l ++ (b ∷ [])) o n e
    no_room h =
        let room : length e ≡ length o = same_room in
        let full : length o ≤ length l = omega (arith, lays.is) in
        record {
          is = omega (arith, lays.is, longer);
          leaves =
              lays.leaves
              ∙ take-append-le (length o) l (drop (length l) o) full
              ∙ sym (take-append-le (length o) l (b ∷ drop (length (l ++ (b ∷ []))) o) full)
              ∙ ap (take (length o)) (sym (append_assoc l (b ∷ []) (drop (length (l ++ (b ∷ []))) o)));
        }

  -- the same text, otherwise written
  pub laid_as : (m : List ℕ) → l ≡ m → Lays m o n e
  laid_as m is = rw is at lays

pub nothing-laid : (o : List ℕ) → Lays [] o 0 o
nothing-laid o = record { is = omega arith; leaves = sym (take_all (length o) o (omega arith)) }

-- what stands there of it
pub shown_of : (l o : List ℕ) (n : ℕ) (e : List ℕ) → Lays l o n e → take n e ≡ take (length o) l
shown_of l o n e lays = ap₂ take lays.is lays.leaves ∙ take-take (min (length l) (length o)) (length o) (l ++ drop (length l) o) (min-le_right (length l) (length o)) ∙ go (leb (length l) (length o)) refl
  where
    go : (t : Bool) → leb (length l) (length o) ≡ t → take (min (length l) (length o)) (l ++ drop (length l) o) ≡ take (length o) l
    go true p =
        let h : length l ≤ length o = leb-true (length l) (length o) p in
        take_at l (drop (length l) o) (min (length l) (length o)) (omega arith) ∙ sym (take_all (length o) l h)
    go false p =
        let h : length o < length l = leb-false (length l) (length o) p in
        let is : min (length l) (length o) ≡ length o = omega arith in
        ap (λ (m : ℕ). take m (l ++ drop (length l) o)) is ∙ take-append-le (length o) l (drop (length l) o) (omega arith)

-- ---- a page

pub puts-nothing : (p : Page) → Puts [] p p
puts-nothing p = record { same_reference = refl; laid = λ l o lays. rw append-nil lays }

-- a text behind a text
pub then_puts : {x y : List ℕ} {p q r : Page} → Puts x p q → Puts y q r → Puts (x ++ y) p r
then_puts {x = x} {y = y} {r = r} a b =
    record {
      same_reference = b.same_reference ∙ a.same_reference;
      laid = λ l o lays. laid_as ((l ++ x) ++ y) o _ _ (b.laid (l ++ x) o (a.laid l o lays)) (l ++ (x ++ y)) (append_assoc l x y);
    }

-- the same text, otherwise written
pub puts_as : {x y : List ℕ} {p q : Page} → Puts x p q → x ≡ y → Puts y p q
puts_as a is = rw is at a

-- what f makes of the first elements, and of the next one
pub puts_one : (f : List ℕ → List ℕ) → ((a b : List ℕ) → f (a ++ b) ≡ f a ++ f b) → (bs : List ℕ) (i : ℕ) → i < length bs
    → {p q r : Page} → Puts (f (take i bs)) p q → Puts (f (get_or bs i 0 ∷ [])) q r → Puts (f (take (i + 1) bs)) p r
puts_one f hom bs i h a b =
    puts_as (then_puts a b) (sym (hom (take i bs) (get_or bs i 0 ∷ [])) ∙ ap f (sym (take-suc bs i 0 h) ∙ ap (λ (n : ℕ). take n bs) (sym (add-one i))))

-- who begins a page and lays a text in it
pub laid_whole : {x o e : List ℕ} {n : ℕ} {p q : Page} → Lays [] o p.at p.out.now → Puts x p q → n ≡ q.at → e ≡ q.out.now → Lays x o n e
laid_whole {x = x} {o = o} start a at is = rw (at, is) (a.laid [] o start)
