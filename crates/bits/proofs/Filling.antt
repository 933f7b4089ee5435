-- A list that a loop fills upward, one place at a time: below place i what is to stand there, from i on what stood there first.
use mathlib.Core.Path.{◌≡◌, sym, ap, ap₂, ◌∙◌}
use mathlib.Core.List.{List, ◌∷◌, ◌++◌, append-nil}
use Prim.Native.Nat.{ℕ, suc, ◌+◌, ◌<◌, ◌≤◌}
use native.Mathlib.Numerals.{add-one}
use native.Mathlib.Omega.{arith}
use lib.ListN.{length, take, drop, set, get_or, length-append, length-take, length-drop, drop_of_length-le}
use lib.Seq.{length-take-le, take-suc, drop-cons, append_snoc, set_at, get_or-append-add, get_or-drop, take_all}

abbrev pub written : List ℕ → List ℕ → ℕ → List ℕ
written new old i = take i new ++ drop i old

pub written-length : (new old r : List ℕ) (i : ℕ) → length new ≡ length old → i ≤ length old → r ≡ written new old i → length r ≡ length old
written-length new old r i len h e = ap length e ∙ simp (length-append, length-take, length-drop) (omega arith)

-- one place more
pub written_more : (new old r : List ℕ) (i y : ℕ) → length new ≡ length old → i < length old → r ≡ written new old i → y ≡ get_or new i 0 → set r i y ≡ written new old (i + 1)
written_more new old r i y len h e v =
    ap (λ (l : List ℕ). set l i y) (e ∙ ap (λ (l : List ℕ). take i new ++ l) (drop-cons old i 0 h))
    ∙ set_at (take i new) (get_or old i 0) (drop (suc i) old) y i (length-take-le i new (omega arith))
    ∙ ap (λ (x : ℕ). take i new ++ (x ∷ drop (suc i) old)) v
    ∙ sym (append_snoc (take i new) (get_or new i 0) (drop (suc i) old))
    ∙ ap (λ (l : List ℕ). l ++ drop (suc i) old) (sym (take-suc new i 0 (omega arith)))
    ∙ ap (λ (n : ℕ). take n new ++ drop n old) (sym (add-one i))

-- what is not written yet
pub written_rest : (new old r : List ℕ) (i k : ℕ) → length new ≡ length old → i ≤ length old → r ≡ written new old i → get_or r (i + k) 0 ≡ get_or old (i + k) 0
written_rest new old r i k len h e =
    let front : length (take i new) ≡ i = length-take-le i new (omega arith) in
    ap (λ (l : List ℕ). get_or l (i + k) 0) e
    ∙ ap (λ (n : ℕ). get_or (take i new ++ drop i old) (n + k) 0) (sym front)
    ∙ get_or-append-add (take i new) (drop i old) k 0
    ∙ get_or-drop i old k 0

pub written_here : (new old r : List ℕ) (i : ℕ) → length new ≡ length old → i ≤ length old → r ≡ written new old i → get_or r i 0 ≡ get_or old i 0
written_here new old r i len h e = rw (nothing) at (written_rest new old r i 0 len h e)
  where
    nothing : i + 0 ≡ i
    nothing = omega arith

-- all of it
pub written_all : (new old r : List ℕ) (i : ℕ) → length new ≡ length old → length old ≤ i → r ≡ written new old i → r ≡ new
written_all new old r i len h e =
    e ∙ ap₂ ◌++◌ (take_all i new (omega arith)) (drop_of_length-le old h) ∙ append-nil new
