-- Eighty words that are stored in four parts, one after the other.
use mathlib.Core.Path.{◌≡◌, sym, ap, ap₂, ◌∙◌}
use mathlib.Core.List.{List, ◌++◌, append-nil, append_assoc}
use Prim.Native.Nat.{ℕ, ◌+◌, ◌≤◌}
use native.Mathlib.Omega.{arith}
use lib.ListN.{length, take, drop, length-append, length-drop, drop_of_length-le}
use lib.Seq.{length-take-le, take_at}
use borrow.Rule.Slice.PartMut.{post_of, put_mid, same_len_mid}
use Rattle.key_schedule.specs.declared.Twenty.{Twenty}
use Rattle.key_schedule.specs.InnerTens.{ten_later, ten_further}
use Rattle.key_schedule.specs.InnerTwenty.{in_both_tens, words_in}

-- the words of ten rounds, of ten rounds later, and, of each of these, of twenty rounds later
abbrev pub twenties : Twenty → List ℕ
twenties t =
    words_in t ++ (words_in (in_both_tens ten_later t) ++ (words_in (in_both_tens ten_further t) ++ words_in (in_both_tens ten_further (in_both_tens ten_later t))))

-- twenty words ys at place p of xs
abbrev stored : ℕ → List ℕ → List ℕ → List ℕ
stored p xs ys = put_mid p 20 xs ys

module _ (p : ℕ) (xs ys : List ℕ) (inside : p + 20 ≤ length xs) (all : length ys ≡ 20) where
  front : length (take p xs) ≡ p
  front = length-take-le p xs (omega arith)

  length-stored : length (stored p xs ys) ≡ length xs
  length-stored = same_len_mid p 20 xs ys (all ∙ sym (length-take-le 20 (drop p xs) (simp length-drop (omega arith))))

  take-stored : take (p + 20) (stored p xs ys) ≡ take p xs ++ ys
  take-stored =
      ap (take (p + 20)) (sym (append_assoc (take p xs) ys (post_of p 20 xs)))
      ∙ take_at (take p xs ++ ys) (post_of p 20 xs) (p + 20) (length-append (take p xs) ys ∙ ap₂ ◌+◌ front all)

pub four-parts : (xs y0 y1 y2 y3 : List ℕ) → length xs ≡ 80 → length y0 ≡ 20 → length y1 ≡ 20 → length y2 ≡ 20
    → stored 60 (stored 40 (stored 20 (stored 0 xs y0) y1) y2) y3 ≡ y0 ++ (y1 ++ (y2 ++ y3))
four-parts xs y0 y1 y2 y3 len l0 l1 l2 =
    let x1 : List ℕ = stored 0 xs y0 in
    let x2 : List ℕ = stored 20 x1 y1 in
    let x3 : List ℕ = stored 40 x2 y2 in
    let n1 : length x1 ≡ 80 = length-stored 0 xs y0 (omega arith) l0 ∙ len in
    let n2 : length x2 ≡ 80 = length-stored 20 x1 y1 (omega arith) l1 ∙ n1 in
    let n3 : length x3 ≡ 80 = length-stored 40 x2 y2 (omega arith) l2 ∙ n2 in
    let t1 : take 20 x1 ≡ y0 = take-stored 0 xs y0 (omega arith) l0 in
    let t2 : take 40 x2 ≡ y0 ++ y1 = take-stored 20 x1 y1 (omega arith) l1 ∙ ap (λ (l : List ℕ). l ++ y1) t1 in
    let t3 : take 60 x3 ≡ (y0 ++ y1) ++ y2 = take-stored 40 x2 y2 (omega arith) l2 ∙ ap (λ (l : List ℕ). l ++ y2) t2 in
    ap₂ (λ (l r : List ℕ). l ++ (y3 ++ r)) t3 (drop_of_length-le (drop 60 x3) {i = 20} (simp length-drop (omega arith)))
    ∙ ap (λ (l : List ℕ). ((y0 ++ y1) ++ y2) ++ l) (append-nil y3)
    ∙ append_assoc (y0 ++ y1) y2 y3
    ∙ append_assoc y0 y1 (y2 ++ y3)
