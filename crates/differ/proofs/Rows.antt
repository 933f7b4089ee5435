-- Rows: the line of what was found, and the lines laid one after the other.
use mathlib.Core.Path.{◌≡◌, refl, sym, ap, ap₂, ◌∙◌}
use mathlib.Core.Bool.{true, false, false≢true}
use mathlib.Core.List.{List, [], ◌∷◌, ◌++◌, append_assoc, append-nil}
use Prim.Native.Nat.{ℕ, ◌+◌, ◌-◌, ◌*◌, ◌<◌, ◌≤◌}
use native.Mathlib.Omega.{arith}
use lib.ListN.{length, take, drop, length-append, take-append-drop}
use lib.Seq.{take_all, drop-drop, paste, take-paste, drop-paste, length-paste}
use borrow.Rule.Slice.PartMut.{put_mid, Post-is}
use Rattle.std.specs.Option.{is_some}
use Rattle.std.specs.declared.option.Option.{Option}
use Rattle.std.specs.declared.option.Option.TheVariants.{None, Some}
use Rattle.differ.specs.Difference.{Line, numbers, numbers_of, lines_from, ids}
use Rattle.differ.specs.Inner.{line_in, line_if, Steps}
use Rattle.differ.specs.declared.Found.{Found}
use Rattle.differ.specs.declared.Step.{Step}

pub length-numbers_of : (ls : List Line) → length (numbers_of ls) ≡ 9 * length ls
unfolding numbers_of numbers
length-numbers_of [] = refl
length-numbers_of (l ∷ ls) = let h : length (numbers_of ls) ≡ 9 * length ls = length-numbers_of ls in omega arith

no_numbers : (ls : List Line) → ls ≡ [] → [] ≡ numbers_of ls
unfolding numbers_of
no_numbers ls e = sym (ap numbers_of e)

pub numbers-append : (ks ls : List Line) → numbers_of (ks ++ ls) ≡ numbers_of ks ++ numbers_of ls
unfolding numbers_of
numbers-append [] ls = refl
numbers-append (k ∷ ks) ls = ap (λ (x : List ℕ). numbers k ++ x) (numbers-append ks ls) ∙ sym (append_assoc (numbers k) (numbers_of ks) (numbers_of ls))

-- ---- a line that was found, if any

pub one_line : (o : Option Found) → is_some o ≡ true → length (line_in o) ≡ 1
unfolding line_in
one_line None e = absurd (false≢true e)
one_line (Some f) e = refl

pub no_line : (o : Option Found) → is_some o ≡ false → length (line_in o) ≡ 0
unfolding line_in
no_line None e = refl
no_line (Some f) e = absurd (false≢true (sym e))

-- nothing kept
pub none_kept : (rows : List ℕ) (k : ℕ) → rows ≡ paste rows (9 * k) (numbers_of (line_in None)) (9 * length (line_in None))
unfolding numbers_of line_in
none_kept rows k =
    sym (take-append-drop (9 * k) rows) ∙ ap₂ (λ (x : List ℕ) (n : ℕ). x ++ drop n rows) (sym (append-nil (take (9 * k) rows))) none_added
  where
    none_added : 9 * k ≡ 9 * k + 0
    none_added = omega arith

-- one line kept
pub one_kept : (rows : List ℕ) (k : ℕ) (f : Found) (new : List ℕ) → 9 * k + 9 ≤ length rows → new ≡ numbers (record { id = f.id; one = f.one; two = f.two })
    → put_mid (9 * k) (9 * k + 9 - 9 * k) rows new ≡ paste rows (9 * k) (numbers_of (line_in (Some f))) (9 * length (line_in (Some f)))
unfolding numbers_of numbers line_in
one_kept rows k f new h is =
    ap₂ (λ (x y : List ℕ). take (9 * k) rows ++ (x ++ y)) is (Post-is (9 * k) (9 * k + 9) rows (omega arith))
    ∙ sym (append_assoc (take (9 * k) rows) (numbers (record { id = f.id; one = f.one; two = f.two })) (drop (9 * k + 9) rows))

-- ---- a loop over the ids: k lines are behind it, and those from `low` on before it

none_left : (low : ℕ) (b c : List ℕ) → lines_from 0 low b c ≡ []
unfolding lines_from
none_left low b c = refl

module _ (b c : List ℕ) where
  abbrev pub Counts : (low k : ℕ) → Type 0
  Counts low k = (m : ℕ) → low + m ≡ ids → k + length (lines_from m low b c) ≡ length (lines_from ids 0 b c)

  pub counts_start : Counts 0 0
  counts_start m e = ap (λ (n : ℕ). 0 + length (lines_from n 0 b c)) all ∙ none_added
    where
      all : m ≡ ids
      all = omega arith

      none_added : 0 + length (lines_from ids 0 b c) ≡ length (lines_from ids 0 b c)
      none_added = omega arith

  pub counts_end : (low k : ℕ) → Counts low k → low ≡ ids → k ≡ length (lines_from ids 0 b c)
  counts_end low k counts e = omega (arith, counts 0 (omega arith), ap length (none_left low b c))

  module _ (low k : ℕ) (counts : Counts low k) (s : Step) (steps : Steps b c low s) where
    one_step : (n m : ℕ) → low + n ≡ ids → s.low + m ≡ ids → k + (length (line_if s) + length (lines_from m s.low b c)) ≡ length (lines_from ids 0 b c)
    one_step n m e f = ap (λ (x : ℕ). k + x) (sym (ap length (steps.lines n m e f) ∙ length-append (line_if s) (lines_from m s.low b c))) ∙ counts n e

    pub counts_more : Counts s.low (k + length (line_if s))
    counts_more m f = let r : low < s.low = steps.rises in let x = one_step (ids - low) m (omega arith) f in omega arith

    pub counts_fit : k + length (line_if s) ≤ length (lines_from ids 0 b c)
    counts_fit = let r : s.low ≤ ids = steps.most in let x = counts_more (ids - s.low) (omega arith) in omega arith

  -- what the rows hold then
  pub record Filled (old rows : List ℕ) (low k : ℕ) : Type 0 where
    pub most : low ≤ ids
    pub size : length rows ≡ length old
    pub counts : Counts low k
    pub past : drop (9 * k) rows ≡ drop (9 * k) old
    pub laid : (m : ℕ) → low + m ≡ ids → take (9 * k) rows ++ numbers_of (lines_from m low b c) ≡ numbers_of (lines_from ids 0 b c)

  pub filled-start : (old : List ℕ) → Filled old old 0 0
  filled-start old =
      record {
        most = omega arith;
        size = refl;
        counts = counts_start;
        past = refl;
        laid = λ m e. ap (λ (n : ℕ). numbers_of (lines_from n 0 b c)) (all m e);
      }
    where
      all : (m : ℕ) → 0 + m ≡ ids → m ≡ ids
      all m e = omega arith

  module _ (old rows : List ℕ) (low k : ℕ) (filled : Filled old rows low k) (room : 9 * length (lines_from ids 0 b c) ≤ length old) where
    module _ (s : Step) (steps : Steps b c low s) where
      pub filled_fit : 9 * k + 9 * length (line_if s) ≤ length rows
      filled_fit =
          let f : k + length (line_if s) ≤ length (lines_from ids 0 b c) = counts_fit low k filled.counts s steps in
          let e : length rows ≡ length old = filled.size in
          omega arith

      pub filled_more : (new : List ℕ) (k' : ℕ) → k' ≡ k + length (line_if s) → new ≡ paste rows (9 * k) (numbers_of (line_if s)) (9 * length (line_if s)) → Filled old new s.low k'
      filled_more new k' e is =
          let fit : 9 * k + 9 * length (line_if s) ≤ length rows = filled_fit in
          let l : 9 * length (line_if s) ≤ length (numbers_of (line_if s)) = omega (arith, length-numbers_of (line_if s)) in
          record {
            most = steps.most;
            size = ap length is ∙ length-paste rows (9 * k) (numbers_of (line_if s)) (9 * length (line_if s)) fit l ∙ filled.size;
            counts = rw e (counts_more low k filled.counts s steps);
            past =
                ap₂ (λ (n : ℕ) (x : List ℕ). drop n x) place is
                ∙ drop-paste rows (9 * k) (numbers_of (line_if s)) (9 * length (line_if s)) (omega arith) l
                ∙ sym (drop-drop (9 * length (line_if s)) (9 * k) rows)
                ∙ ap (drop (9 * length (line_if s))) filled.past
                ∙ drop-drop (9 * length (line_if s)) (9 * k) old
                ∙ ap (λ (n : ℕ). drop n old) (sym place);
            laid =
                λ m f.
                ap (λ (x : List ℕ). x ++ numbers_of (lines_from m s.low b c))
                (ap₂ (λ (n : ℕ) (x : List ℕ). take n x) place is
                ∙ take-paste rows (9 * k) (numbers_of (line_if s)) (9 * length (line_if s)) (omega arith) l
                ∙ ap (λ (x : List ℕ). take (9 * k) rows ++ x) (take_all (9 * length (line_if s)) (numbers_of (line_if s)) (omega (arith, length-numbers_of (line_if s)))))
                ∙ append_assoc (take (9 * k) rows) (numbers_of (line_if s)) (numbers_of (lines_from m s.low b c))
                ∙ ap (λ (x : List ℕ). take (9 * k) rows ++ x) (sym (numbers-append (line_if s) (lines_from m s.low b c)) ∙ ap numbers_of (sym (steps.lines (ids - low) m (before m) f)))
                ∙ filled.laid (ids - low) (before m);
          }
        where
          place : 9 * k' ≡ 9 * k + 9 * length (line_if s)
          place = omega arith

          before : (m : ℕ) → low + (ids - low) ≡ ids
          before m = let r : low < s.low = steps.rises in let t : s.low ≤ ids = steps.most in omega arith

    pub filled-end : ids ≤ low → rows ≡ numbers_of (lines_from ids 0 b c) ++ drop (9 * length (lines_from ids 0 b c)) old
    filled-end h =
        sym (take-append-drop (9 * k) rows)
        ∙ ap₂ ◌++◌ (sym (append-nil (take (9 * k) rows)) ∙ ap (λ (x : List ℕ). take (9 * k) rows ++ x) (no_numbers (lines_from 0 low b c) (none_left low b c)) ∙ filled.laid 0 (omega arith)) (filled.past ∙ ap (λ (n : ℕ). drop n old) place)
      where
        total : ℕ
        total = length (lines_from ids 0 b c)

        place : 9 * k ≡ 9 * total
        place = let e : k ≡ total = counts_end low k filled.counts (omega (arith, filled.most)) in omega arith
