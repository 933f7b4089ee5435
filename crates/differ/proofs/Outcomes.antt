-- The four ways in which comparing ends: the first bundle refused, the second, too few rows, all lines listed.
use mathlib.Core.Path.{◌≡◌, refl, sym, ap, ap₂, ◌∙◌}
use mathlib.Core.Bool.{Bool, true, false, cond}
use mathlib.Core.Logic.{◌≢◌}
use mathlib.Core.List.{List, [], ◌++◌}
use Prim.Native.Nat.{ℕ, ◌*◌, ◌<◌, ◌≤◌}
use lib.Dec.{eqb, leb}
use lib.ListN.{length, drop}
use native.Mathlib.Omega.{arith}
use borrow.Author.Tests.{eq-eqb, eqb-true, ne_eqb, le-leb, lt-leb}
use Rattle.answers.specs.Numbers.{DONE, SHORT_OUTPUT}
use Rattle.answers.specs.Order.{unless, if_done}
use Rattle.answers.proofs.Outcome.{if_done_lem, if_refused}
use Rattle.bundle_format.specs.Reader.{count_of, well_formed, read_code, opened}
use Rattle.bundle_format.specs.declared.Opened.{Opened}
use Rattle.bundle_format.proofs.Accepted.{accepts, formed_if}
use Rattle.differ.specs.Difference.{Line, lines_from, ids, listed, numbers_of, compare_code, Compares}

-- an accepted bundle is well formed
pub right_when : (key b : List ℕ) → read_code 2 key b ≡ 0 → well_formed 2 b ≡ true
right_when key b e = formed_if 2 b (accepts 2 key b e).0.formed

module _ (key b : List ℕ) (o : Opened) (is : o ≡ opened 2 key b) where
  -- the number that looking through a bundle gives
  pub code-told : o.code ≡ read_code 2 key b
  unfolding opened
  code-told = ap (λ (p : Opened). p.code) is ∙ go (eqb (read_code 2 key b) 0) refl
    where
      go : (t : Bool) → eqb (read_code 2 key b) 0 ≡ t
          → (cond {A = Opened} t (record { code = 0; reader = 2; count = count_of b; size = length b }) (record { code = read_code 2 key b; reader = 2; count = 0; size = 0 })).code ≡ read_code 2 key b
      go true e = sym (eqb-true (read_code 2 key b) 0 e)
      go false e = refl

  -- what it gives of an accepted one
  module _ (z : o.code ≡ 0) where
    pub looked : ◌≡◌ {A = Opened} o (record { code = 0; reader = 2; count = count_of b; size = length b })
    unfolding opened
    looked =
        is
        ∙ ap (λ (t : Bool). cond {A = Opened} t (record { code = 0; reader = 2; count = count_of b; size = length b }) (record { code = read_code 2 key b; reader = 2; count = 0; size = 0 })) (eq-eqb (read_code 2 key b) 0 (sym code-told ∙ z))

    pub right : well_formed 2 b ≡ true
    right = right_when key b (sym code-told ∙ z)

module _ (key b c : List ℕ) where
  pub first_refused : read_code 2 key b ≢ 0 → listed key b c ≡ []
  unfolding listed
  first_refused ne = if_refused (read_code 2 key b) (if_done (read_code 2 key c) (lines_from ids 0 b c) []) [] ne

  pub second-refused : read_code 2 key c ≢ 0 → listed key b c ≡ []
  unfolding listed
  second-refused ne = go (eqb (read_code 2 key b) 0)
    where
      go : (t : Bool) → cond t (if_done (read_code 2 key c) (lines_from ids 0 b c) []) [] ≡ []
      go true = if_refused (read_code 2 key c) (lines_from ids 0 b c) [] ne
      go false = refl

  pub both_accepted : read_code 2 key b ≡ 0 → read_code 2 key c ≡ 0 → listed key b c ≡ lines_from ids 0 b c
  unfolding listed
  both_accepted e f =
      if_done_lem (read_code 2 key b) (if_done (read_code 2 key c) (lines_from ids 0 b c) []) [] e ∙ if_done_lem (read_code 2 key c) (lines_from ids 0 b c) [] f

  module _ (rows : List ℕ) (f s : ℕ) (first : f ≡ read_code 2 key b) (second : s ≡ read_code 2 key c) where
    kept : compare_code key b c (length rows) ≢ 0 → rows ≡ if_done (compare_code key b c (length rows)) (numbers_of (listed key b c) ++ drop (9 * length (listed key b c)) rows) rows
    kept ne = sym (if_refused (compare_code key b c (length rows)) (numbers_of (listed key b c) ++ drop (9 * length (listed key b c)) rows) rows ne)

    pub outcome_first : f ≢ 0 → Compares key b c rows f f s 0 rows
    unfolding compare_code
    outcome_first ne =
        record {
          is = number;
          first = first;
          second = second;
          counts = sym (ap length (first_refused (λ e. ne (first ∙ e))));
          leaves = kept (λ e. ne (number ∙ e));
        }
      where
        number : f ≡ compare_code key b c (length rows)
        number =
            first
            ∙ sym (ap (λ (t : Bool). unless t (read_code 2 key b) (unless (eqb (read_code 2 key c) 0) (read_code 2 key c) (unless (leb (9 * length (listed key b c)) (length rows)) SHORT_OUTPUT DONE))) (ne_eqb (read_code 2 key b) 0 (λ e. ne (first ∙ e))))

    module _ (z : f ≡ 0) where
      accepted : read_code 2 key b ≡ 0
      accepted = sym first ∙ z

      pub outcome_second : s ≢ 0 → Compares key b c rows s 0 s 0 rows
      unfolding compare_code
      outcome_second ne =
          record {
            is = number;
            first = sym accepted;
            second = second;
            counts = sym (ap length (second-refused (λ e. ne (second ∙ e))));
            leaves = kept (λ e. ne (number ∙ e));
          }
        where
          number : s ≡ compare_code key b c (length rows)
          number =
              second
              ∙ sym
              (ap₂ (λ (t u : Bool). unless t (read_code 2 key b) (unless u (read_code 2 key c) (unless (leb (9 * length (listed key b c)) (length rows)) SHORT_OUTPUT DONE))) (eq-eqb (read_code 2 key b) 0 accepted)
              (ne_eqb (read_code 2 key c) 0 (λ e. ne (second ∙ e))))

      module _ (y : s ≡ 0) (n : ℕ) (counted : n ≡ length (lines_from ids 0 b c)) where
        both : listed key b c ≡ lines_from ids 0 b c
        both = both_accepted accepted (sym second ∙ y)

        counts : n ≡ length (listed key b c)
        counts = counted ∙ sym (ap length both)

        by_room : (t : Bool) → leb (9 * n) (length rows) ≡ t → compare_code key b c (length rows) ≡ unless t SHORT_OUTPUT DONE
        unfolding compare_code
        by_room t e =
            ap₂ (λ (x y : Bool). unless x (read_code 2 key b) (unless y (read_code 2 key c) (unless (leb (9 * length (listed key b c)) (length rows)) SHORT_OUTPUT DONE))) (eq-eqb (read_code 2 key b) 0 accepted) (eq-eqb (read_code 2 key c) 0 (sym second ∙ y))
            ∙ ap (λ (x : Bool). unless x SHORT_OUTPUT DONE) (ap (λ (m : ℕ). leb (9 * m) (length rows)) (sym counts) ∙ e)

        pub outcome_short : length rows < 9 * n → Compares key b c rows 25 0 0 n rows
        outcome_short h =
            record {
              is = sym number;
              first = sym accepted;
              second = sym (sym second ∙ y);
              counts = counts;
              leaves = kept (λ e. never (sym number ∙ e));
            }
          where
            number : compare_code key b c (length rows) ≡ 25
            number = by_room false (lt-leb (9 * n) (length rows) h)

            never : ◌≡◌ {A = ℕ} 25 0 → ⊥
            never e = omega arith

        pub outcome_listed : 9 * n ≤ length rows → (e : List ℕ) → e ≡ numbers_of (lines_from ids 0 b c) ++ drop (9 * length (lines_from ids 0 b c)) rows → Compares key b c rows 0 0 0 n e
        outcome_listed h e left =
            record {
              is = sym number;
              first = sym accepted;
              second = sym (sym second ∙ y);
              counts = counts;
              leaves =
                  left
                  ∙ ap (λ (ls : List Line). numbers_of ls ++ drop (9 * length ls) rows) (sym both)
                  ∙ sym (if_done_lem (compare_code key b c (length rows)) (numbers_of (listed key b c) ++ drop (9 * length (listed key b c)) rows) rows number);
            }
          where
            number : compare_code key b c (length rows) ≡ 0
            number = by_room true (le-leb (9 * n) (length rows) h)
