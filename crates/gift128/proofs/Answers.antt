-- Eighty words and blocks of sixteen bytes in an order that there is are not refused.
use mathlib.Core.Path.{◌≡◌, ◌∙◌}
use mathlib.Core.Bool.{true}
use mathlib.Core.List.{List}
use Prim.Native.Nat.{ℕ, ◌%◌}
use lib.ListN.{length}
use borrow.Author.Tests.{eq-eqb}
use Rattle.answers.specs.Outcome.{Gives}
use Rattle.published.specs.Seen.{is_order}
use Rattle.published.specs.Calls.{block_code}
use Rattle.gift128.specs.Calls.{order_code, words_code, many_words_code}

pub not_refused : (order : ℕ) (ws block : List ℕ) {new left : List ℕ} {r : ℕ} → is_order order ≡ true → length ws ≡ 80 → length block ≡ 16
    → Gives (order_code order (words_code (length ws) (length block))) new block r left → (r ≡ 0) × (left ≡ new)
unfolding order_code words_code block_code
not_refused order ws block o w b g = (g.is ∙ (rw (o, w, b)), g.leaves ∙ (rw (o, w, b)))

pub many_not_refused : (order : ℕ) (ws input output : List ℕ) {new left : List ℕ} {r : ℕ} → is_order order ≡ true → length ws ≡ 80 → length input % 16 ≡ 0 → length output ≡ length input
    → Gives (order_code order (many_words_code (length ws) (length input) (length output))) new output r left → (r ≡ 0) × (left ≡ new)
unfolding order_code many_words_code
many_not_refused order ws input output o w i l g =
    let same = eq-eqb (length output) (length input) l in
    (g.is ∙ (rw (o, w, i, same)), g.leaves ∙ (rw (o, w, i, same)))
