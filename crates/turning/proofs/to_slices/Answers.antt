-- `turning::to_slices`: of the right lengths, all of it.
use mathlib.Core.Path.{refl, sym, ap, ◌∙◌}
use mathlib.Core.Bool.{false≢true}
use Rattle.published.specs.Seen.{read_in}
use Rattle.turning.specs.Slices.{block_at}
use Rattle.packing.specs.Orders.{order_number}
use Rattle.turning.proofs.Blocks.{is_whole, other_words, read_as}
use Rattle.turning.proofs.to_slices.Goals as goal

pub returns-in-Some-as_mut_array : goal.returns-in-Some-as_mut_array
returns-in-Some-as_mut_array c =
    let bytes = c.in-Some.ensures.cases in
    let words = c.in-Some-as_mut_array.ensures.cases in
    let yes = is_whole _ _ bytes.long words.long in
    record {
      lanes =
          λ _ b h. c.slice.ensures b h ∙ read_as (order_number c.order_of.result) c.args.order c.order_of.ensures (block_at c.in-Some.input.now b)
          ∙ ap (λ l. read_in c.args.order (block_at l b)) bytes.same;
      stays = λ e. absurd (false≢true (sym e ∙ yes));
    }

pub returns-in_default-as_mut_array : goal.returns-in_default-as_mut_array
returns-in_default-as_mut_array c = let no = other_words _ _ c.in_default-as_mut_array.ensures.cases in record { lanes = λ e. absurd (false≢true (sym no ∙ e)); stays = λ _. refl }
