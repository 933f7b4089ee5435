-- Which calls are of groups: an order that there is, eighty words, four whole blocks or more, and as many bytes of output.
use Rattle.std.specs.Prelude.{Bool, ◌&&◌, ℕ, ◌%◌, eqb, leb}
use Rattle.published.specs.Seen.{is_order}

abbrev pub in_groups : (order words input output : ℕ) → Bool
in_groups order words input output = is_order order && (eqb words 80 && (eqb (input % 16) 0 && (leb 64 input && eqb output input)))
