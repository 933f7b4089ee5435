-- `Text::push_decimal` ends, since a tenth of a number of two digits is less.
use Rattle.text.proofs.Text.+push_decimal.Given as goal

abbrev pub decreases-push_decimal : goal.decreases-push_decimal
decreases-push_decimal l = l.n
