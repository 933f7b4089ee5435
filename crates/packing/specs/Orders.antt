-- The two orders and their numbers.
use Rattle.std.specs.Prelude.{◌≡◌, ℕ, ◌<◌, Result, MatchResult}
use Rattle.answers.specs.declared.Refusal.{Refusal}
use Rattle.answers.specs.declared.Refusal.TheVariants.{BadOrder}
use Rattle.packing.specs.declared.Order.{Order}
use Rattle.packing.specs.declared.Order.TheVariants.{Number, Words}

abbrev pub order_number : Order → ℕ
order_number Number = 0
order_number Words = 1

-- the order of a number, or the refusal that there is none
abbrev pub Names : ℕ → Result Order Refusal → Type 0
Names n r = MatchResult r (λ order. order_number order ≡ n) (λ refusal. (refusal ≡ BadOrder) × (1 < n))
