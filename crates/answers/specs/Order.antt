-- The order in which a call tries its refusals, and what becomes of its effect.
use Rattle.std.specs.Prelude.{Bool, true, false, cond, ℕ, eqb}

-- the number n unless the test holds, and then what comes next in the order
abbrev pub unless : Bool → ℕ → ℕ → ℕ
unless true n next = next
unless false n next = n

-- what a call gives if its number is 0, and what it gives if not
abbrev pub if_done {ℓ} : {A : Type ℓ} → ℕ → A → A → A
if_done number done refused = cond (eqb number 0) done refused
