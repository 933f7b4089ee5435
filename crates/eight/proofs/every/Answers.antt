-- `eight::every`: the closure in every lane of every four.
use Rattle.std.proofs.Common.{◌≡◌, Option, Some, None}
use Rattle.primitives.specs.declared.State.{State}
use Rattle.eight.specs.declared.Lanes.{Lanes}
use Rattle.eight.specs.Inner.{EachBy, IfFour}
use Rattle.eight.proofs.every.Goals as goal

some_gone : (R : State → State → Type 0) (s : Option Lanes) (x y : Lanes) → s ≡ Some x → EachBy R x y → IfFour R s (Some y)
some_gone R s x y e h = rw e h

none_gone : (R : State → State → Type 0) (s : Option Lanes) → s ≡ None → IfFour R s s
none_gone R s e = rw e tt

pub returns-in-Some : goal.returns-in-Some
returns-in-Some g c =
    record {
      x_gone = record { lane = λ k h. (c.each.ensures.lane k h).1 };
      y_gone = record { lane = λ k h. (c.each-2.ensures.lane k h).1 };
      z_gone = some_gone _ _ _ _ c.in-Some.is (record { lane = λ k h. (c.each-in-Some.ensures.lane k h).1 });
    }

pub returns : goal.returns
returns g c =
    record {
      x_gone = record { lane = λ k h. (c.each.ensures.lane k h).1 };
      y_gone = record { lane = λ k h. (c.each-2.ensures.lane k h).1 };
      z_gone = none_gone _ _ c.in_default.is;
    }
