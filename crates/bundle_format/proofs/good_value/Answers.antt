-- `bundle_format::good_value`, kind by kind.
use mathlib.Core.Path.{◌≡◌, refl, sym}
use mathlib.Core.Bool.{false}
use mathlib.Core.List.{List}
use Prim.Native.Nat.{ℕ, zero, suc}
use borrow.Author.Tests.{ne_eqb}
use Rattle.std.specs.declared.result.Result.TheVariants.{Ok, Err}
use Rattle.bundle_format.specs.Answers.{kind_at}
use Rattle.bundle_format.specs.Format.{good_value}
use Rattle.bundle_format.specs.declared.Kind.TheVariants.{Flag, Number, Text}
use Rattle.bundle_format.specs.declared.NoKind.{NoKind}
use Rattle.bundle_format.proofs.good_value.Goals as goal

flag-is : (n : ℕ) → kind_at n ≡ Ok Flag → n ≡ 0
flag-is zero e = refl
flag-is (suc zero) e = cc
flag-is (suc (suc zero)) e = cc
flag-is (suc (suc (suc n))) e = cc

number-is : (n : ℕ) → kind_at n ≡ Ok Number → n ≡ 1
number-is zero e = cc
number-is (suc zero) e = refl
number-is (suc (suc zero)) e = cc
number-is (suc (suc (suc n))) e = cc

text-is : (n : ℕ) → kind_at n ≡ Ok Text → n ≡ 2
text-is zero e = cc
text-is (suc zero) e = cc
text-is (suc (suc zero)) e = refl
text-is (suc (suc (suc n))) e = cc

-- what is no kind has no value
none-is : (n : ℕ) (x : NoKind) (body : List ℕ) → kind_at n ≡ Err x → good_value n body ≡ false
unfolding good_value
none-is zero x body e = cc
none-is (suc zero) x body e = cc
none-is (suc (suc zero)) x body e = cc
none-is (suc (suc (suc n))) x body e = refl

pub returns-then-body-eq1 : goal.returns-then-body-eq1
unfolding good_value
returns-then-body-eq1 c = let e : kind_at c.args.kind ≡ Ok Flag = cc in rw (flag-is c.args.kind e, c.if-body-eq1.true)

pub returns-else-body-eq1 : goal.returns-else-body-eq1
unfolding good_value
returns-else-body-eq1 c = let e : kind_at c.args.kind ≡ Ok Flag = cc in rw (flag-is c.args.kind e, ne_eqb _ 1 c.if-body-eq1.false)

pub returns-in-Ok-Number : goal.returns-in-Ok-Number
unfolding good_value
returns-in-Ok-Number c = let e : kind_at c.args.kind ≡ Ok Number = cc in rw (number-is c.args.kind e)

pub returns-in-Ok-Text : goal.returns-in-Ok-Text
unfolding good_value
returns-in-Ok-Text c = let e : kind_at c.args.kind ≡ Ok Text = cc in rw (text-is c.args.kind e)

pub returns-in-Err : goal.returns-in-Err
returns-in-Err c = let e : kind_at c.args.kind ≡ Err c.in-Err.field-0 = cc in sym (none-is c.args.kind c.in-Err.field-0 c.args.body.now e)
