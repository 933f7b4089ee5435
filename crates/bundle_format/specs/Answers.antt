-- The numbers of editions, kinds and states; and what calls answer, as C is given it.
use Rattle.std.specs.Prelude.{ℕ, zero, suc}
use Rattle.std.specs.declared.result.Result.{Result}
use Rattle.std.specs.declared.result.Result.TheVariants.{Ok, Err}
use Rattle.answers.specs.Refusals.{number}
use Rattle.answers.specs.declared.Refusal.{Refusal}
use Rattle.bundle_format.specs.Reader.{REFUSED, ABSENT, UNKNOWN, VALUE, bare}
use Rattle.bundle_format.specs.declared.Asked.{Asked}
use Rattle.bundle_format.specs.declared.Edition.{Edition}
use Rattle.bundle_format.specs.declared.Edition.TheVariants.{First, Second}
use Rattle.bundle_format.specs.declared.Kind.{Kind}
use Rattle.bundle_format.specs.declared.Kind.TheVariants.{Flag, Number, Text}
use Rattle.bundle_format.specs.declared.NoKind.{NoKind}
use Rattle.bundle_format.specs.declared.NoState.{NoState}
use Rattle.bundle_format.specs.declared.State.{State}
use Rattle.bundle_format.specs.declared.State.TheVariants.{Refused, Absent, Unknown, Value}
use Rattle.bundle_format.specs.declared.Told.{Told}
use Rattle.bundle_format.specs.declared.Written.{Written}

abbrev pub edition_number : Edition → ℕ
edition_number First = 1
edition_number Second = 2

-- the kind that a number is of, if any
abbrev pub kind_at : ℕ → Result Kind NoKind
kind_at zero = Ok Flag
kind_at (suc zero) = Ok Number
kind_at (suc (suc zero)) = Ok Text
kind_at (suc (suc (suc n))) = Err (record {})

abbrev pub state_number : State → ℕ
state_number Refused = REFUSED
state_number Absent = ABSENT
state_number Unknown = UNKNOWN
state_number Value = VALUE

abbrev pub state_at : ℕ → Result State NoState
state_at zero = Ok Refused
state_at (suc zero) = Ok Absent
state_at (suc (suc zero)) = Ok Unknown
state_at (suc (suc (suc zero))) = Ok Value
state_at (suc (suc (suc (suc n)))) = Err (record {})

-- what is told by an answer, and the total that it tells: of a refusal the bare state, and 0
abbrev pub told_in : Result Told Refusal → Told
told_in (Ok told) = told
told_in (Err refusal) = bare REFUSED 0

abbrev pub total_in : Result ℕ Refusal → ℕ
total_in (Ok total) = total
total_in (Err refusal) = 0

abbrev pub asked : Result Told Refusal → Asked
asked answer = record { code = number answer; told = told_in answer }

abbrev pub written : Result ℕ Refusal → Written
written answer = record { code = number answer; total = total_in answer }
