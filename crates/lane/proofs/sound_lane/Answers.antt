-- `lane::sound_lane` tells whether a record is sound.
use mathlib.Core.Path.{sym, ◌∙◌}
use Rattle.lane.proofs.Records.{idle_is, running_is, finished_is, no_phase}
use Rattle.lane.proofs.sound_lane.Goals as goal

pub returns-in-Ok-Idle : goal.returns-in-Ok-Idle
returns-in-Ok-Idle c = c.all_zero.ensures ∙ sym (idle_is c.args.l (sym (rw c.in-Ok-Idle.field-0-is at c.in-Ok-Idle.ensures)))

pub returns-then-tidy : goal.returns-then-tidy
returns-then-tidy c = sym (running_is c.args.l (sym c.tidy.ensures ∙ c.if-tidy.true) (rw c.in-Ok-Running.field-0-is at c.in-Ok-Running.ensures))

pub returns-else-tidy : goal.returns-else-tidy
returns-else-tidy c = c.if-tidy.false ∙ sym (running_is c.args.l (sym c.tidy.ensures ∙ c.if-tidy.false) (rw c.in-Ok-Running.field-0-is at c.in-Ok-Running.ensures))

pub returns-then-tidy-2 : goal.returns-then-tidy-2
returns-then-tidy-2 c = sym (finished_is c.args.l (sym c.tidy-in-Ok-Finished.ensures ∙ c.if-tidy-2.true) (rw c.in-Ok-Finished.field-0-is at c.in-Ok-Finished.ensures))

pub returns-else-tidy-2 : goal.returns-else-tidy-2
returns-else-tidy-2 c = c.if-tidy-2.false ∙ sym (finished_is c.args.l (sym c.tidy-in-Ok-Finished.ensures ∙ c.if-tidy-2.false) (rw c.in-Ok-Finished.field-0-is at c.in-Ok-Finished.ensures))

pub returns-in-Err : goal.returns-in-Err
returns-in-Err c = sym (no_phase c.args.l c.in-Err.ensures.1)
