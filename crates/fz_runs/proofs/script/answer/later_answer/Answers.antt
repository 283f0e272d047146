use Rattle.std.proofs.Common.{refl}
use Rattle.fz_runs.proofs.script.answer.later_answer.Goals as goal

pub returns-in-Ok-Some : goal.returns-in-Ok-Some
returns-in-Ok-Some c =
    let out = rw c.in-Ok-Some.field-0-is at c.in-Ok-Some.ensures in (
      c.args.machine.now,
      refl,
      c.take_step.new.self,
      refl,
      c.in-Some.step,
      (c.requires, c.in-Some.ensures.found.0, c.in-Some.ensures.found.1),
      out,
    )

pub returns-in-Err : goal.returns-in-Err
returns-in-Err c = (
  c.args.machine.now,
  refl,
  c.take_step.new.self,
  refl,
  c.in-Some.step,
  (c.requires, c.in-Some.ensures.found.0, c.in-Some.ensures.found.1),
  c.in-Err.ensures,
)
