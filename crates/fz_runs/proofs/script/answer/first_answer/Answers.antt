use Rattle.std.proofs.Common.{refl, subst}
use Rattle.fz_script.specs.declared.step.Step.{Step}
use Rattle.fz_runs.specs.Report.{AsksFor}
use Rattle.fz_runs.proofs.script.answer.first_answer.Goals as goal

pub returns-in-Ok : goal.returns-in-Ok
returns-in-Ok c = (
  c.requires.closed,
  c.in-Ok.opened,
  refl,
  c.in-Open.blocks,
  c.in-Open.frames,
  c.in-Open.workers,
  subst (λ (s : Step). AsksFor c.args.line.now s) c.in-Open.is (c.requires.kept, c.in-Some.ensures.found.0, c.in-Some.ensures.found.1),
  c.in-Ok.ensures.opened.0,
  c.in-Ok.ensures.opened.1,
)
