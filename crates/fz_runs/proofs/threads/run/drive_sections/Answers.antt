use Rattle.fz_runs.proofs.Sections.{sections_stand, sections_few}
use Rattle.fz_runs.proofs.Telling.{plan_carried_out}
use Rattle.fz_runs.proofs.threads.run.drive_sections.Goals as goal

pub run_over-requires-clause-stand : goal.run_over-requires-clause-stand
run_over-requires-clause-stand g c κs within = sections_stand _ _ c.in-Ok.ensures.3

pub run_over-requires-clause-few : goal.run_over-requires-clause-few
run_over-requires-clause-few g c κs within = sections_few _ _ c.in-Ok.ensures.3

pub returns-in-Ok-clause-driven : goal.returns-in-Ok-clause-driven
returns-in-Ok-clause-driven g c = plan_carried_out _ _ _ c.in-Ok.plan _ c.in-Ok.ensures c.run_over.ensures.refused c.run_over.ensures.fault c.run_over.ensures.settled
