use Rattle.fz_runs.proofs.Sections.{sections_stand, sections_few}
use Rattle.fz_runs.proofs.Telling.{plan_drives, unreadable_drives}
use Rattle.fz_runs.proofs.threads.run.drive_threads.Goals as goal

pub run_plan-requires-clause-stand : goal.run_plan-requires-clause-stand
run_plan-requires-clause-stand g c κs within = sections_stand _ _ c.in-Ok.ensures.3

pub run_plan-requires-clause-few : goal.run_plan-requires-clause-few
run_plan-requires-clause-few g c κs within = sections_few _ _ c.in-Ok.ensures.3

pub returns-in-Ok : goal.returns-in-Ok
returns-in-Ok g c = plan_drives _ _ _ _ c.in-Ok.plan c.run_plan.result c.in-Ok.ensures c.run_plan.ensures

pub returns-in-Err : goal.returns-in-Err
returns-in-Err g c = unreadable_drives _ _ _ _ c.in-Err.fault c.tell_unreadable.result c.in-Err.ensures c.tell_unreadable.ensures
