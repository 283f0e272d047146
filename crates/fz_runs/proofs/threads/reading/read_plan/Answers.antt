use Rattle.fz_runs.proofs.FileReading.{plan_is_read}
use Rattle.fz_runs.proofs.threads.reading.read_plan.Goals as goal

pub returns-in-Ok : goal.returns-in-Ok
returns-in-Ok g c = plan_is_read _ _ c.in-Ok.number _ c.whole.result c.in-Ok.ensures c.whole.ensures
