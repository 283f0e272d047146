use Rattle.std.proofs.Common.{true, subst, sym}
use Rattle.fz_model.specs.declared.refusal.Refusal.{Refusal}
use Rattle.fz_model.specs.Causes.{IsRefusedFor}
use Rattle.fz_runs.specs.Plans.{asked_by}
use Rattle.fz_runs.specs.Threads.{service_causes}
use Rattle.fz_runs.proofs.Telling.{refusal_stops}
use Rattle.fz_runs.proofs.threads.run.run_plan.Goals as goal

pub returns-in-Err : goal.returns-in-Err
returns-in-Err g c =
    refusal_stops (asked_by c.args.plan) c.args.plan.size.line c.refusal.result _ _ c.tell_refused.result
    (subst (λ (r : Refusal). IsRefusedFor (service_causes (asked_by c.args.plan)) true r) (sym c.refusal.ensures) c.in-Err.ensures.judged) c.tell_refused.ensures
