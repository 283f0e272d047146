use Rattle.std.proofs.Common.{List, subst, IfOk}
use Rattle.fz_script.specs.declared.job.Job.{Job}
use Rattle.fz_runs.specs.Holds.{SectionsRefused}
use Rattle.fz_runs.proofs.threads.run.run_over.Goals as goal

pub returns-in-Ok-clause-refused : goal.returns-in-Ok-clause-refused
returns-in-Ok-clause-refused g c =
    let origin = g.O.Opening.origin in
    subst (λ (jobs : List Job). SectionsRefused origin jobs c.in-Ok.refused) c.of-sections.ensures
    (subst (λ r. IfOk r (SectionsRefused origin c.of-sections.result.jobs.items)) c.in-Ok.is c.side_by_side-seats.ensures.refused)
