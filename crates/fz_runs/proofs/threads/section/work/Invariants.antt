use Rattle.std.proofs.Common.{◌≤◌, ◌*◌, drop}
use Rattle.fz_runs.proofs.Holding.{Doing}
use Rattle.fz_runs.specs.declared.threads.limits.TheConstants.{MAX_REFUSED_OF_LINE}
use Rattle.fz_runs.proofs.threads.section.work.Given as goal

abbrev pub invariant-loop-job : goal.invariant-loop-job
invariant-loop-job g l = record {
  doing : Doing g.O.Opening.origin l.number l.jobs l.begun (drop l.job-index l.jobs) l.refused;
  few : l.refused ≤ MAX_REFUSED_OF_LINE * l.job-index;
  begun : l.begun ≤ l.job-index;
}
