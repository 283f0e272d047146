use Rattle.std.proofs.Common.{◌≡◌, ◌≤◌, ◌*◌, sum, take}
use Rattle.fz_runs.specs.declared.threads.limits.TheConstants.{MAX_REFUSED}
use Rattle.fz_runs.proofs.threads.actors.total.Given as goal

abbrev pub invariant-loop-count : goal.invariant-loop-count
invariant-loop-count l = record {
  is : l.total ≡ sum (take l.count-index l.counts);
  few : l.total ≤ MAX_REFUSED * l.count-index;
}
