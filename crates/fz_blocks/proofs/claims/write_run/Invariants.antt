use Rattle.std.proofs.Common.{◌≤◌, ◌-◌}
use Rattle.fz_blocks.specs.Runs.{WritesRun}
use Rattle.fz_blocks.proofs.claims.write_run.Given as goal

abbrev pub invariant-loop-back : goal.invariant-loop-back
invariant-loop-back l = (1 ≤ l.back) × (l.back ≤ l.count) × WritesRun l.fn.blocks l.blocks l.at l.back l.fn.first

abbrev pub decreases-loop-back : goal.decreases-loop-back
decreases-loop-back l = l.count - l.back
