use Rattle.std.proofs.Common.{◌≤◌, ◌-◌}
use Rattle.fz_blocks.specs.Runs.{FreesLater}
use Rattle.fz_blocks.proofs.claims.free_later.Given as goal

abbrev pub invariant-loop-back : goal.invariant-loop-back
invariant-loop-back l = (1 ≤ l.back) × (l.back ≤ l.count) × FreesLater l.fn.blocks l.blocks l.at l.back

abbrev pub decreases-loop-back : goal.decreases-loop-back
decreases-loop-back l = l.count - l.back
