use Rattle.std.proofs.Common.{◌<◌, ◌*◌, ◌-◌, ℕ}
use Rattle.fz_blocks.specs.BlockSets.{HasRun}
use Rattle.fz_blocks.proofs.block_set.BlockSet.first_run.Given as goal

abbrev pub invariant-loop-row : goal.invariant-loop-row
invariant-loop-row l = (b : ℕ) → b < 64 * l.row → HasRun l.self.members l.count b → ⊥

abbrev pub decreases-loop-row : goal.decreases-loop-row
decreases-loop-row l = l.self.size - 64 * l.row
