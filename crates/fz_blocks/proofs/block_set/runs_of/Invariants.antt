use Rattle.std.proofs.Common.{◌≤◌, ◌-◌}
use Rattle.fz_blocks.specs.BlockSets.{AreRunsOf}
use Rattle.fz_blocks.proofs.block_set.runs_of.Given as goal

abbrev pub invariant-loop-shift : goal.invariant-loop-shift
invariant-loop-shift l = (1 ≤ l.shift) × (l.shift ≤ l.count) × AreRunsOf l.runs l.word l.next l.shift

abbrev pub decreases-loop-shift : goal.decreases-loop-shift
decreases-loop-shift l = l.count - l.shift
