use Rattle.std.proofs.Common.{◌≡◌, ◌≤◌, ◌-◌, ◌%◌}
use Rattle.fz_blocks.proofs.Objects.{AreCellsBelow}
use Rattle.fz_blocks.proofs.block.Block.of.Given as goal

abbrev pub invariant-loop-place : goal.invariant-loop-place
invariant-loop-place l = (l.size ≤ l.place) × (l.place ≤ 1024) × (l.place % l.size ≡ 0) × AreCellsBelow l.cells l.size l.place

abbrev pub decreases-loop-place : goal.decreases-loop-place
decreases-loop-place l = 1024 - l.place
