-- The addresses so far have no row.
use Rattle.std.proofs.Common.{ℕ, ◌≤◌, ◌<◌, ◌-◌, IsFalse}
use Rattle.fz_model.specs.declared.limits.TheConstants.{HEAP_START}
use Rattle.fz_model.specs.Extents.{IsInHeap}
use Rattle.fz_world.specs.Shown.{has_row}
use Rattle.fz_world.proofs.world.World.first_from.Given as goal

abbrev pub invariant-loop-address : goal.invariant-loop-address
invariant-loop-address l = record {
  start : HEAP_START ≤ l.address;
  after : l.from ≤ l.address;
  before : (a : ℕ) → IsInHeap l.self.blocks a → l.from ≤ a → a < l.address → IsFalse (has_row l.self.core l.table a);
}

abbrev pub decreases-loop-address : goal.decreases-loop-address
decreases-loop-address l = l.end - l.address
