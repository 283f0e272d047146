-- The core that the parts of a world make, and parts that differ in a proof alone.
use Rattle.std.proofs.Common.{◌≡◌, ◌*◌}
use native.Mathlib.Nat.{ℕ_set}
use Rattle.fz_model.specs.declared.limits.TheConstants.{BLOCK_WORDS}
use Rattle.fz_model.specs.State.{Core}
use Rattle.fz_world.specs.World.{core_of}
use Rattle.fz_world.specs.declared.world.World.TheInside.{Inside}

abbrev pub core_inside : Inside → Core
core_inside w = core_of w.marked.heap w.frames w.finalizers.state w.closed w.cycle

pub same_inside : (w : Inside) (size : w.marked.marker.size ≡ BLOCK_WORDS * w.marked.heap.blocks) → record w { marked = record w.marked { size = size } } ≡ w
same_inside w size = λ i. record w { marked = record w.marked { size = ℕ_set _ _ size w.marked.size i } }
