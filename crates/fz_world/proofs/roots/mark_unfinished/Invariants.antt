use Rattle.std.proofs.Common.{◌-◌, length}
use Rattle.fz_finalizers.specs.States.{unfinished}
use Rattle.fz_world.specs.Roots.{Marks, IsRootBefore}
use Rattle.fz_world.proofs.roots.mark_unfinished.Given as goal

abbrev pub invariant-loop-entry : goal.invariant-loop-entry
invariant-loop-entry l = Marks l.initial.marker l.marker (IsRootBefore l.heap.objects l.from (unfinished l.finalizers.state))

abbrev pub decreases-loop-entry : goal.decreases-loop-entry
decreases-loop-entry l = length l.finalizers.queue - l.from
