-- What is left to go past is the same.
use Rattle.std.proofs.Common.{[], ◌≡◌, length}
use Rattle.fz_machine.specs.Going.{going, HasRoomOff, IsSameRoom}
use Rattle.fz_machine.specs.Phases.{settles}
use Rattle.fz_machine.specs.Steps.{skip}
use Rattle.fz_machine.proofs.asking.skip_each.Given as goal

abbrev pub invariant-loop-item : goal.invariant-loop-item
invariant-loop-item l = record {
  same : skip l.phase (going l.finalizers l.walk []) ≡ skip l.phase (going l.initial.finalizers l.initial.walk []);
  room : HasRoomOff (settles l.phase) l.walk;
  rooms : IsSameRoom l.initial.walk l.walk;
}

abbrev pub decreases-loop-item : goal.decreases-loop-item
decreases-loop-item l = length l.walk.left
