-- The answers so far are heard.
use Rattle.std.proofs.Common.{[], ◌≡◌, ◌≤◌, ◌-◌, take}
use Rattle.fz_machine.specs.Asks.{bits_of}
use Rattle.fz_machine.specs.Going.{going, HasRoomOff, IsSameRoom}
use Rattle.fz_machine.specs.Phases.{settles}
use Rattle.fz_machine.specs.Steps.{steps}
use Rattle.fz_machine.proofs.asking.hear_each.Given as goal

abbrev pub invariant-loop-place : goal.invariant-loop-place
invariant-loop-place l = record {
  few : l.place ≤ l.count;
  heard : going l.finalizers l.walk [] ≡ steps l.phase (take l.place (take l.count (bits_of l.bits))) (going l.initial.finalizers l.initial.walk []);
  room : HasRoomOff (settles l.phase) l.walk;
  same : IsSameRoom l.initial.walk l.walk;
}

abbrev pub decreases-loop-place : goal.decreases-loop-place
decreases-loop-place l = l.count - l.place
