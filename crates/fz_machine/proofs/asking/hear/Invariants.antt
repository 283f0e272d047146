-- The answers so far are heard.
use Rattle.std.proofs.Common.{[], ◌≡◌, take}
use Rattle.fz_machine.specs.Going.{going, HasRoomOff, IsSameRoom}
use Rattle.fz_machine.specs.Phases.{settles}
use Rattle.fz_machine.specs.Steps.{steps}
use Rattle.fz_machine.proofs.asking.hear.Given as goal

abbrev pub invariant-loop-yes : goal.invariant-loop-yes
invariant-loop-yes l = record {
  heard : going l.finalizers l.walk [] ≡ steps l.phase (take l.yes-index l.answers) (going l.initial.finalizers l.initial.walk []);
  room : HasRoomOff (settles l.phase) l.walk;
  same : IsSameRoom l.initial.walk l.walk;
}
