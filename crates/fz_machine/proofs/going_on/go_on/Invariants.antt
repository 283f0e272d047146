-- Wherever it goes on to from here, it goes on to from the start.
use Rattle.std.proofs.Common.{All, ◌≡◌, ◌≤◌, IsTrue, Option, Some}
use Rattle.fz_machine.specs.declared.item.Item.{Item}
use Rattle.fz_machine.specs.declared.phase.Sweep.{Sweep}
use Rattle.fz_machine.specs.Phases.{swept}
use Rattle.fz_machine.specs.Regions.{table_at}
use Rattle.fz_machine.specs.declared.phase.Phase.{Phase}
use Rattle.fz_machine.specs.Going.{AreNoMore, IsInOrder, going, questions_by, told_in}
use Rattle.fz_machine.specs.Steps.{Going, GoesOn}
use Rattle.fz_machine.proofs.Ending.{phases_left}
use Rattle.fz_machine.proofs.going_on.go_on.Given as goal

abbrev pub invariant-loop-phase : goal.invariant-loop-phase
invariant-loop-phase l = record {
  goes : (last : Option Phase) (k : Going) → GoesOn l.initial.from l.phase (going l.finalizers l.walk (told_in l.tables (Some l.phase))) last k
      → GoesOn l.initial.from l.initial.phase (going l.initial.finalizers l.initial.walk (told_in l.initial.tables (Some l.initial.phase))) last k;
  order : IsInOrder l.finalizers.state l.walk l.tables (Some l.phase);
  known : (sweep : Sweep) → l.phase ≡ swept sweep → IsTrue (table_at l.tables sweep).complete → All (λ (item : Item). IsTrue item.known) l.walk.left;
  more : AreNoMore l.initial.tables l.tables;
  fewer : questions_by (Some l.phase) l.tables ≤ questions_by (Some l.initial.phase) l.initial.tables;
}

abbrev pub decreases-loop-phase : goal.decreases-loop-phase
decreases-loop-phase l = phases_left l.phase l.walk.off
