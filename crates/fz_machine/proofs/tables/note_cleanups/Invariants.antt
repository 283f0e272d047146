-- The objects of the cleanups so far that are of this moment are noted, unless memory lacked.
use Rattle.std.proofs.Common.{◌≡◌, ◌≤◌, ◌+◌, ◌++◌, length, IsTrue}
use Rattle.fz_machine.specs.Regions.{IsUntold}
use Rattle.fz_machine.proofs.Renewed.{EachNoted, IsCleanupOf}
use Rattle.fz_machine.proofs.tables.note_cleanups.Given as goal

abbrev pub invariant-loop-cleanup : goal.invariant-loop-cleanup
invariant-loop-cleanup l = record {
  untold : IsUntold l.table;
  rest : l.yielded ++ l.cleanup-iterator ≡ l.initial.cleanup-iterator;
  few : length l.table.order + length l.cleanup-iterator ≤ length l.initial.cleanup-iterator;
  noted : IsTrue l.table.complete → EachNoted (IsCleanupOf l.fn.when) l.table.order l.yielded;
}
