-- The objects so far are noted, unless memory lacked.
use Rattle.std.proofs.Common.{◌≡◌, ◌≤◌, ◌+◌, ◌++◌, length, IsTrue, ℕ}
use Rattle.fz_table.specs.declared.stored.Stored.{Stored}
use Rattle.fz_machine.specs.Regions.{IsUntold}
use Rattle.fz_machine.proofs.Renewed.{EachNoted}
use Rattle.fz_machine.proofs.tables.note_objects.Given as goal

abbrev pub invariant-loop-object : goal.invariant-loop-object
invariant-loop-object l = record {
  untold : IsUntold l.table;
  rest : l.yielded ++ l.object-iterator ≡ l.initial.object-iterator;
  few : length l.table.order + length l.object-iterator ≤ length l.initial.object-iterator;
  noted : IsTrue l.table.complete → EachNoted (λ (e : ℕ × Stored) (n : ℕ). n ≡ e.0) l.table.order l.yielded;
}
