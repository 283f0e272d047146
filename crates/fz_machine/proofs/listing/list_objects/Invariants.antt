-- The registrations so far that are from the number on are listed, unless they were told marked, and all are noted again.
use Rattle.std.proofs.Common.{◌≡◌, ◌≤◌, ◌+◌, ◌++◌, ◌&&◌, nat_le, not, length, vec_capacity}
use Rattle.fz_machine.specs.Items.{of_stored}
use Rattle.fz_machine.specs.Regions.{is_marked, is_unmarked}
use Rattle.fz_machine.proofs.Renoted.{AreLooked, IsObjectOf, items_of}
use Rattle.fz_machine.proofs.listing.list_objects.Given as goal

abbrev pub invariant-loop-object : goal.invariant-loop-object
invariant-loop-object l = record {
  listed : l.items.items ≡ items_of (λ e. nat_le l.from e.1.number && not (is_marked l.initial.table.told e.0)) (λ e. of_stored (is_unmarked l.initial.table.told e.0) e) l.yielded;
  few : length l.items.items + length l.object-iterator ≤ length l.initial.object-iterator;
  grown : vec_capacity l.initial.items ≤ vec_capacity l.items;
  rest : l.yielded ++ l.object-iterator ≡ l.initial.object-iterator;
  looked : AreLooked IsObjectOf l.initial.table l.table l.yielded;
}
