-- The cleanups so far of this moment that are from the number on are listed, unless they were told marked, and all of this moment are noted again.
use Rattle.std.proofs.Common.{◌≡◌, ◌≤◌, ◌+◌, ◌++◌, length, vec_capacity}
use Rattle.fz_machine.specs.Items.{is_listed, of_cleanup}
use Rattle.fz_machine.specs.Regions.{is_unmarked}
use Rattle.fz_machine.proofs.Ordered.{AreWords}
use Rattle.fz_machine.proofs.Renoted.{AreLooked, IsCleanedOf, items_of}
use Rattle.fz_machine.proofs.listing.list_cleanups.Given as goal

abbrev pub invariant-loop-number : goal.invariant-loop-number
invariant-loop-number l = record {
  listed : l.items.items ≡ items_of (is_listed l.from l.initial.table.told l.when) (λ e. of_cleanup (is_unmarked l.initial.table.told e.1.object) e) l.yielded;
  words : AreWords l.items.items;
  few : length l.items.items + length l.number-iterator ≤ length l.initial.number-iterator;
  grown : vec_capacity l.initial.items ≤ vec_capacity l.items;
  rest : l.yielded ++ l.number-iterator ≡ l.initial.number-iterator;
  looked : AreLooked (IsCleanedOf l.when) l.initial.table l.table l.yielded;
}
