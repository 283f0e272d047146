-- The entries so far are on the list.
use Rattle.std.proofs.Common.{◌≤◌, false, vec_capacity}
use Rattle.fz_machine.specs.Items.{of_link}
use Rattle.fz_machine.proofs.Listed.{AreListed}
use Rattle.fz_machine.proofs.listing.list_ephemerons.Given as goal

abbrev pub invariant-loop-word : goal.invariant-loop-word
invariant-loop-word l = record {
  are : AreListed (of_link false) l.initial.items.items l.initial.word-iterator l.items.items l.yielded l.word-iterator;
  grown : vec_capacity l.initial.items ≤ vec_capacity l.items;
}
