-- The links so far are listed, unless they were told marked, and noted again.
use Rattle.std.proofs.Common.{◌≡◌, ◌≤◌, ◌+◌, ◌++◌, not, length, vec_capacity}
use Rattle.fz_machine.specs.Items.{link_number, of_link}
use Rattle.fz_machine.specs.Regions.{is_marked, is_unmarked}
use Rattle.fz_machine.proofs.Renoted.{AreLooked, IsNumberOf, items_of}
use Rattle.fz_machine.proofs.listing.list_links.Given as goal

abbrev pub invariant-loop-word : goal.invariant-loop-word
invariant-loop-word l = record {
  listed : l.items.items ≡ items_of (λ e. not (is_marked l.initial.table.told (link_number l.words e))) (λ e. of_link (is_unmarked l.initial.table.told (link_number l.words e)) e) l.yielded;
  few : length l.items.items + length l.word-iterator ≤ length l.initial.word-iterator;
  grown : vec_capacity l.initial.items ≤ vec_capacity l.items;
  rest : l.yielded ++ l.word-iterator ≡ l.initial.word-iterator;
  looked : AreLooked (IsNumberOf l.words) l.initial.table l.table l.yielded;
}
