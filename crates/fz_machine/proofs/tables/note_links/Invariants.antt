-- The links so far are noted, unless memory lacked.
use Rattle.std.proofs.Common.{◌≡◌, ◌≤◌, ◌+◌, ◌++◌, length, IsTrue}
use Rattle.fz_machine.specs.Regions.{IsUntold}
use Rattle.fz_machine.proofs.Renewed.{EachNoted, IsLinkOf}
use Rattle.fz_machine.proofs.tables.note_links.Given as goal

abbrev pub invariant-loop-word : goal.invariant-loop-word
invariant-loop-word l = record {
  untold : IsUntold l.table;
  rest : l.yielded ++ l.word-iterator ≡ l.initial.word-iterator;
  few : length l.table.order + length l.word-iterator ≤ length l.initial.word-iterator;
  noted : IsTrue l.table.complete → EachNoted (IsLinkOf l.fn.words) l.table.order l.yielded;
}
