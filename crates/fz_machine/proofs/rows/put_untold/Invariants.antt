-- The untold of the rows so far are on the list.
use Rattle.std.proofs.Common.{◌≡◌, ◌≤◌, ◌++◌, take, vec_capacity}
use Rattle.fz_machine.specs.Off.{untold}
use Rattle.fz_machine.proofs.rows.put_untold.Given as goal

abbrev pub invariant-loop-row : goal.invariant-loop-row
invariant-loop-row l = record {
  listed : l.items.items ≡ l.initial.items.items ++ untold (take l.row-index l.index);
  grown : vec_capacity l.initial.items ≤ vec_capacity l.items;
}
