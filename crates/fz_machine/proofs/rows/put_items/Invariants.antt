-- The ephemerons so far are on the list.
use Rattle.std.proofs.Common.{◌≡◌, ◌≤◌, ◌++◌, take, vec_capacity}
use Rattle.fz_machine.proofs.rows.put_items.Given as goal

abbrev pub invariant-loop-item : goal.invariant-loop-item
invariant-loop-item l = record {
  listed : l.items.items ≡ l.initial.items.items ++ take l.item-index l.from;
  grown : vec_capacity l.initial.items ≤ vec_capacity l.items;
}
