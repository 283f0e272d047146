-- The rows of the items so far are in the index.
use Rattle.std.proofs.Common.{◌≡◌, ◌≤◌, map, take, vec_capacity}
use Rattle.fz_machine.specs.Off.{fresh}
use Rattle.fz_machine.proofs.rows.put_rows.Given as goal

abbrev pub invariant-loop-item : goal.invariant-loop-item
invariant-loop-item l = record {
  listed : l.index.items ≡ map fresh (take l.item-index l.items);
  grown : vec_capacity l.initial.index ≤ vec_capacity l.index;
}
