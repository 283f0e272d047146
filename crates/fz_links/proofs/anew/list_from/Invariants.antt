use Rattle.std.proofs.Common.{◌≡◌, ◌≤◌, ◌++◌, drop, vec_capacity}
use Rattle.fz_links.proofs.anew.list_from.Given as goal

abbrev pub invariant-loop-entry : goal.invariant-loop-entry
invariant-loop-entry l = record {
  all : l.yielded ++ l.entry-iterator ≡ drop l.place l.links.entries;
  listed : l.list.items ≡ l.yielded;
  capacity : vec_capacity l.fn.list ≤ vec_capacity l.list;
}
