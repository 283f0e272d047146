use Rattle.std.proofs.Common.{◌≡◌, false, take}
use Rattle.fz_pass.specs.Marks.{Marks}
use Rattle.own_heap.specs.Records.{objects_of, IsLedByRoot}
use Rattle.own_heap.specs.Marking.{is_marked}
use Rattle.own_heap.proofs.heap.Heap.mark_roots.Given as goal

-- what the roots so far lead to is marked
abbrev pub invariant-loop-index : goal.invariant-loop-index
invariant-loop-index l = record {
  records : l.self.records ≡ l.initial.self.records;
  roots : l.self.roots ≡ l.initial.self.roots;
  marked : Marks (Unit {0}) (objects_of l.initial.self.records.slots.items) (λ a. false) (is_marked l.self.marks) (IsLedByRoot (objects_of l.initial.self.records.slots.items) (take l.index l.initial.self.roots.items));
}
