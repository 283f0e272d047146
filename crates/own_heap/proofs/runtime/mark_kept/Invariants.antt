use Rattle.std.proofs.Common.{◌≡◌, ◌++◌}
use Rattle.fz_pass.specs.Marks.{Marks}
use Rattle.fz_finalizers.specs.Walks.{somes}
use Rattle.own_heap.specs.Records.{objects_of}
use Rattle.own_heap.specs.Marking.{is_marked}
use Rattle.own_heap.specs.Collected.{IsLedByAny}
use Rattle.own_heap.proofs.runtime.mark_kept.Given as goal

-- what the words so far lead to is marked
abbrev pub invariant-loop-word : goal.invariant-loop-word
invariant-loop-word l = record {
  records : l.heap.records ≡ l.initial.heap.records;
  roots : l.heap.roots ≡ l.initial.heap.roots;
  marked : Marks (Unit {0}) (objects_of l.initial.heap.records.slots.items) (is_marked l.initial.heap.marks) (is_marked l.heap.marks) (IsLedByAny (objects_of l.initial.heap.records.slots.items) l.yielded);
  rest : l.yielded ++ somes l.word-iterator ≡ somes l.initial.word-iterator;
}
