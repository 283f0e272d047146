use Rattle.own_heap.specs.Records.{objects_of}
use Rattle.own_heap.specs.Marking.{left, IsTracing}
use Rattle.own_heap.proofs.records.Records.close.Given as goal

abbrev pub invariant-loop-object : goal.invariant-loop-object
invariant-loop-object l = IsTracing (objects_of l.self.slots.items) l.initial.marks l.marks

abbrev pub decreases-loop-object : goal.decreases-loop-object
decreases-loop-object l = left l.marks
