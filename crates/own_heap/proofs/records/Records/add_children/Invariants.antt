use Rattle.own_heap.specs.Records.{objects_of}
use Rattle.own_heap.specs.Marking.{Gains}
use Rattle.own_heap.proofs.Fields.{AreFieldsBut}
use Rattle.own_heap.proofs.records.Records.add_children.Given as goal

-- the records to which the fields so far refer were marked
abbrev pub invariant-loop-field : goal.invariant-loop-field
invariant-loop-field l = Gains l.initial.marks l.marks (AreFieldsBut (objects_of l.self.slots.items) l.but_itself l.object l.field-items l.field-index)
