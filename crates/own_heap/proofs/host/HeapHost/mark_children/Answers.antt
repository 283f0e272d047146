use Rattle.fz_pass.specs.Marks.{IsLeadingBut}
use Rattle.own_heap.specs.Records.{objects_of}
use Rattle.own_heap.specs.Marking.{IsChildBut}
use Rattle.own_heap.proofs.Traced.{tracing_begins, marks_as}
use Rattle.own_heap.proofs.host.HeapHost.mark_children.Goals as goal

pub close-requires-clause-traced : goal.close-requires-clause-traced
close-requires-clause-traced c =
    let objects = objects_of c.args.self.now.records.slots.items in
    tracing_begins objects c.args.self.now.marks c.add_children.new.marks (IsChildBut objects c.args.but_itself c.args.object) c.requires.closed c.args.self.now.idle c.add_children.ensures

pub returns-clause-marked : goal.returns-clause-marked
returns-clause-marked c =
    let objects = objects_of c.args.self.now.records.slots.items in
    marks_as objects c.args.self.now.marks c.add_children.new.marks (IsChildBut objects c.args.but_itself c.args.object) c.requires.closed c.args.self.now.idle c.add_children.ensures c.close.new.marks c.close.ensures.traced c.close.ensures.idle (IsLeadingBut objects c.args.but_itself c.args.object)
    (λ a. (λ (first, (child, other), leads). (first, child, other, leads), λ (first, child, other, leads). (first, (child, other), leads)))
