use Rattle.std.proofs.Common.{◌∙◌, sym}
use Rattle.own_heap.specs.Records.{objects_of}
use Rattle.own_heap.specs.Marking.{is_marked}
use Rattle.own_heap.proofs.Slots.{pointed_stands}
use Rattle.own_heap.proofs.Valued.{marks_no_value, marks_old_value, marks_value}
use Rattle.own_heap.proofs.host.HeapValues.mark_value.Goals as goal

pub returns-in_default-clause-marked : goal.returns-in_default-clause-marked
returns-in_default-clause-marked c =
    let self = c.args.self.now in
    marks_no_value self.records.slots.items self.marks c.args.word c.requires.closed (sym c.in_default.ensures)

pub returns-then-contains-clause-marked : goal.returns-then-contains-clause-marked
returns-then-contains-clause-marked c =
    let self = c.args.self.now in
    marks_old_value self.records.slots.items self.marks c.args.word c.in-Some.object c.requires.closed (sym c.in-Some.ensures) (sym c.contains.ensures ∙ c.if-contains.true)

pub mark-requires-clause-object : goal.mark-requires-clause-object
mark-requires-clause-object c = pointed_stands c.args.self.now.records.slots.items _ c.in-Some.object (sym c.in-Some.ensures)

pub returns-clause-marked : goal.returns-clause-marked
returns-clause-marked c =
    let self = c.args.self.now in
    marks_value (objects_of self.records.slots.items) (is_marked self.marks) (is_marked c.mark.new.self.marks) c.args.word c.in-Some.object (sym c.in-Some.ensures) c.mark.ensures.marked
