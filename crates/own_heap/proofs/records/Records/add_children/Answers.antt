use Rattle.std.proofs.Common.{◌≡◌, ◌+◌, arith}
use Rattle.own_heap.specs.Records.{objects_of}
use Rattle.own_heap.specs.Marking.{IsChildBut}
use Rattle.own_heap.proofs.Gaining.{gains_as, gains_on}
use Rattle.own_heap.proofs.Fields.{AreFieldsBut, more_fields, all_fields}
use Rattle.own_heap.proofs.records.Records.add_children.Goals as goal

pub loop-field-preserved : goal.loop-field-preserved
loop-field-preserved c =
    let objects = objects_of c.args.self.now.slots.items in
    let i = c.loop-field.field-index in
    let fields = c.in-Some.read.now.fields in
    gains_on (AreFieldsBut objects c.args.but_itself c.args.object fields (i + 1)) c.loop-field.invariant c.add_target.ensures (λ a. more_fields objects c.args.but_itself c.args.object fields i a)

pub returns : goal.returns
returns c =
    let objects = objects_of c.args.self.now.slots.items in
    let all : c.loop-field.field-index ≡ 4 = omega arith in
    gains_as (IsChildBut objects c.args.but_itself c.args.object) c.loop-field.invariant (λ a. all_fields objects c.args.but_itself c.args.object c.in-Some.read.now c.loop-field.field-index a all c.in-Some.ensures)
