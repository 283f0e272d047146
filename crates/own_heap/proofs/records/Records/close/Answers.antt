use Rattle.std.proofs.Common.{refl, sym, ◌∙◌}
use Rattle.std.proofs.lemmas.List.{append-nil}
use Rattle.own_heap.specs.Records.{objects_of}
use Rattle.fz_model.specs.Reachability.{Child}
use Rattle.own_heap.proofs.Gaining.{gains_as}
use Rattle.own_heap.proofs.Fields.{any_child}
use Rattle.own_heap.proofs.Traced.{tracing_goes_on, tracing_still}
use Rattle.own_heap.proofs.records.Records.close.Goals as goal

pub loop-object-preserved : goal.loop-object-preserved
loop-object-preserved c =
    let objects = objects_of c.args.self.now.slots.items in
    tracing_goes_on objects c.args.marks.now c.loop-object.marks _ c.add_children.new.marks c.in-Some.object c.loop-object.invariant refl c.in-Some.ensures.items
    (gains_as (Child objects c.in-Some.object) c.add_children.ensures (any_child objects c.in-Some.object))

pub returns-clause-traced : goal.returns-clause-traced
returns-clause-traced c =
    tracing_still (objects_of c.args.self.now.slots.items) c.args.marks.now c.loop-object.marks _ c.loop-object.invariant refl (sym (c.in_default.ensures.items ∙ append-nil c.pop.new.self.items))
