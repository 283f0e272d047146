use Rattle.own_heap.specs.Records.{objects_of}
use Rattle.own_heap.proofs.Keeping.{take_sound}
use Rattle.own_heap.proofs.runtime.Runtime.take.Goals as goal

pub invariant_of-self : goal.invariant_of-self
invariant_of-self c =
    let old = c.args.self.now in
    record { sound = take_sound (objects_of old.heap.records.slots.items) old.finalizers.state c.take.new.self.state c.take.result c.take.ensures.takes old.sound }
