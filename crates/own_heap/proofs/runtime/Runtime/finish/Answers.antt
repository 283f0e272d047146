use Rattle.own_heap.specs.Records.{objects_of}
use Rattle.own_heap.proofs.Keeping.{finish_sound}
use Rattle.own_heap.proofs.runtime.Runtime.finish.Goals as goal

pub invariant_of-self : goal.invariant_of-self
invariant_of-self c =
    let old = c.args.self.now in
    record { sound = finish_sound (objects_of old.heap.records.slots.items) old.finalizers.state c.finish.new.self.state c.args.entry.now c.finish.result c.finish.ensures.refused c.finish.ensures.follows old.sound }
