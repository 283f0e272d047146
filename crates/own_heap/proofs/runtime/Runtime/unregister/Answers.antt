use Rattle.own_heap.specs.Records.{objects_of}
use Rattle.own_heap.proofs.Keeping.{unregister_sound}
use Rattle.own_heap.proofs.runtime.Runtime.unregister.Goals as goal

pub invariant_of-self : goal.invariant_of-self
invariant_of-self c =
    let old = c.args.self.now in
    record { sound = unregister_sound (objects_of old.heap.records.slots.items) old.finalizers.state c.unregister.new.self.state c.address.result c.unregister.ensures.follows old.sound }
