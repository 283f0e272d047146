use Rattle.own_heap.specs.Records.{objects_of}
use Rattle.own_heap.proofs.Keeping.{add_sound}
use Rattle.own_heap.proofs.runtime.Runtime.add_cleanup.Goals as goal

pub invariant_of-self : goal.invariant_of-self
invariant_of-self c =
    let old = c.args.self.now in
    record { sound = add_sound (objects_of old.heap.records.slots.items) old.finalizers.state c.add_cleanup.new.self.state c.address.result c.args.cleanup c.add_cleanup.result c.add_cleanup.ensures.refused c.add_cleanup.ensures.follows old.sound }
