use Rattle.own_heap.specs.Records.{objects_of}
use Rattle.own_heap.proofs.Keeping.{cancel_sound}
use Rattle.own_heap.proofs.runtime.Runtime.cancel.Goals as goal

pub invariant_of-self : goal.invariant_of-self
invariant_of-self c =
    let old = c.args.self.now in
    record { sound = cancel_sound (objects_of old.heap.records.slots.items) old.finalizers.state c.cancel.new.self.state c.args.number c.cancel.ensures.follows old.sound }
