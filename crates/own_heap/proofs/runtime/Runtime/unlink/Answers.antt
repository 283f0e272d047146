use Rattle.own_heap.specs.Records.{objects_of}
use Rattle.own_heap.proofs.Keeping.{unlink_sound}
use Rattle.own_heap.proofs.runtime.Runtime.unlink.Goals as goal

pub invariant_of-self : goal.invariant_of-self
invariant_of-self c =
    let old = c.args.self.now in
    record { sound = unlink_sound (objects_of old.heap.records.slots.items) old.finalizers.state c.unlink.new.self.state c.args.kind c.args.word c.unlink.ensures.follows old.sound }
