use Rattle.own_heap.specs.Records.{objects_of}
use Rattle.own_heap.proofs.Keeping.{move_sound}
use Rattle.own_heap.proofs.runtime.Runtime.move_link.Goals as goal

pub invariant_of-self : goal.invariant_of-self
invariant_of-self c =
    let old = c.args.self.now in
    record { sound = move_sound (objects_of old.heap.records.slots.items) old.finalizers.state c.move_link.new.self.state c.args.kind c.args.word c.args.to c.move_link.result c.move_link.ensures.refused c.move_link.ensures.follows old.sound }
