use Rattle.own_heap.specs.Records.{objects_of}
use Rattle.own_heap.proofs.Keeping.{end_ephemeron_sound}
use Rattle.own_heap.proofs.runtime.Runtime.end_ephemeron.Goals as goal

pub invariant_of-self : goal.invariant_of-self
invariant_of-self c =
    let old = c.args.self.now in
    record { sound = end_ephemeron_sound (objects_of old.heap.records.slots.items) old.finalizers.state c.end_ephemeron.new.self.state c.args.word c.end_ephemeron.ensures.follows old.sound }
