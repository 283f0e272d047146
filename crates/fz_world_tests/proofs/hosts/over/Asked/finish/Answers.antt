use Rattle.fz_finalizers.specs.Follows.{Finish}
use Rattle.own_heap.specs.Records.{objects_of}
use Rattle.own_heap.proofs.Keeping.{finish_sound}
use Rattle.fz_world_tests.proofs.Asking.{finished}
use Rattle.fz_world_tests.proofs.hosts.over.Asked.finish.Goals as goal

pub invariant_of-self : goal.invariant_of-self
invariant_of-self c =
    let old = c.args.self.now in
    let new = c.finish.new.self in
    let is = finished old.machine new (Finish c.args.entry.now) c.finish.result c.finish.ensures.refused c.finish.ensures.follows c.finish.ensures.keeps old.idle old.reached in
    record { idle = is.idle; sound = finish_sound (objects_of old.heap.records.slots.items) old.machine.finalizers.state new.finalizers.state c.args.entry.now c.finish.result is.refused is.follows old.sound; reached = is.made }
