use Rattle.fz_finalizers.specs.Follows.{AddCleanup}
use Rattle.own_heap.specs.Records.{objects_of}
use Rattle.own_heap.proofs.Keeping.{add_sound}
use Rattle.fz_world_tests.proofs.Asking.{called}
use Rattle.fz_world_tests.proofs.hosts.over.Asked.add_cleanup.Goals as goal

pub invariant_of-self : goal.invariant_of-self
invariant_of-self c =
    let old = c.args.self.now in
    let new = c.add_cleanup.new.self in
    let is = called old.machine new (AddCleanup c.address.result c.args.cleanup) c.add_cleanup.result c.add_cleanup.ensures.refused c.add_cleanup.ensures.follows old.idle old.reached in
    record {
      idle = is.idle;
      sound = add_sound (objects_of old.heap.records.slots.items) old.machine.finalizers.state new.finalizers.state c.address.result c.args.cleanup c.add_cleanup.result is.refused is.follows old.sound;
      reached = is.made;
    }
