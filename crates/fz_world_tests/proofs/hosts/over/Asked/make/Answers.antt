use Rattle.own_heap.specs.Records.{objects_of}
use Rattle.own_heap.proofs.Keeping.{sound_kept, make_keeps}
use Rattle.fz_world_tests.proofs.hosts.over.Asked.make.Goals as goal

pub invariant_of-self : goal.invariant_of-self
invariant_of-self c =
    let old = c.args.self.now in
    record {
      idle = old.idle;
      sound = sound_kept (objects_of old.heap.records.slots.items) (objects_of c.make.new.self.records.slots.items) old.machine.finalizers.state (make_keeps old.heap c.make.new.self _ c.make.result c.make.ensures.made) old.sound;
      reached = old.reached;
    }
