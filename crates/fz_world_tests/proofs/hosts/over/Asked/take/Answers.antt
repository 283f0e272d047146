use Rattle.std.proofs.Common.{◌∙◌, ap}
use Rattle.fz_machine.specs.Machines.{Machine}
use Rattle.own_heap.specs.Records.{objects_of}
use Rattle.fz_world_tests.proofs.Asking.{taken_made, taken_sound}
use Rattle.fz_world_tests.proofs.hosts.over.Asked.take.Goals as goal

pub invariant_of-self : goal.invariant_of-self
invariant_of-self c =
    let old = c.args.self.now in
    let new = c.take.new.self in
    record {
      idle = ap (λ (m : Machine). m.phase) c.take.ensures.keeps ∙ old.idle;
      sound = taken_sound (objects_of old.heap.records.slots.items) old.machine new c.take.result c.take.ensures.takes old.sound;
      reached = taken_made old.machine new c.take.result c.take.ensures.takes old.reached;
    }
