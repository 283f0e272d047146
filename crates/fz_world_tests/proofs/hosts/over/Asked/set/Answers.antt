use Rattle.std.proofs.Common.{sym, subst}
use Rattle.own_heap.specs.Records.{objects_of, with_field}
use Rattle.own_heap.specs.Sound.{IsSound}
use Rattle.own_heap.proofs.Keeping.{sound_kept, set_keeps}
use Rattle.fz_world_tests.proofs.hosts.over.Asked.set.Goals as goal

pub invariant_of-self : goal.invariant_of-self
invariant_of-self c =
    let old = c.args.self.now in
    let slots = old.heap.records.slots.items in
    record {
      idle = old.idle;
      sound = subst (λ new. IsSound (objects_of new) old.machine.finalizers.state) (sym c.set.ensures.set) (sound_kept (objects_of slots) _ old.machine.finalizers.state (set_keeps slots c.args.id.place (with_field c.args.field c.args.value)) old.sound);
      reached = old.reached;
    }
