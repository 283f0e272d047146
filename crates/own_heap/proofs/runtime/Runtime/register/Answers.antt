use Rattle.std.proofs.Common.{sym, subst, IsTrue}
use Rattle.std.specs.FinMap.{contains_key}
use Rattle.own_heap.specs.Records.{objects_of}
use Rattle.own_heap.proofs.Keeping.{register_sound, stands_object}
use Rattle.own_heap.proofs.runtime.Runtime.register.Goals as goal

pub invariant_of-self : goal.invariant_of-self
invariant_of-self c =
    let old = c.args.self.now in
    let slots = old.heap.records.slots.items in
    let here = subst (λ a. IsTrue (contains_key (objects_of slots) a)) (sym c.address.ensures) (stands_object slots c.args.id.place c.requires) in
    record { sound = register_sound (objects_of slots) old.finalizers.state c.register.new.self.state c.address.result c.args.finalizer c.register.result c.register.ensures.refused c.register.ensures.follows here old.sound }
