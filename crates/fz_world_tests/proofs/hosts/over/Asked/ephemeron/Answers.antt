use Rattle.std.proofs.Common.{sym, subst, IsTrue}
use Rattle.std.specs.FinMap.{contains_key}
use Rattle.fz_finalizers.specs.Follows.{Ephemeron}
use Rattle.own_heap.specs.Records.{objects_of}
use Rattle.own_heap.proofs.Keeping.{ephemeron_sound, stands_object}
use Rattle.fz_world_tests.proofs.Asking.{called}
use Rattle.fz_world_tests.proofs.hosts.over.Asked.ephemeron.Goals as goal

pub invariant_of-self : goal.invariant_of-self
invariant_of-self c =
    let old = c.args.self.now in
    let slots = old.heap.records.slots.items in
    let here = subst (λ a. IsTrue (contains_key (objects_of slots) a)) (sym c.address.ensures) (stands_object slots c.args.key.place c.requires) in
    let new = c.ephemeron.new.self in
    let is = called old.machine new (Ephemeron c.args.kind c.args.word c.address.result) c.ephemeron.result c.ephemeron.ensures.refused c.ephemeron.ensures.follows old.idle old.reached in
    record { idle = is.idle; sound = ephemeron_sound (objects_of slots) old.machine.finalizers.state new.finalizers.state c.args.kind c.args.word c.address.result c.ephemeron.result is.refused is.follows here old.sound; reached = is.made }
