use Rattle.std.proofs.Common.{sym, subst, IsTrue}
use Rattle.std.specs.FinMap.{contains_key}
use Rattle.own_heap.specs.Records.{objects_of}
use Rattle.own_heap.proofs.Keeping.{link_sound, stands_object}
use Rattle.own_heap.proofs.runtime.Runtime.link.Goals as goal

pub invariant_of-self : goal.invariant_of-self
invariant_of-self c =
    let old = c.args.self.now in
    let slots = old.heap.records.slots.items in
    let here = subst (λ a. IsTrue (contains_key (objects_of slots) a)) (sym c.address.ensures) (stands_object slots c.args.target.place c.requires) in
    record { sound = link_sound (objects_of slots) old.finalizers.state c.link.new.self.state c.args.kind c.args.word c.address.result c.link.result c.link.ensures.refused c.link.ensures.follows here old.sound }
