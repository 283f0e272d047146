use Rattle.std.proofs.Common.{◌≡◌, refl, sym, subst}
use Rattle.fz_model.specs.Reachability.{Leads}
use Rattle.own_heap.specs.Records.{objects_of}
use Rattle.own_heap.specs.Marking.{IsAmong}
use Rattle.own_heap.proofs.Slots.{among}
use Rattle.own_heap.proofs.Traced.{tracing_begins, marks_as}
use Rattle.own_heap.proofs.host.HeapHost.mark.Goals as goal

pub add-requires : goal.add-requires
add-requires c = subst (λ n. IsAmong n c.args.object) (sym c.args.self.now.size) (among c.args.self.now.records.slots.items c.args.object c.requires.object)

pub close-requires-clause-traced : goal.close-requires-clause-traced
close-requires-clause-traced c =
    tracing_begins (objects_of c.args.self.now.records.slots.items) c.args.self.now.marks c.add.new.self (λ a. a ≡ c.args.object) c.requires.closed c.args.self.now.idle c.add.ensures

pub returns-clause-marked : goal.returns-clause-marked
returns-clause-marked c =
    let objects = objects_of c.args.self.now.records.slots.items in
    marks_as objects c.args.self.now.marks c.add.new.self (λ a. a ≡ c.args.object) c.requires.closed c.args.self.now.idle c.add.ensures c.close.new.marks c.close.ensures.traced c.close.ensures.idle (Leads objects c.args.object)
    (λ a. (λ (from, is, leads). subst (λ o. Leads objects o a) is leads, λ leads. (c.args.object, refl, leads)))
