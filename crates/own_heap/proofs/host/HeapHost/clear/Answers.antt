use Rattle.own_heap.proofs.Filling.{full_kept}
use Rattle.own_heap.proofs.host.HeapHost.clear.Goals as goal

pub invariant_of-self-clause-full : goal.invariant_of-self-clause-full
invariant_of-self-clause-full c =
    let old = c.args.self.now in
    full_kept old.records.slots.items c.clear.new.self.slots.items old.cursor c.clear.ensures.fields old.full
