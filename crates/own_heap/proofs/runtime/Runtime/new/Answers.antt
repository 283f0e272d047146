use Rattle.std.proofs.Common.{sym, subst}
use Rattle.own_heap.specs.Records.{objects_of}
use Rattle.own_heap.specs.Sound.{IsSound}
use Rattle.own_heap.proofs.Keeping.{sound_opening}
use Rattle.own_heap.proofs.runtime.Runtime.new.Goals as goal

pub invariant_of-result : goal.invariant_of-result
invariant_of-result c =
    let objects = objects_of c.in_ok-heap.heap.records.slots.items in
    record { sound = subst (IsSound objects) (sym c.in-Ok.ensures.opened) (sound_opening objects) }
