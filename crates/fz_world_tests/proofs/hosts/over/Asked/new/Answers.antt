use Rattle.std.proofs.Common.{[], sym, subst}
use Rattle.fz_finalizers.specs.Promises.{Opened}
use Rattle.own_heap.specs.Records.{objects_of}
use Rattle.own_heap.specs.Sound.{IsSound}
use Rattle.own_heap.proofs.Keeping.{sound_opening}
use Rattle.fz_world_tests.proofs.Asking.{IsMade}
use Rattle.fz_world_tests.proofs.hosts.over.Asked.new.Goals as goal

pub invariant_of-result : goal.invariant_of-result
invariant_of-result c =
    let objects = objects_of c.in_ok-heap.heap.records.slots.items in
    let opened = c.in-Ok.ensures.finalizers in
    record {
      idle = c.in-Ok.ensures.phase;
      sound = subst (IsSound objects) (sym opened) (sound_opening objects);
      reached = subst IsMade (sym opened) ∣ (record { made = []; taken = []; finished = [] }, Opened) ∣₁;
    }
