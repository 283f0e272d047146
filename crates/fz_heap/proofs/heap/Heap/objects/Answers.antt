use Rattle.std.proofs.Common.{◌≡◌, arith, rules, Some}
use Rattle.fz_model.specs.Extents.{IsInHeap, points_in}
use Rattle.fz_model.proofs.MapEntries.{all_keys}
use Rattle.fz_heap.specs.Flat.{object_at}
use Rattle.fz_heap.proofs.Mapped.{keys-mapped}
use Rattle.fz_heap.proofs.Flat.{extents_flat}
use Rattle.fz_heap.proofs.Extents.{points_itself}
use Rattle.fz_heap.proofs.heap.Heap.objects.Goals as goal

pub returns-clause-starts : goal.returns-clause-starts
returns-clause-starts c =
    let h = c.self.inside in
    rw (← c.self.view_is, keys-mapped (object_at h.words.items h.births.items) h.map.extents) (search rules)

pub returns-clause-within : goal.returns-clause-within
returns-clause-within c =
    let h = c.self.inside in
    rw (← c.self.view_is, keys-mapped (object_at h.words.items h.births.items) h.map.extents)
    (all_keys h.map.extents (IsInHeap h.map.blocks) (λ a x here. let within = c.self.invariant.within a x here in (within.0, omega (arith, within))))

pub returns-clause-themselves : goal.returns-clause-themselves
returns-clause-themselves c =
    let h = c.self.inside in
    rw (← c.self.view_is, keys-mapped (object_at h.words.items h.births.items) h.map.extents, extents_flat h.map.extents h.words.items h.births.items)
    (all_keys h.map.extents (λ a. points_in h.map.extents a ≡ Some a) (points_itself h.map.blocks h.map.extents c.self.invariant.apart c.self.invariant.within))
