use Rattle.std.proofs.Common.{◌∙◌, arith}
use Rattle.fz_model.specs.Extents.{IsInHeap}
use Rattle.fz_model.proofs.MapEntries.{all_keys}
use Rattle.fz_heap.specs.Flat.{object_at}
use Rattle.fz_heap.proofs.Mapped.{has_key, keys-mapped}
use Rattle.fz_heap.proofs.heap.Heap.condemned.Goals as goal

pub returns-clause-gone : goal.returns-clause-gone
returns-clause-gone c = let h = c.self.inside in rw (← c.self.view_is) (λ a on. has_key (object_at h.words.items h.births.items) h.map.extents a ∙ c.condemned.ensures.gone a on)

pub returns-clause-objects : goal.returns-clause-objects
returns-clause-objects c =
    let h = c.self.inside in
    rw (← c.self.view_is, keys-mapped (object_at h.words.items h.births.items) h.map.extents)
    (all_keys h.map.extents (IsInHeap h.map.blocks) (λ a x here. let within = c.self.invariant.within a x here in (within.0, omega (arith, within))))
