use Rattle.std.proofs.Common.{◌∙◌, sym}
use Rattle.fz_heap.specs.Flat.{object_at}
use Rattle.fz_heap.proofs.Mapped.{len-mapped}
use Rattle.fz_heap.proofs.heap.Heap.live.Goals as goal

pub returns : goal.returns
returns c =
    let h = c.self.inside in
    rw (← c.self.view_is) (c.self.invariant.live_are ∙ sym (len-mapped (object_at h.words.items h.births.items) h.map.extents))
