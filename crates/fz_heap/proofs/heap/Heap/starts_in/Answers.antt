use Rattle.std.proofs.Common.{◌+◌, ◌∙◌, sym}
use Rattle.fz_model.specs.Allocation.{block_start}
use Rattle.fz_heap.specs.Flat.{object_at}
use Rattle.fz_heap.proofs.Mapped.{has_key}
use Rattle.fz_heap.proofs.heap.Heap.starts_in.Goals as goal

pub returns : goal.returns
returns c =
    let h = c.self.inside in
    rw (← c.self.view_is) (λ place small. c.starts_in.ensures place small ∙ sym (has_key (object_at h.words.items h.births.items) h.map.extents (block_start c.args.block + place)))
