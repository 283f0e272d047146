use Rattle.std.proofs.Common.{◌-◌, ◌∙◌, sym, length, arith}
use Rattle.fz_model.specs.State.{Object}
use Rattle.fz_model.specs.declared.extent.Extent.{Extent}
use Rattle.fz_heap.specs.Flat.{object_at}
use Rattle.fz_heap.proofs.Flat.{length-words_from}
use Rattle.fz_heap.proofs.Totals.{total_mapped, few_words}
use Rattle.fz_heap.proofs.heap.Heap.used.Goals as goal

pub returns-clause-used : goal.returns-clause-used
returns-clause-used c =
    let h = c.self.inside in
    rw (← c.self.view_is)
    (c.self.invariant.used_are
    ∙ sym (total_mapped (λ (x : Extent). x.size) (λ (o : Object). length o.words) (object_at h.words.items h.births.items) (λ k x. length-words_from h.words.items (k - 65536) x.size) h.map.extents))

pub returns-clause-within : goal.returns-clause-within
returns-clause-within c =
    let h = c.self.inside in
    let few = few_words h.map.blocks h.map.extents c.self.invariant.apart c.self.invariant.within in
    rw (← c.self.view_is) (omega (arith, few, c.self.invariant.used_are))
