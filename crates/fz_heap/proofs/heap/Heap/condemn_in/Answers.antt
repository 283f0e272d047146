use Rattle.std.proofs.Common.{◌≡◌, ◌∙◌, ℕ, false, not, ap, Some, arith}
use Rattle.std.proofs.lemmas.Bool.{and_parts, eqb-true, not-true}
use Rattle.std.specs.FinMap.{get, len, retain_keys}
use Rattle.fz_model.specs.State.{Map}
use Rattle.fz_model.specs.declared.extent.Extent.{Extent}
use Rattle.fz_model.specs.Condemned.{stands_at}
use Rattle.fz_heap.specs.Flat.{object_at, objects_of}
use Rattle.fz_heap.proofs.Mapped.{has_key, mapped-retain, len-mapped}
use Rattle.fz_heap.proofs.Flat.{retained_heap}
use Rattle.fz_heap.proofs.Totals.{total_condemned, few_words}
use Rattle.fz_heap.proofs.heap.Heap.condemn_in.Goals as goal

pub overflow_mul-self : goal.overflow_mul-self
overflow_mul-self c =
    let h = c.self.inside in
    let i = c.self.invariant in
    let d = c.condemn_in-count in
    let sum = total_condemned h.map.extents d.new.self.extents c.args.block c.args.places c.size_in-size.result d.result d.ensures.extents d.ensures.fewer c.size_in-size.ensures in
    omega (arith, sum, few_words h.map.blocks h.map.extents i.apart i.within, i.few)

pub overflow_sub-self-2 : goal.overflow_sub-self-2
overflow_sub-self-2 c =
    let h = c.self.inside in
    let d = c.condemn_in-count in
    let sum = total_condemned h.map.extents d.new.self.extents c.args.block c.args.places c.size_in-size.result d.result d.ensures.extents d.ensures.fewer c.size_in-size.ensures in
    omega (arith, sum, c.self.invariant.used_are)

pub invariant_of-self : goal.invariant_of-self
invariant_of-self c =
    let h = c.self.inside in
    let i = c.self.invariant in
    let d = c.condemn_in-count in
    let sum = total_condemned h.map.extents d.new.self.extents c.args.block c.args.places c.size_in-size.result d.result d.ensures.extents d.ensures.fewer c.size_in-size.ensures in
    record {
      heap = retained_heap h.map d.new.self (λ a. not (stands_at c.args.block c.args.places a)) h.words.items h.births.items d.ensures.blocks d.ensures.extents i.heap;
      live_are = omega (arith, d.ensures.fewer, i.live_are);
      used_are = omega (arith, sum, i.used_are);
    }

pub returns-clause-objects : goal.returns-clause-objects
returns-clause-objects c =
    let h = c.self.inside in
    rw (← c.self.view_is)
    (ap (λ (m : Map Extent). objects_of m h.words.items h.births.items) c.condemn_in-count.ensures.extents
    ∙ mapped-retain (object_at h.words.items h.births.items) h.map.extents (λ a. not (stands_at c.args.block c.args.places a)))

pub returns-clause-condemned : goal.returns-clause-condemned
returns-clause-condemned c = λ a.
    let h = c.self.inside in
    rw (← c.self.view_is, has_key (object_at h.words.items h.births.items) h.map.extents a) (c.condemn_in-count.ensures.condemned a)

pub returns-clause-fewer : goal.returns-clause-fewer
returns-clause-fewer c =
    let h = c.self.inside in
    rw (← c.self.view_is, len-mapped (object_at h.words.items h.births.items) h.map.extents, len-mapped (object_at h.words.items h.births.items) c.condemn_in-count.new.self.extents) c.condemn_in-count.ensures.fewer
