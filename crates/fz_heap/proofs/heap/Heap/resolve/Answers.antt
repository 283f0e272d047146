use Rattle.std.proofs.Common.{◌∙◌, sym, ap, arith, is_some}
use Rattle.fz_heap.specs.Flat.{object_at}
use Rattle.fz_heap.proofs.Mapped.{has_key}
use Rattle.fz_heap.proofs.Flat.{extents_flat}
use Rattle.fz_heap.proofs.Extents.{points_start}
use Rattle.fz_heap.proofs.heap.Heap.resolve.Goals as goal

pub returns-in_err-start-clause-points : goal.returns-in_err-start-clause-points
returns-in_err-start-clause-points c = rw (← c.self.view_is, extents_flat) (c.from_residual.ensures ∙ sym c.in_err-start.ensures)

pub returns-clause-points : goal.returns-clause-points
returns-clause-points c = rw (← c.self.view_is, extents_flat) (sym c.in_ok-start.ensures.0)

pub returns-clause-within : goal.returns-clause-within
returns-clause-within c =
    let h = c.self.inside in
    let here = c.in_ok-start.ensures.1 in
    let within = c.self.invariant.within _ _ here in
    rw (← c.self.view_is) ((within.0, omega (arith, within)), has_key (object_at h.words.items h.births.items) h.map.extents c.in_ok-start.start ∙ ap is_some here)

pub returns-in_err-start-clause-apart : goal.returns-in_err-start-clause-apart
returns-in_err-start-clause-apart c = rw (← c.self.view_is, extents_flat) c.self.invariant.apart

pub returns-clause-apart : goal.returns-clause-apart
returns-clause-apart c = rw (← c.self.view_is, extents_flat) c.self.invariant.apart

pub returns-in_err-start-clause-itself : goal.returns-in_err-start-clause-itself
returns-in_err-start-clause-itself c =
    let h = c.self.inside in
    rw (← c.self.view_is, extents_flat)
    (λ here. points_start h.map.blocks h.map.extents c.self.invariant.apart c.self.invariant.within c.args.word (sym (has_key (object_at h.words.items h.births.items) h.map.extents c.args.word) ∙ here))

pub returns-clause-itself : goal.returns-clause-itself
returns-clause-itself c =
    let h = c.self.inside in
    rw (← c.self.view_is, extents_flat)
    (λ here. points_start h.map.blocks h.map.extents c.self.invariant.apart c.self.invariant.within c.args.word (sym (has_key (object_at h.words.items h.births.items) h.map.extents c.args.word) ∙ here))
