use Rattle.std.proofs.Common.{◌<◌, ◌-◌, ◌∙◌, sym, arith, length, Some}
use Rattle.std.proofs.lemmas.List.{get_or_default}
use Rattle.fz_model.proofs.Maps.{get-mapped}
use Rattle.fz_heap.specs.Flat.{object_at}
use Rattle.fz_heap.proofs.Flat.{extents_flat, length-words_from}
use Rattle.fz_heap.proofs.Extents.{points_itself}
use Rattle.fz_heap.proofs.heap.Heap.facts.Goals as goal

pub returns-in_err-extent-clause-facts : goal.returns-in_err-extent-clause-facts
returns-in_err-extent-clause-facts c =
    let h = c.self.inside in
    rw (← c.self.view_is, get-mapped (object_at h.words.items h.births.items) h.map.extents c.args.start, ← c.in_err-extent.ensures) c.from_residual.ensures

pub returns-clause-facts : goal.returns-clause-facts
returns-clause-facts c =
    let h = c.self.inside in
    let start = c.args.start in
    let within = c.self.invariant.within start c.in_ok-extent.extent (sym c.in_ok-extent.ensures) in
    let inside : start - 65536 < length h.births.items = omega (arith, within, c.self.invariant.births_len) in
    let birth = c.index-birth.ensures ∙ get_or_default h.births.items (start - 65536) c.index-birth.result.now 0 inside in
    rw (← c.self.view_is, get-mapped (object_at h.words.items h.births.items) h.map.extents start, ← c.in_ok-extent.ensures)
    (λ i. Some (sym (length-words_from h.words.items (start - 65536) c.in_ok-extent.extent.size) i, c.in_ok-extent.extent.kind, birth i))

pub returns-clause-itself : goal.returns-clause-itself
returns-clause-itself c =
    let h = c.self.inside in
    rw (← c.self.view_is, extents_flat) (λ _. points_itself _ h.map.extents c.self.invariant.apart c.self.invariant.within c.args.start c.in_ok-extent.extent (sym c.in_ok-extent.ensures))

pub returns-in_err-extent-clause-apart : goal.returns-in_err-extent-clause-apart
returns-in_err-extent-clause-apart c = rw (← c.self.view_is, extents_flat) c.self.invariant.apart

pub returns-clause-apart : goal.returns-clause-apart
returns-clause-apart c = rw (← c.self.view_is, extents_flat) c.self.invariant.apart
