use Rattle.std.proofs.Common.{◌<◌, sym, ap, arith, length, rules}
use Rattle.fz_model.specs.State.{Map, Object}
use Rattle.fz_heap.proofs.Flat.{extents_flat, word_written}
use Rattle.fz_heap.proofs.heap.Heap.write.Goals as goal

pub returns-in_err-place-clause-judged : goal.returns-in_err-place-clause-judged
returns-in_err-place-clause-judged c = rw (← c.self.view_is, extents_flat) (search rules)

pub returns-clause-judged : goal.returns-clause-judged
returns-clause-judged c = rw (← c.self.view_is, extents_flat) c.in_ok-place.ensures.judged

pub returns-clause-written : goal.returns-clause-written
returns-clause-written c =
    let h = c.self.inside in
    let is = c.in_ok-place.ensures.found in
    let inside : c.in_ok-place.place < length h.words.items = omega (arith, c.in_ok-place.ensures.in_heap, c.self.invariant.words_len) in
    rw (← c.self.view_is)
    (ap (λ (m : Map Object). record { blocks = h.map.blocks; objects = m; condemned = h.map.condemned; next_birth = h.next_birth })
    (sym (word_written _ h.map.extents c.self.invariant.apart c.self.invariant.within h.words.items h.births.items _ c.in_ok-place.place c.args.value is.at inside)))
