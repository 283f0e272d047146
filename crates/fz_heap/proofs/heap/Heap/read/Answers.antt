use Rattle.std.proofs.Common.{◌<◌, ◌∙◌, sym, arith, length, rules}
use Rattle.std.proofs.lemmas.List.{get_or_default}
use Rattle.fz_heap.proofs.Flat.{extents_flat, word_read}
use Rattle.fz_heap.proofs.heap.Heap.read.Goals as goal

pub returns-in_err-place-clause-judged : goal.returns-in_err-place-clause-judged
returns-in_err-place-clause-judged c = rw (← c.self.view_is, extents_flat) (search rules)

pub returns-clause-judged : goal.returns-clause-judged
returns-clause-judged c = rw (← c.self.view_is, extents_flat) c.in_ok-place.ensures.judged

pub returns-clause-read : goal.returns-clause-read
returns-clause-read c =
    let h = c.self.inside in
    let is = c.in_ok-place.ensures.found in
    let inside : c.in_ok-place.place < length h.words.items = omega (arith, c.in_ok-place.ensures.in_heap, c.self.invariant.words_len) in
    rw (← c.self.view_is) (c.index.ensures ∙ get_or_default h.words.items c.in_ok-place.place c.index.result.now 0 inside ∙ sym (word_read _ _ c.self.invariant.apart c.self.invariant.within h.words.items h.births.items _ _ _ is))
