use Rattle.std.proofs.Common.{rules}
use Rattle.fz_heap.proofs.Flat.{extents_flat}
use Rattle.fz_heap.proofs.heap.Heap.place.Goals as goal

pub returns-in_err-place-clause-judged : goal.returns-in_err-place-clause-judged
returns-in_err-place-clause-judged c = rw (← c.self.view_is, extents_flat) (search rules)

pub returns-clause-judged : goal.returns-clause-judged
returns-clause-judged c = rw (← c.self.view_is, extents_flat) c.in_ok-place.ensures.judged
