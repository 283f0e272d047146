use Rattle.std.proofs.Common.{◌+◌, ◌-◌, ◌≤◌, refl, sym, arith, length}
use Rattle.fz_model.specs.declared.limits.TheConstants.{HEAP_START}
use Rattle.fz_heap.proofs.Flat.{words_taken, pointers_here, pointers_nowhere}
use Rattle.fz_heap.proofs.heap.Heap.pointers.Goals as goal

pub returns-in-Scanned : goal.returns-in-Scanned
returns-in-Scanned c =
    let h = c.self.inside in
    let start = c.args.start in
    let x = c.in-Some.extent in
    let inside = c.self.invariant.within start x (sym c.in-Some.ensures) in
    let whole : start - HEAP_START + x.size ≤ length h.words.items = omega (arith, inside, c.self.invariant.words_len) in
    rw (← c.self.view_is, pointers_here h.map.extents h.words.items h.births.items start x c.in-Some.ensures, c.in-Scanned.is, c.deref.ensures.value)
    (words_taken h.words.items (start - HEAP_START) x.size whole)

pub returns-in-Atomic : goal.returns-in-Atomic
returns-in-Atomic c =
    let h = c.self.inside in
    rw (← c.self.view_is, pointers_here h.map.extents h.words.items h.births.items c.args.start c.in-Some.extent c.in-Some.ensures, c.in-Atomic.is) refl

pub returns-in-None : goal.returns-in-None
returns-in-None c =
    let h = c.self.inside in
    rw (← c.self.view_is) (sym (pointers_nowhere h.map.extents h.words.items h.births.items c.args.start c.in-None.ensures))
