use Rattle.std.proofs.Common.{◌≡◌, ℕ, ◌<◌, cond, false, get_or, None, subst, arith}
use Rattle.own_heap.specs.declared.marks.Marks.{Marks}
use Rattle.own_heap.proofs.Collected.{swept, swept_places}
use Rattle.own_heap.proofs.heap.Heap.sweep.Goals as goal

pub returns-clause-objects : goal.returns-clause-objects
returns-clause-objects c =
    let old = c.args.self.now in
    let now = c.loop-place.self in
    swept old.records.slots.items now.records.slots.items old.marks.marked.items c.loop-place.place c.loop-place.invariant.size (omega arith)
    (subst (λ (m : Marks). (k : ℕ) → k < c.loop-place.place → get_or now.records.slots.items k None ≡ cond (get_or m.marked.items k false) (get_or old.records.slots.items k None) None) c.loop-place.invariant.marks c.loop-place.invariant.swept)

pub returns-clause-records : goal.returns-clause-records
returns-clause-records c =
    let old = c.args.self.now in
    let now = c.loop-place.self in
    swept_places old.records.slots.items now.records.slots.items old.marks.marked.items c.loop-place.place c.loop-place.invariant.size (omega arith)
    (subst (λ (m : Marks). (k : ℕ) → k < c.loop-place.place → get_or now.records.slots.items k None ≡ cond (get_or m.marked.items k false) (get_or old.records.slots.items k None) None) c.loop-place.invariant.marks c.loop-place.invariant.swept)
