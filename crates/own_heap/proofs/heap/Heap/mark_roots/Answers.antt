use Rattle.std.proofs.Common.{arith, ◌+◌, take, sym, subst, ◌∙◌}
use Rattle.fz_pass.specs.Marks.{IsClosed, Marks}
use Rattle.own_heap.specs.declared.records.Records.{Records}
use Rattle.own_heap.specs.Records.{objects_of, IsLedByRoot, IsLedByWord}
use Rattle.own_heap.specs.Marking.{is_marked}
use Rattle.own_heap.proofs.Collected.{led_more, marks_on}
use Rattle.own_heap.proofs.heap.Heap.mark_roots.Goals as goal

pub mark_word-requires : goal.mark_word-requires
mark_word-requires c =
    let now = c.loop-index.self in
    record { closed = subst (λ (r : Records). IsClosed (objects_of r.slots.items) (is_marked now.marks)) (sym c.loop-index.invariant.records) c.loop-index.invariant.marked.closed }

pub loop-index-preserved : goal.loop-index-preserved
loop-index-preserved c =
    let now = c.loop-index.self in
    let objects = objects_of c.args.self.now.records.slots.items in
    let roots = c.args.self.now.roots.items in
    let led = subst (λ (r : Records). Marks (Unit {0}) (objects_of r.slots.items) (is_marked now.marks) (is_marked c.mark_word.new.self.marks) (IsLedByWord (objects_of r.slots.items) c.address.result)) c.loop-index.invariant.records c.mark_word.ensures.marked in
    let led_by_root = subst (λ w. Marks (Unit {0}) objects (is_marked now.marks) (is_marked c.mark_word.new.self.marks) (IsLedByWord objects w)) c.address.ensures led in
    record {
      records = c.mark_word.ensures.rest.0 ∙ c.loop-index.invariant.records;
      roots = c.mark_word.ensures.rest.1 ∙ c.loop-index.invariant.roots;
      marked = marks_on (IsLedByRoot objects (take (c.loop-index.index + 1) roots)) c.loop-index.invariant.marked led_by_root (led_more objects roots c.loop-index.index c.index-root.result.now (omega arith) (cc));
    }
