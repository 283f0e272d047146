use Rattle.std.proofs.Common.{◌∙◌, ℕ, length, ap, sym, subst, inl, IsTrue}
use Rattle.fz_model.specs.State.{Map, Object}
use Rattle.fz_pass.specs.Marks.{IsClosed}
use Rattle.std.specs.FinSet.{contains}
use Rattle.fz_pass.specs.Whole.{DecidesWhole}
use Rattle.fz_finalizers.specs.declared.roots.Root.TheVariants.{HeldObject, HeldData, RegisteredData}
use Rattle.fz_finalizers.specs.Follows.{next_pass}
use Rattle.fz_finalizers.specs.Passed.{PassesWhole, parts_in}
use Rattle.own_heap.specs.declared.records.Records.{Records}
use Rattle.own_heap.specs.Outside.{place_of_link}
use Rattle.own_heap.specs.Records.{objects_of, value_of, AreFieldsKept}
use Rattle.own_heap.specs.Marking.{is_marked}
use Rattle.own_heap.specs.Sound.{IsSound}
use Rattle.own_heap.specs.Collected.{MarksKept}
use Rattle.own_heap.proofs.Collected.{fields_left, marked_remain, zero_nowhere}
use Rattle.own_heap.proofs.Holding.{collected_sound}
use Rattle.own_heap.proofs.runtime.Runtime.collect.Goals as goal

pub mark_kept-requires : goal.mark_kept-requires
mark_kept-requires c =
    subst (λ (r : Records). IsClosed (objects_of r.slots.items) (is_marked c.mark_roots.new.self.marks)) (sym c.mark_roots.ensures.rest.0) c.mark_roots.ensures.marked.closed

pub mark_kept-requires-2 : goal.mark_kept-requires-2
mark_kept-requires-2 c =
    subst (λ (r : Records). IsClosed (objects_of r.slots.items) (is_marked c.mark_kept.new.heap.marks)) (sym c.mark_kept.ensures.rest.0) c.mark_kept.ensures.marked.marked.closed

pub mark_kept-requires-3 : goal.mark_kept-requires-3
mark_kept-requires-3 c =
    subst (λ (r : Records). IsClosed (objects_of r.slots.items) (is_marked c.mark_kept-2.new.heap.marks)) (sym c.mark_kept-2.ensures.rest.0) c.mark_kept-2.ensures.marked.marked.closed

pub pass_with_ephemerons-passed-requires-clause-zero : goal.pass_with_ephemerons-passed-requires-clause-zero
pass_with_ephemerons-passed-requires-clause-zero c = zero_nowhere c.mark_kept-3.new.heap.records.slots.items

pub pass_with_ephemerons-passed-requires-clause-closed : goal.pass_with_ephemerons-passed-requires-clause-closed
pass_with_ephemerons-passed-requires-clause-closed c =
    subst (λ (r : Records). IsClosed (objects_of r.slots.items) (is_marked c.mark_kept-3.new.heap.marks)) (sym c.mark_kept-3.ensures.rest.0) c.mark_kept-3.ensures.marked.marked.closed

pub invariant_of-self : goal.invariant_of-self
invariant_of-self c =
    let old = c.args.self.now in
    let slots = old.heap.records.slots.items in
    let state = old.finalizers.state in
    let first = c.mark_roots.ensures.rest.0 in
    let second = c.mark_kept.ensures.rest.0 ∙ first in
    let third = c.mark_kept-2.ensures.rest.0 ∙ second in
    let last = c.mark_kept-3.ensures.rest.0 ∙ third in
    let by_objects = subst (λ (r : Records). MarksKept (objects_of r.slots.items) HeldObject state (is_marked c.mark_roots.new.self.marks) (is_marked c.mark_kept.new.heap.marks)) first c.mark_kept.ensures.marked in
    let still = λ (a : ℕ) (h : IsTrue (is_marked c.mark_kept.new.heap.marks a)). c.mark_kept-3.ensures.marked.marked.least a (inl (c.mark_kept-2.ensures.marked.marked.least a (inl h))) in
    let host = c.pass_with_ephemerons-passed.new.host in
    let traced = is_marked c.mark_kept-3.new.heap.marks in
    let new = c.pass_with_ephemerons-passed.new.self.state in
    let whole = subst (λ (r : Records). PassesWhole (Unit {0}) place_of_link value_of state (objects_of r.slots.items) traced new (objects_of host.records.slots.items) (is_marked host.marks)) last c.pass_with_ephemerons-passed.ensures.passes in
    record {
      sound = subst (λ m. IsSound m new) (sym c.sweep.ensures.objects)
          (collected_sound slots state new (is_marked c.mark_roots.new.self.marks) (is_marked c.mark_kept.new.heap.marks) traced (objects_of host.records.slots.items) (is_marked host.marks) old.sound by_objects still whole);
    }

pub returns-clause-collected : goal.returns-clause-collected
returns-clause-collected c =
    let old = c.args.self.now in
    let state = old.finalizers.state in
    let new = c.pass_with_ephemerons-passed.new.self in
    let first = c.mark_roots.ensures.rest.0 in
    let second = c.mark_kept.ensures.rest.0 ∙ first in
    let third = c.mark_kept-2.ensures.rest.0 ∙ second in
    let last = c.mark_kept-3.ensures.rest.0 ∙ third in
    let host = c.pass_with_ephemerons-passed.new.host in
    let traced = is_marked c.mark_kept-3.new.heap.marks in
    let whole = subst (λ (r : Records). PassesWhole (Unit {0}) place_of_link value_of state (objects_of r.slots.items) traced new.state (objects_of host.records.slots.items) (is_marked host.marks)) last c.pass_with_ephemerons-passed.ensures.passes in
    let p = whole.2 in
    record {
      traced = traced;
      found = whole.0;
      marks = record {
        rooted = is_marked c.mark_roots.new.self.marks;
        held = is_marked c.mark_kept.new.heap.marks;
        handed = is_marked c.mark_kept-2.new.heap.marks;
        by_roots = c.mark_roots.ensures.marked;
        by_objects = subst (λ (r : Records). MarksKept (objects_of r.slots.items) HeldObject state (is_marked c.mark_roots.new.self.marks) (is_marked c.mark_kept.new.heap.marks)) first c.mark_kept.ensures.marked;
        by_data = subst (λ (r : Records). MarksKept (objects_of r.slots.items) HeldData state (is_marked c.mark_kept.new.heap.marks) (is_marked c.mark_kept-2.new.heap.marks)) second c.mark_kept-2.ensures.marked;
        by_registered = subst (λ (r : Records). MarksKept (objects_of r.slots.items) RegisteredData state (is_marked c.mark_kept-2.new.heap.marks) traced) third c.mark_kept-3.ensures.marked;
      };
      settles = whole.1;
      begun = p.begun;
      passed = p.passed;
      marked = is_marked host.marks;
      remain = marked_remain old.heap.records.slots.items host.records.slots.items _ (is_marked host.marks) (subst (λ (r : Records). AreFieldsKept r.slots.items host.records.slots.items) last c.pass_with_ephemerons-passed.ensures.same.2) c.sweep.ensures.objects;
      short = p.short;
      decided = subst
          (λ (left : Map Object). DecidesWhole (Unit {0}) place_of_link value_of (contains p.begun.late) (next_pass state.passes) (length p.begun.queue) (parts_in (objects_of old.heap.records.slots.items) p.begun) p.begun.ephemerons whole.0
          (parts_in left p.passed) p.passed.ephemerons p.begun.queue p.passed.queue)
          (sym c.sweep.ensures.objects) p.decided;
      follows = p.follows;
      long = p.long;
    }

pub returns-clause-fields : goal.returns-clause-fields
returns-clause-fields c =
    let old = c.args.self.now in
    let first = c.mark_roots.ensures.rest.0 in
    let second = c.mark_kept.ensures.rest.0 ∙ first in
    let third = c.mark_kept-2.ensures.rest.0 ∙ second in
    let last = c.mark_kept-3.ensures.rest.0 ∙ third in
    let host = c.pass_with_ephemerons-passed.new.host in
    fields_left old.heap.records.slots.items host.records.slots.items _ (is_marked host.marks) (subst (λ (r : Records). AreFieldsKept r.slots.items host.records.slots.items) last c.pass_with_ephemerons-passed.ensures.same.2) c.sweep.ensures.records

pub returns-clause-size : goal.returns-clause-size
returns-clause-size c =
    let second = c.mark_kept.ensures.rest.0 ∙ c.mark_roots.ensures.rest.0 in
    let last = c.mark_kept-3.ensures.rest.0 ∙ (c.mark_kept-2.ensures.rest.0 ∙ second) in
    c.sweep.ensures.size ∙ c.pass_with_ephemerons-passed.ensures.same.3 ∙ ap (λ (r : Records). length r.slots.items) last
