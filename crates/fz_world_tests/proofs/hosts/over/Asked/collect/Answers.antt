use Rattle.std.proofs.Common.{◌∙◌, ℕ, inl, sym, subst, IsTrue}
use Rattle.std.proofs.Math.Logic.{∥∥₁_map}
use Rattle.fz_model.specs.declared.kinds.LinkKind.TheVariants.{Short, Long}
use Rattle.fz_pass.specs.Marks.{IsClosed}
use Rattle.fz_finalizers.specs.declared.roots.Root.TheVariants.{HeldObject}
use Rattle.fz_finalizers.specs.Cleanups.{is_due}
use Rattle.fz_finalizers.specs.Follows.{Clean, Pass, next_pass}
use Rattle.fz_finalizers.specs.Passed.{PassesWhole}
use Rattle.fz_finalizers.specs.Promises.{Then}
use Rattle.fz_finalizers.specs.States.{View}
use Rattle.own_heap.specs.declared.records.Records.{Records}
use Rattle.own_heap.specs.Collected.{MarksKept}
use Rattle.own_heap.specs.Marking.{is_marked}
use Rattle.own_heap.specs.Outside.{place_of_link}
use Rattle.own_heap.specs.Records.{objects_of, value_of}
use Rattle.own_heap.specs.Sound.{IsSound}
use Rattle.own_heap.proofs.Holding.{collected_sound}
use Rattle.fz_world_tests.proofs.Asking.{may_begin}
use Rattle.fz_world_tests.proofs.hosts.over.Asked.collect.Goals as goal

pub mark_kept-requires : goal.mark_kept-requires
mark_kept-requires c =
    subst (λ (r : Records). IsClosed (objects_of r.slots.items) (is_marked c.mark_roots.new.self.marks)) (sym c.mark_roots.ensures.rest.0) c.mark_roots.ensures.marked.closed

pub mark_kept-requires-2 : goal.mark_kept-requires-2
mark_kept-requires-2 c =
    subst (λ (r : Records). IsClosed (objects_of r.slots.items) (is_marked c.mark_kept.new.heap.marks)) (sym c.mark_kept.ensures.rest.0) c.mark_kept.ensures.marked.marked.closed

pub mark_kept-requires-3 : goal.mark_kept-requires-3
mark_kept-requires-3 c =
    subst (λ (r : Records). IsClosed (objects_of r.slots.items) (is_marked c.mark_kept-2.new.heap.marks)) (sym c.mark_kept-2.ensures.rest.0) c.mark_kept-2.ensures.marked.marked.closed

pub pass_over-requires-clause-begin : goal.pass_over-requires-clause-begin
pass_over-requires-clause-begin c =
    let old = c.args.self.now in
    let heap = c.mark_kept-3.new.heap in
    let last = c.mark_kept-3.ensures.rest.0 ∙ c.mark_kept-2.ensures.rest.0 ∙ c.mark_kept.ensures.rest.0 ∙ c.mark_roots.ensures.rest.0 in
    may_begin heap.records.slots.items old.machine.finalizers.state (is_marked heap.marks) heap.few (subst (λ (r : Records). IsSound (objects_of r.slots.items) old.machine.finalizers.state) (sym last) old.sound)
    (subst (λ (r : Records). IsClosed (objects_of r.slots.items) (is_marked heap.marks)) (sym c.mark_kept-3.ensures.rest.0) c.mark_kept-3.ensures.marked.marked.closed)

-- a pass is a round of short cleanups, a pass without cleanups, and a round of long ones
pub invariant_of-self-2 : goal.invariant_of-self-2
invariant_of-self-2 c =
    let old = c.args.self.now in
    let slots = old.heap.records.slots.items in
    let state = old.machine.finalizers.state in
    let first = c.mark_roots.ensures.rest.0 in
    let last = c.mark_kept-3.ensures.rest.0 ∙ c.mark_kept-2.ensures.rest.0 ∙ c.mark_kept.ensures.rest.0 ∙ first in
    let by_objects = subst (λ (r : Records). MarksKept (objects_of r.slots.items) HeldObject state (is_marked c.mark_roots.new.self.marks) (is_marked c.mark_kept.new.heap.marks)) first
    (subst (λ (v : View). MarksKept (objects_of c.mark_roots.new.self.records.slots.items) HeldObject v.state (is_marked c.mark_roots.new.self.marks) (is_marked c.mark_kept.new.heap.marks)) c.finalizers.ensures c.mark_kept.ensures.marked) in
    let still = λ (a : ℕ) (h : IsTrue (is_marked c.mark_kept.new.heap.marks a)). c.mark_kept-3.ensures.marked.marked.least a (inl (c.mark_kept-2.ensures.marked.marked.least a (inl h))) in
    let host = c.pass_over.new.host in
    let new = c.pass_over.new.self.finalizers.state in
    let traced = is_marked c.mark_kept-3.new.heap.marks in
    let whole = subst (λ (r : Records). PassesWhole (Unit {0}) place_of_link value_of state (objects_of r.slots.items) traced new (objects_of host.records.slots.items) (is_marked host.marks)) last c.in_ok-passed.ensures.passes in
    let p = whole.2 in
    record {
      idle = c.in_ok-passed.ensures.idle;
      sound = subst (λ m. IsSound m new) (sym c.sweep.ensures.objects)
          (collected_sound slots state new (is_marked c.mark_roots.new.self.marks) (is_marked c.mark_kept.new.heap.marks) traced (objects_of host.records.slots.items) (is_marked host.marks) old.sound by_objects still whole);
      reached = ∥∥₁_map old.reached
          (λ (past, reached). (past, Then (Clean (next_pass state.passes) (is_due Long (is_marked host.marks))) (Then Pass (Then (Clean (next_pass state.passes) (is_due Short whole.0)) reached p.short) p.follows) p.long));
    }
