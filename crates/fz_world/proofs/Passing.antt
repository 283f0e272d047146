-- A pass of a world: what it does to its finalizers and to its heap, taken together.
use Rattle.std.proofs.Common.{◌≡◌, ◌∙◌, ℕ, ◌+◌, ◌<◌, ◌++◌, Bool, false, List, Some, length, length-append, drop, refl, sym, ap, subst, arith, IsTrue, IsFalse}
use Rattle.std.proofs.Math.Seq.{drop-append_seam}
use Rattle.std.specs.FinMap.{len}
use Rattle.std.specs.FinSet.{contains}
use Rattle.fz_model.proofs.Sound.{length-entries_of}
use Rattle.fz_model.specs.declared.answers.Entry.{Entry}
use Rattle.fz_model.specs.declared.limits.TheConstants.{COUNT_LIMIT}
use Rattle.fz_model.specs.State.{Map, Object, Core}
use Rattle.fz_model.specs.Reachability.{IsReachable}
use Rattle.fz_model.specs.Pass.{Passes, entries_of}
use Rattle.fz_heap.specs.Contents.{Contents}
use Rattle.fz_marker.specs.Marking.{Marking}
use Rattle.fz_pass.specs.Decides.{DecidesInto, core_parts, passed_core}
use Rattle.fz_pass.specs.Flagged.{DecidesFlagged}
use Rattle.fz_pass.proofs.Unflagged.{late_decide, late_passes}
use Rattle.fz_finalizers.specs.Follows.{Queues, next_pass}
use Rattle.fz_finalizers.specs.Passed.{parts_in}
use Rattle.fz_finalizers.specs.States.{State, unfinished}
use Rattle.fz_world.specs.World.{IsPlain, HaveTargets, core_of, IsWorld}
use Rattle.fz_world.specs.declared.world.World.TheInside.{Inside}
use Rattle.fz_world.proofs.Inside.{core_inside}
use Rattle.fz_world.proofs.Plain.{none_flagged, none_picked}
use Rattle.fz_world.proofs.Targets.{short_passed, long_passed}
use Rattle.fz_world.proofs.Whole.{world_passed}

module _ (w : Inside) (mid left : State) (found : ℕ → Bool) (kept : Map Object) (plain : IsPlain w.finalizers.state) (few : w.finalizers.passes + 1 < COUNT_LIMIT)
    (decides : DecidesFlagged (Unit {0}) Some (contains w.finalizers.late) (next_pass w.finalizers.passes) (length w.finalizers.queue) (parts_in w.marked.heap.objects w.finalizers.state) found (parts_in kept mid) w.finalizers.queue mid.queue)
    (queues : Queues (next_pass w.finalizers.passes) w.finalizers.state mid) (passes : mid.passes ≡ next_pass w.finalizers.passes) (left_is : left ≡ record mid { taken = length mid.queue; held = unfinished mid }) where
  abbrev c : Core
  c = core_inside w

  pub number : next_pass w.finalizers.passes ≡ w.finalizers.passes + 1
  number = omega (arith, few)

  lone : DecidesFlagged (Unit {0}) Some (contains w.finalizers.late) (c.passes + 1) (length c.queue) (core_parts c) found (parts_in kept mid) c.queue mid.queue
  lone = subst (λ n. DecidesFlagged (Unit {0}) Some (contains w.finalizers.late) n (length w.finalizers.queue) (parts_in w.marked.heap.objects w.finalizers.state) found (parts_in kept mid) w.finalizers.queue mid.queue) number decides

  -- since none is flagged, it is the model's decision
  into : DecidesInto (Unit {0}) (c.passes + 1) (length c.queue) (core_parts c) found (parts_in kept mid) c.queue mid.queue
  into = late_decide (Unit {0}) (contains w.finalizers.late) (none_flagged w.finalizers.state plain.none) (core_parts c) (parts_in kept mid) found (c.passes + 1) (length c.queue) c.queue mid.queue lone

  pub plain_left : IsPlain left
  plain_left = record {
    none = ap (λ (s : State). s.late) left_is ∙ queues.left_late ∙ none_picked w.finalizers.state plain.none queues.picks;
    taken = ap (λ (s : State). s.taken) left_is ∙ ap (λ (s : State). length s.queue) (sym left_is);
  }

  pub short_left : (objects : Map Object) → objects ≡ kept → HaveTargets w.marked.heap.objects w.finalizers.short → HaveTargets objects left.short
  short_left objects is h =
      subst (λ (s : State). HaveTargets objects s.short) (sym left_is)
      (subst (λ (m : Map Object). HaveTargets m mid.short) (sym is) (short_passed (core_parts c) (parts_in kept mid) found into.picks (into.exactly tt) h))

  pub long_left : (objects : Map Object) → objects ≡ kept → HaveTargets w.marked.heap.objects w.finalizers.long → HaveTargets objects left.long
  long_left objects is h =
      subst (λ (s : State). HaveTargets objects s.long) (sym left_is)
      (subst (λ (m : Map Object). HaveTargets m mid.long) (sym is) (long_passed (core_parts c) (parts_in kept mid) found into.picks (into.exactly tt) h))

  abbrev come : List Entry
  come = entries_of (c.passes + 1) (length c.queue) lone.picks

  module _ (after : Contents) (reclaimed n : ℕ) (heap_is : after ≡ record w.marked.heap { objects = after.objects; condemned = after.condemned }) (objects_are : after.objects ≡ kept)
      (fewer : len after.objects + reclaimed ≡ len w.marked.heap.objects) (picked : length mid.queue ≡ length w.finalizers.queue + n) (idle : IsFalse w.cycle) where
    model : (mid.queue ≡ c.queue ++ come) × Passes c found (record { pass = c.passes + 1; picked = length lone.picks; reclaimed = reclaimed }) (passed_core c (parts_in kept mid) lone.picks)
    model = late_passes (contains w.finalizers.late) c (none_flagged w.finalizers.state plain.none) found (parts_in kept mid) mid.queue reclaimed lone (ap (λ (m : Map Object). len m + reclaimed) (sym objects_are) ∙ fewer)

    held_now : unfinished mid ≡ w.finalizers.held ++ come
    held_now =
        let taken : mid.taken ≡ length w.finalizers.queue = queues.taken ∙ plain.taken in
        (λ i. queues.held i ++ drop (taken i) (model.0 i)) ∙ ap (λ (es : List Entry). w.finalizers.held ++ es) (drop-append_seam w.finalizers.queue come)

    counted : length lone.picks ≡ n
    counted =
        let long = ap length model.0 ∙ length-append w.finalizers.queue come in
        let count = length-entries_of (c.passes + 1) (length c.queue) lone.picks in
        omega (arith, long, count, picked)

    core_is : passed_core c (parts_in kept mid) lone.picks ≡ core_of after w.frames left w.closed w.cycle
    core_is = λ i. record {
      blocks = (ap (λ (h : Contents). h.blocks) (sym heap_is)) i;
      objects = (sym objects_are) i;
      frames = w.frames;
      registrations = (ap (λ (s : State). s.registrations) (sym left_is)) i;
      short = (ap (λ (s : State). s.short) (sym left_is)) i;
      long = (ap (λ (s : State). s.long) (sym left_is)) i;
      held = (sym (ap (λ (s : State). s.held) left_is ∙ held_now)) i;
      queue = (sym (ap (λ (s : State). s.queue) left_is ∙ model.0)) i;
      next_birth = (ap (λ (h : Contents). h.next_birth) (sym heap_is)) i;
      next_number = (sym (ap (λ (s : State). s.next_number) left_is ∙ queues.next_number)) i;
      passes = (sym (ap (λ (s : State). s.passes) left_is ∙ passes ∙ number)) i;
      closed = w.closed;
      cycle = (sym idle) i;
    }

    pub pass_passes : Passes c found (record { pass = w.finalizers.passes + 1; picked = n; reclaimed = reclaimed }) (core_of after w.frames left w.closed w.cycle)
    pass_passes =
        subst (λ (new : Core). Passes c found (record { pass = c.passes + 1; picked = n; reclaimed = reclaimed }) new) core_is
        (subst (λ k. Passes c found (record { pass = c.passes + 1; picked = k; reclaimed = reclaimed }) (passed_core c (parts_in kept mid) lone.picks)) counted model.1)

    pub pass_keeps : (other : Marking) → ((a : ℕ) → IsReachable c a → IsTrue (found a)) → IsWorld w.marked.heap w.finalizers.state w.marked.marker w.dirty w.cycle → IsWorld after left other w.dirty w.cycle
    pass_keeps other reachable h =
        let was : IsWorld w.marked.heap w.finalizers.state w.marked.marker w.dirty false = subst (λ b. IsWorld w.marked.heap w.finalizers.state w.marked.marker w.dirty b) idle h in
        let now : IsWorld after left other w.dirty false = world_passed c found _ _ pass_passes reachable w.marked.heap after w.finalizers.state left w.marked.marker other w.dirty refl refl refl refl refl refl refl refl refl refl (ap (λ (h : Contents). h.blocks) heap_is) plain_left was in
        subst (λ b. IsWorld after left other w.dirty b) (sym idle) now
