use Rattle.std.proofs.Common.{ℕ, ◌+◌, ◌<◌, sym, ap, subst, ◌∙◌, Some, is_some, IsTrue, IsFalse, length, true≢false}
use Rattle.std.specs.FinMap.{contains_key, keys, retain_keys}
use Rattle.std.specs.FinSet.{contains}
use Rattle.fz_model.specs.declared.limits.TheConstants.{COUNT_LIMIT}
use Rattle.fz_model.specs.Reachability.{IsRoot}
use Rattle.fz_model.specs.Pass.{Passes}
use Rattle.fz_bits.specs.Flags.{Set}
use Rattle.fz_heap.specs.Contents.{Contents}
use Rattle.fz_marker.specs.Marking.{Marking, IsClosed}
use Rattle.fz_marked.proofs.Carried.{len_by_keys}
use Rattle.fz_pass.specs.Flagged.{DecidesFlagged}
use Rattle.fz_pass.specs.Marks as marks
use Rattle.fz_pass.specs.Marks.{AreTargets}
use Rattle.fz_finalizers.specs.Follows.{next_pass}
use Rattle.fz_finalizers.specs.Passed.{parts_in}
use Rattle.fz_finalizers.specs.States.{Memory}
use Rattle.fz_world.specs.World.{WorldView, core_of, view_of}
use Rattle.fz_world.proofs.Inside.{core_inside}
use Rattle.fz_world.proofs.Rooted.{registered_here, has_reachable}
use Rattle.fz_world.proofs.Targets.{are_targets}
use Rattle.fz_world.proofs.Whole.{world_plain, world_sound}
use Rattle.fz_world.proofs.Passing.{number, pass_passes, pass_keeps, short_left, long_left}
use Rattle.fz_world.proofs.world.World.pass.Goals as goal

pub pass_without_cleanups-passed-requires-clause-registered : goal.pass_without_cleanups-passed-requires-clause-registered
pass_without_cleanups-passed-requires-clause-registered c a r is =
    subst (λ (h : Contents). IsTrue (contains_key h.objects a)) (sym c.trace_found.ensures.heap) (registered_here (core_inside c.self.inside) (world_sound _ _ _ _ _ c.self.invariant.0) a (ap is_some is))

pub pass_without_cleanups-passed-requires-clause-short : goal.pass_without_cleanups-passed-requires-clause-short
pass_without_cleanups-passed-requires-clause-short c = subst (λ (h : Contents). AreTargets h.objects c.self.inside.finalizers.short) (sym c.trace_found.ensures.heap) (are_targets _ _ c.self.invariant.2)

pub pass_without_cleanups-passed-requires-clause-long : goal.pass_without_cleanups-passed-requires-clause-long
pass_without_cleanups-passed-requires-clause-long c = subst (λ (h : Contents). AreTargets h.objects c.self.inside.finalizers.long) (sym c.trace_found.ensures.heap) (are_targets _ _ c.self.invariant.3)

pub pass_without_cleanups-passed-requires-clause-closed : goal.pass_without_cleanups-passed-requires-clause-closed
pass_without_cleanups-passed-requires-clause-closed c =
    let w = c.self.inside in
    let closed : IsClosed w.marked.heap.objects w.marked.marker.marked = subst (λ (v : WorldView). IsClosed v.objects v.marked) (sym c.self.view_is) c.requires.closed in
    subst (λ (h : Contents). marks.IsClosed h.objects (contains c.trace_found.new.self.marker.traced)) (sym c.trace_found.ensures.heap)
    (subst (λ (s : Set). marks.IsClosed w.marked.heap.objects (contains s)) (sym (ap (λ (m : Marking). m.traced) c.trace_found.ensures.marker)) (λ a b on child. closed a on b child))

pub invariant_of-self : goal.invariant_of-self
invariant_of-self c =
    let w = c.self.inside in
    let mid = c.pass_without_cleanups-passed.new.self.state in
    let host = c.pass_without_cleanups-passed.new.host in
    let left = c.take_all.new.self.state in
    let after = c.reclaim.new.self.heap in
    let found = contains w.marked.marker.marked in
    let kept = retain_keys host.heap.objects (contains host.marker.traced) in
    let plain = world_plain _ _ _ _ _ c.self.invariant.0 in
    let few = subst (λ (v : WorldView). v.core.passes + 1 < COUNT_LIMIT) (sym c.self.view_is) c.requires.passes in
    let idle : IsFalse w.cycle = subst (λ (v : WorldView). IsFalse v.core.cycle) (sym c.self.view_is) c.requires.idle in
    let closed : IsClosed w.marked.heap.objects w.marked.marker.marked = subst (λ (v : WorldView). IsClosed v.objects v.marked) (sym c.self.view_is) c.requires.closed in
    let roots = subst (λ (v : WorldView). (a : ℕ) → IsRoot v.core a → IsTrue (contains v.marked a)) (sym c.self.view_is) c.requires.roots in
    let same = c.pass_without_cleanups-passed.ensures.same in
    let decides =
    subst (λ (s : Set). DecidesFlagged (Unit {0}) Some (contains w.finalizers.late) (next_pass w.finalizers.passes) (length w.finalizers.queue) (parts_in w.marked.heap.objects w.finalizers.state) (contains s) (parts_in kept mid) w.finalizers.queue mid.queue)
    (ap (λ (m : Marking). m.traced) c.trace_found.ensures.marker)
    (subst (λ (h : Contents). DecidesFlagged (Unit {0}) Some (contains w.finalizers.late) (next_pass w.finalizers.passes) (length w.finalizers.queue) (parts_in h.objects w.finalizers.state) (contains c.trace_found.new.self.marker.traced) (parts_in kept mid) w.finalizers.queue mid.queue)
    c.trace_found.ensures.heap c.pass_without_cleanups-passed.ensures.decided) in
    let heap_is = c.reclaim.ensures.heap ∙ ap (λ (h : Contents). record h { objects = after.objects; condemned = after.condemned }) (same.heap_is ∙ ap (λ (h : Contents). record h { objects = host.heap.objects }) c.trace_found.ensures.heap) in
    let fewer = c.reclaim.ensures.reclaimed ∙ len_by_keys w.marked.heap.objects host.heap.objects (same.starts ∙ ap (λ (h : Contents). keys h.objects) c.trace_found.ensures.heap) in
    let memory = c.take_all.ensures.memory ∙ c.pass_without_cleanups-passed.ensures.memory c.self.invariant.4 in (
      pass_keeps w mid left found kept plain few decides c.pass_without_cleanups-passed.ensures.follows.0 c.pass_without_cleanups-passed.ensures.follows.1 c.take_all.ensures.follows.1 after c.reclaim.result c.pass_without_cleanups-passed.result.picked heap_is c.reclaim.ensures.objects fewer c.pass_without_cleanups-passed.ensures.picked idle
          c.reclaim.new.self.marker (has_reachable (core_inside w) w.marked.marker.marked closed roots) c.self.invariant.0,
      λ on. absurd (true≢false (sym on ∙ idle)),
      short_left w mid left found kept plain few decides c.pass_without_cleanups-passed.ensures.follows.0 c.pass_without_cleanups-passed.ensures.follows.1 c.take_all.ensures.follows.1 after.objects c.reclaim.ensures.objects c.self.invariant.2,
      long_left w mid left found kept plain few decides c.pass_without_cleanups-passed.ensures.follows.0 c.pass_without_cleanups-passed.ensures.follows.1 c.take_all.ensures.follows.1 after.objects c.reclaim.ensures.objects c.self.invariant.3,
      ap (λ (m : Memory). m.whole) memory ∙ c.self.invariant.4,
    )

pub returns-clause-passes : goal.returns-clause-passes
returns-clause-passes c =
    let w = c.self.inside in
    let mid = c.pass_without_cleanups-passed.new.self.state in
    let host = c.pass_without_cleanups-passed.new.host in
    let left = c.take_all.new.self.state in
    let after = c.reclaim.new.self.heap in
    let found = contains w.marked.marker.marked in
    let kept = retain_keys host.heap.objects (contains host.marker.traced) in
    let plain = world_plain _ _ _ _ _ c.self.invariant.0 in
    let few = subst (λ (v : WorldView). v.core.passes + 1 < COUNT_LIMIT) (sym c.self.view_is) c.requires.passes in
    let idle : IsFalse w.cycle = subst (λ (v : WorldView). IsFalse v.core.cycle) (sym c.self.view_is) c.requires.idle in
    let same = c.pass_without_cleanups-passed.ensures.same in
    let decides =
    subst (λ (s : Set). DecidesFlagged (Unit {0}) Some (contains w.finalizers.late) (next_pass w.finalizers.passes) (length w.finalizers.queue) (parts_in w.marked.heap.objects w.finalizers.state) (contains s) (parts_in kept mid) w.finalizers.queue mid.queue)
    (ap (λ (m : Marking). m.traced) c.trace_found.ensures.marker)
    (subst (λ (h : Contents). DecidesFlagged (Unit {0}) Some (contains w.finalizers.late) (next_pass w.finalizers.passes) (length w.finalizers.queue) (parts_in h.objects w.finalizers.state) (contains c.trace_found.new.self.marker.traced) (parts_in kept mid) w.finalizers.queue mid.queue)
    c.trace_found.ensures.heap c.pass_without_cleanups-passed.ensures.decided) in
    let heap_is = c.reclaim.ensures.heap ∙ ap (λ (h : Contents). record h { objects = after.objects; condemned = after.condemned }) (same.heap_is ∙ ap (λ (h : Contents). record h { objects = host.heap.objects }) c.trace_found.ensures.heap) in
    let fewer = c.reclaim.ensures.reclaimed ∙ len_by_keys w.marked.heap.objects host.heap.objects (same.starts ∙ ap (λ (h : Contents). keys h.objects) c.trace_found.ensures.heap) in
    let done = pass_passes w mid left found kept plain few decides c.pass_without_cleanups-passed.ensures.follows.0 c.pass_without_cleanups-passed.ensures.follows.1 c.take_all.ensures.follows.1 after c.reclaim.result c.pass_without_cleanups-passed.result.picked heap_is c.reclaim.ensures.objects fewer c.pass_without_cleanups-passed.ensures.picked idle in
    let pass = c.pass_without_cleanups-passed.ensures.pass ∙ number w mid left found kept plain few decides c.pass_without_cleanups-passed.ensures.follows.0 c.pass_without_cleanups-passed.ensures.follows.1 c.take_all.ensures.follows.1 in
    rw (← c.self.view_is)
    (subst (λ (k : ℕ). Passes (core_inside w) found (record { pass = k; picked = c.pass_without_cleanups-passed.result.picked; reclaimed = c.reclaim.result }) (core_of after w.frames left w.closed w.cycle)) (sym pass) done)

pub returns-clause-marks : goal.returns-clause-marks
returns-clause-marks c =
    let w = c.self.inside in
    let host = c.pass_without_cleanups-passed.new.host in
    let left = c.take_all.new.self in
    let core = core_of c.reclaim.new.self.heap w.frames left.state w.closed w.cycle in
    let marker = c.reclaim.ensures.marker ∙ c.pass_without_cleanups-passed.ensures.same.marker_is ∙ ap (λ (m : Marking). record m { traced = host.marker.traced }) c.trace_found.ensures.marker in
    let memory = c.take_all.ensures.memory ∙ c.pass_without_cleanups-passed.ensures.memory c.self.invariant.4 ∙ ap (λ (n : ℕ). record w.finalizers.memory { remembered = n }) (ap (λ (m : Memory). m.remembered) (sym c.take_all.ensures.memory)) in
    (λ i. view_of core (marker i) w.dirty (memory i)) ∙ ap (λ (v : WorldView). record v { core = core; remembered = left.memory.remembered }) c.self.view_is
