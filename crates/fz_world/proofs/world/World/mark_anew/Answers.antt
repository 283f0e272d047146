use Rattle.std.proofs.Common.{◌≡◌, ◌↔◌, ◌+◌, ◌*◌, ◌<◌, sym, ap, ◌∙◌, subst, IsTrue, All}
use Rattle.std.specs.FinMap.{contains_key}
use Rattle.std.specs.FinSet.{contains, empty}
use Rattle.fz_model.specs.declared.answers.Entry.{Entry}
use Rattle.fz_model.specs.declared.limits.TheConstants.{BLOCK_WORDS, COUNT_LIMIT}
use Rattle.fz_model.specs.Reachability.{IsRoot}
use Rattle.fz_heap.specs.Contents.{Contents}
use Rattle.fz_dirty.specs.Pages.{Pages}
use Rattle.fz_marker.specs.Marking.{Marking}
use Rattle.fz_world.specs.Roots.{Marks, IsRootHere}
use Rattle.fz_world.specs.World.{WorldView, IsWorld, HaveTargets}
use Rattle.fz_world.proofs.Inside.{core_inside}
use Rattle.fz_world.proofs.Rooted.{registered_here, held_here, just_roots}
use Rattle.fz_world.proofs.Whole.{world_plain, world_sound, world_anew}
use Rattle.fz_world.proofs.world.World.mark_anew.Goals as goal

pub mark_roots-requires-clause-size : goal.mark_roots-requires-clause-size
mark_roots-requires-clause-size c =
    ap (λ (m : Marking). m.size) c.begin.ensures ∙ c.self.inside.marked.size ∙ ap (λ (h : Contents). BLOCK_WORDS * h.blocks) (sym c.sweep_all.ensures)

pub mark_roots-requires-clause-registered : goal.mark_roots-requires-clause-registered
mark_roots-requires-clause-registered c a t =
    subst (λ (h : Contents). IsTrue (contains_key h.objects a)) (sym c.sweep_all.ensures) (registered_here (core_inside c.self.inside) (world_sound _ _ _ _ _ c.self.invariant.0) a t)

pub mark_roots-requires-clause-held : goal.mark_roots-requires-clause-held
mark_roots-requires-clause-held c =
    subst (λ (h : Contents). All (λ (e : Entry). IsTrue (contains_key h.objects e.obj)) c.self.inside.finalizers.held) (sym c.sweep_all.ensures) (held_here (core_inside c.self.inside) (world_sound _ _ _ _ _ c.self.invariant.0))

pub mark_roots-requires-clause-swept : goal.mark_roots-requires-clause-swept
mark_roots-requires-clause-swept c = ap (λ (h : Contents). h.condemned) c.sweep_all.ensures

pub invariant_of-self : goal.invariant_of-self
invariant_of-self c =
    let w = c.self.inside in
    let pages = ap (λ (p : Pages). p.pages) c.take_all.ensures in
    let scanned = ap (λ (m : Marking). m.scanned) c.mark_roots.ensures.same ∙ ap (λ (m : Marking). m.scanned) c.begin.ensures in
    let scans = ap (λ (m : Marking). m.scans) c.mark_roots.ensures.same ∙ ap (λ (m : Marking). m.scans) c.begin.ensures in (
      subst (λ (h : Contents). IsWorld h w.finalizers.state c.mark_roots.new.marker c.take_all.new.self c.args.opens) (sym c.sweep_all.ensures)
          (world_anew _ _ _ _ _ c.mark_roots.new.marker c.take_all.new.self c.args.opens pages scanned scans c.self.invariant.0),
      λ on. subst (λ (v : WorldView). v.core.passes + 1 < COUNT_LIMIT) (sym c.self.view_is) c.requires.few,
      subst (λ (h : Contents). HaveTargets h.objects w.finalizers.short) (sym c.sweep_all.ensures) c.self.invariant.2,
      subst (λ (h : Contents). HaveTargets h.objects w.finalizers.long) (sym c.sweep_all.ensures) c.self.invariant.3,
      c.self.invariant.4,
    )

pub returns-clause-begun : goal.returns-clause-begun
returns-clause-begun c =
    let w = c.self.inside in
    let none : c.begin.new.self.marked ≡ empty = ap (λ (m : Marking). m.marked) c.begin.ensures in
    let marks = subst (λ (h : Contents). Marks c.begin.new.self c.mark_roots.new.marker (IsRootHere h.objects w.frames w.finalizers.registrations w.finalizers.held (IsTrue w.closed))) c.sweep_all.ensures c.mark_roots.ensures in
    record {
      marked = λ a. subst (λ (v : WorldView). IsTrue (contains c.mark_roots.new.marker.marked a) ↔ IsRoot v.core a) c.self.view_is (just_roots (core_inside w) c.begin.new.self c.mark_roots.new.marker none marks a);
      scanned = ap (λ (m : Marking). m.scanned) c.mark_roots.ensures.same ∙ ap (λ (m : Marking). m.scanned) c.begin.ensures;
      noted = ap (λ (p : Pages). p.noted) c.take_all.ensures;
      scans = ap (λ (m : Marking). m.scans) c.mark_roots.ensures.same ∙ ap (λ (m : Marking). m.scans) c.begin.ensures;
    }

pub mark_roots-requires-clause-plain : goal.mark_roots-requires-clause-plain
mark_roots-requires-clause-plain c = world_plain _ _ _ _ _ c.self.invariant.0
