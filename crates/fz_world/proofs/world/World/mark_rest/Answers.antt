use Rattle.std.proofs.Common.{◌≡◌, ◌≤◌, true, refl, sym, ap, ◌∙◌, subst, arith, inl, inr, ⊎_elim, IsTrue, true≢false}
use Rattle.std.specs.FinMap as map
use Rattle.std.specs.FinSet.{contains, len}
use Rattle.fz_model.specs.Reachability.{IsRoot}
use Rattle.fz_marker.specs.Marking.{Marking, IsClosed, readable_count}
use Rattle.fz_world.specs.Cycles.{IsLedFromMarks}
use Rattle.fz_world.specs.World.{WorldView}
use Rattle.fz_world.proofs.Inside.{core_inside}
use Rattle.fz_world.proofs.Rooted.{registered_here, held_here, is_here, is_root}
use Rattle.fz_world.proofs.Scans.{readable_apart}
use Rattle.fz_world.proofs.Whole.{world_plain, world_pages, world_sound, world_clean, world_once, world_unfinished, world_none_condemned, world_remarked}
use Rattle.fz_world.proofs.world.World.mark_rest.Goals as goal

pub mark_roots-requires-clause-size : goal.mark_roots-requires-clause-size
mark_roots-requires-clause-size c = c.self.inside.marked.size

pub mark_roots-requires-clause-registered : goal.mark_roots-requires-clause-registered
mark_roots-requires-clause-registered c = registered_here (core_inside c.self.inside) (world_sound _ _ _ _ _ c.self.invariant.0)

pub mark_roots-requires-clause-held : goal.mark_roots-requires-clause-held
mark_roots-requires-clause-held c = held_here (core_inside c.self.inside) (world_sound _ _ _ _ _ c.self.invariant.0)

pub mark_roots-requires-clause-swept : goal.mark_roots-requires-clause-swept
mark_roots-requires-clause-swept c =
    let on : c.self.inside.cycle ≡ true = ap (λ (v : WorldView). v.core.cycle) c.self.view_is ∙ c.requires in
    world_none_condemned _ _ _ _ _ c.self.invariant.0 on

pub finish-requires-clause-size : goal.finish-requires-clause-size
finish-requires-clause-size c = ap (λ (m : Marking). m.size) c.mark_roots.ensures.same ∙ c.self.inside.marked.size

pub finish-requires-clause-pages : goal.finish-requires-clause-pages
finish-requires-clause-pages c = world_pages _ _ _ _ _ c.self.invariant.0

pub finish-requires-clause-unfinished : goal.finish-requires-clause-unfinished
finish-requires-clause-unfinished c =
    let on : c.self.inside.cycle ≡ true = ap (λ (v : WorldView). v.core.cycle) c.self.view_is ∙ c.requires in
    subst (λ (m : Marking). m.scans ≤ len m.scanned) (sym c.mark_roots.ensures.same) (world_unfinished _ _ _ _ _ c.self.invariant.0 on)

pub invariant_of-self : goal.invariant_of-self
invariant_of-self c = (
  world_remarked _ _ _ _ _ c.self.inside.marked.heap.condemned c.finish.new.self c.self.inside.dirty refl c.self.invariant.0,
  λ on. absurd (true≢false (sym on)),
  c.self.invariant.2,
  c.self.invariant.3,
  c.self.invariant.4,
)

pub returns-clause-roots : goal.returns-clause-roots
returns-clause-roots c a root =
    let here = is_here (core_inside c.self.inside) a (subst (λ (v : WorldView). IsRoot v.core a) (sym c.self.view_is) root) in
    c.finish.ensures.kept a ((c.mark_roots.ensures.members a).1 (inr here))

pub returns-clause-closed : goal.returns-clause-closed
returns-clause-closed c =
    let on : c.self.inside.cycle ≡ true = ap (λ (v : WorldView). v.core.cycle) c.self.view_is ∙ c.requires in
    let clean = world_clean _ _ _ _ _ c.self.invariant.0 on in
    subst (λ (v : WorldView). IsClosed v.objects c.finish.new.self.marked) c.self.view_is
    (c.finish.ensures.closed (λ a scanned off b child. (c.mark_roots.ensures.members b).1 (inl (clean a (subst (λ (m : Marking). IsTrue (contains m.scanned a)) c.mark_roots.ensures.same scanned) off b child))))

pub returns-clause-led : goal.returns-clause-led
returns-clause-led c a t =
    let from = c.finish.ensures.led a t in
    subst (λ (v : WorldView). IsLedFromMarks v a) c.self.view_is (from.0, ⊎_elim inl (λ root. inr (is_root (core_inside c.self.inside) from.0 root)) ((c.mark_roots.ensures.members from.0).0 from.1), from.2)

pub returns-clause-few : goal.returns-clause-few
returns-clause-few c =
    let w = c.self.inside in
    let on : w.cycle ≡ true = ap (λ (v : WorldView). v.core.cycle) c.self.view_is ∙ c.requires in
    let once = subst (λ (m : Marking). m.scans ≤ readable_count w.marked.heap.objects (contains m.scanned)) (sym c.mark_roots.ensures.same) (world_once _ _ _ _ _ c.self.invariant.0 on) in
    let again = c.finish.ensures.again in
    let all = readable_apart w.marked.heap.objects c.mark_roots.new.marker.scanned c.finish.new.self.marked in
    let objects = ap (λ (v : WorldView). map.len v.objects) c.self.view_is in
    let noted = ap (λ (v : WorldView). len v.noted) c.self.view_is in
    omega (arith, once, again, all, objects, noted)

pub mark_roots-requires-clause-plain : goal.mark_roots-requires-clause-plain
mark_roots-requires-clause-plain c = world_plain _ _ _ _ _ c.self.invariant.0
