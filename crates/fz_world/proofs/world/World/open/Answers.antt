use Rattle.std.proofs.Common.{◌∙◌, refl, sym, ap, true≢false, rules}
use Rattle.fz_dirty.specs.Pages.{Pages}
use Rattle.fz_heap.specs.Contents.{Contents}
use Rattle.fz_finalizers.specs.States.{State, Memory}
use Rattle.fz_world.proofs.Targets.{targets_opening}
use Rattle.fz_world.proofs.Whole.{world_opening}
use Rattle.fz_world.proofs.world.World.open.Goals as goal

pub returns-clause-opened : goal.returns-clause-opened
returns-clause-opened c = record { core = search rules; seen = search rules; marks = search rules }

pub invariant_of-result-2 : goal.invariant_of-result-2
invariant_of-result-2 c =
    let heap = c.in_ok-heap.heap in
    let f = c.in_ok-finalizers.ensures in (
      world_opening heap c.in_ok-finalizers.finalizers.state c.in_ok-marker.marker c.in_ok-marker.dirty heap.blocks refl (ap (λ (h : Contents). h.objects) c.in_ok-heap.ensures.opened) f.opened
          (ap (λ (p : Pages). p.pages) c.in_ok-marker.ensures.pages ∙ c.blocks-2.ensures.blocks),
      λ on. absurd (true≢false (sym on)),
      targets_opening heap.objects c.in_ok-finalizers.finalizers.short (ap (λ (s : State). s.short) f.opened),
      targets_opening heap.objects c.in_ok-finalizers.finalizers.long (ap (λ (s : State). s.long) f.opened),
      ap (λ (m : Memory). m.whole) f.memory,
    )
