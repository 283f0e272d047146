use Rattle.std.proofs.Common.{◌∙◌, refl, sym, ap, arith}
use Rattle.std.specs.FinMap.{contains_key}
use Rattle.fz_world.specs.World.{WorldView}
use Rattle.fz_world.proofs.Stretches.{none_starts, none_registered}
use Rattle.fz_world.proofs.Whole.{world_sound}
use Rattle.fz_world.proofs.world.World.next_start.Goals as goal

pub overflow_add-result : goal.overflow_add-result
overflow_add-result c = omega (arith, c.requires.fits)

pub overflow_add-result-2 : goal.overflow_add-result-2
overflow_add-result-2 c = omega (arith, c.requires.fits, c.min.ensures)

pub returns-clause-objects : goal.returns-clause-objects
returns-clause-objects c = λ a after before.
    let w = c.self.inside in
    ap (λ (v : WorldView). contains_key v.objects a) (sym c.self.view_is)
    ∙ none_starts w.marked.heap.objects c.starts_in-starts.result c.args.address _ c.starts_in-starts.type_inv c.requires.heap.0 c.starts_in-starts.ensures _ c.min.result refl (omega (arith, c.min.ensures, c.from.ensures)) (omega (arith, c.min.ensures)) refl a after before

pub returns-clause-registrations : goal.returns-clause-registrations
returns-clause-registrations c = λ a after before.
    let w = c.self.inside in
    let none = none_starts w.marked.heap.objects c.starts_in-starts.result c.args.address _ c.starts_in-starts.type_inv c.requires.heap.0 c.starts_in-starts.ensures _ c.min.result refl (omega (arith, c.min.ensures, c.from.ensures)) (omega (arith, c.min.ensures)) refl a after before in
    ap (λ (v : WorldView). contains_key v.registrations a) (sym c.self.view_is)
    ∙ none_registered w.marked.heap.objects w.finalizers.registrations _ _ _ (world_sound _ _ _ _ _ c.self.invariant.0) a none
