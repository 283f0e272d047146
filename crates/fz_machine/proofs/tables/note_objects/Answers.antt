use Rattle.std.proofs.Common.{◌≡◌, ◌∙◌, ℕ, length, sym, ap, subst, arith}
use Rattle.fz_table.specs.declared.stored.Stored.{Stored}
use Rattle.fz_machine.specs.Regions.{IsNoted}
use Rattle.fz_machine.proofs.Renewed.{EachNoted, all_of, objects_noted, one_more, rest_of, still_untold}
use Rattle.fz_machine.proofs.tables.note_objects.Goals as goal

pub loop-object-preserved : goal.loop-object-preserved
loop-object-preserved c =
    let so_far = c.loop-object.invariant.few in
    let one = c.note.ensures.tabled in
    let left = ap length c.in-Some.ensures.steps in
    record {
      untold = still_untold _ _ c.note.ensures.keeps c.loop-object.invariant.untold;
      rest = rest_of _ _ _ _ _ c.in-Some.ensures.steps c.loop-object.invariant.rest;
      few = omega (arith, so_far, one, left);
      noted = λ all. one_more (λ (e : ℕ × Stored) (n : ℕ). n ≡ e.0) _ _ _ (c.in-Some.object, c.in-Some.field-0-1) c.note.ensures.keeps.kept (λ n is. subst (IsNoted _) (sym is) (c.note.ensures.noted all)) (c.loop-object.invariant.noted (c.note.ensures.keeps.complete all));
    }

pub returns-clause-noted : goal.returns-clause-noted
returns-clause-noted c = λ all.
    let es = c.iter_stored-object-items.result in
    let whole = all_of _ _ _ c.in-None.ensures.steps.0 c.loop-object.invariant.rest ∙ c.into_iter-object-iterator.ensures.into_iter_gives in
    objects_noted c.args.finalizers.now.state c.loop-object.table.order es c.iter_stored-object-items.ensures.all.0 (subst (EachNoted (λ (e : ℕ × Stored) (n : ℕ). n ≡ e.0) c.loop-object.table.order) whole (c.loop-object.invariant.noted all))
