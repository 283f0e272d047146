use Rattle.std.proofs.Common.{◌∙◌, length, sym, ap, subst, arith}
use Rattle.std.proofs.lemmas.Bool.{both_ways}
use Rattle.fz_machine.specs.Regions.{IsNoted}
use Rattle.fz_machine.proofs.Renewed.{EachNoted, IsCleanupOf, all_of, cleanups_noted, one_more, rest_of, still_untold}
use Rattle.fz_machine.proofs.tables.note_cleanups.Goals as goal

pub loop-cleanup-preserved-then-is_when : goal.loop-cleanup-preserved-then-is_when
loop-cleanup-preserved-then-is_when c =
    let so_far = c.loop-cleanup.invariant.few in
    let one = c.note.ensures.tabled in
    let left = ap length c.in-Some.ensures.steps in
    record {
      untold = still_untold _ _ c.note.ensures.keeps c.loop-cleanup.invariant.untold;
      rest = rest_of _ _ _ _ _ c.in-Some.ensures.steps c.loop-cleanup.invariant.rest;
      few = omega (arith, so_far, one, left);
      noted = λ all. one_more (IsCleanupOf c.args.when) _ _ _ (c.in-Some.field-0-0, c.in-Some.cleanup) c.note.ensures.keeps.kept (λ n is. subst (IsNoted _) (sym is.1) (c.note.ensures.noted all)) (c.loop-cleanup.invariant.noted (c.note.ensures.keeps.complete all));
    }

pub loop-cleanup-preserved : goal.loop-cleanup-preserved
loop-cleanup-preserved c =
    let so_far = c.loop-cleanup.invariant.few in
    let left = ap length c.in-Some.ensures.steps in
    record {
      untold = c.loop-cleanup.invariant.untold;
      rest = rest_of _ _ _ _ _ c.in-Some.ensures.steps c.loop-cleanup.invariant.rest;
      few = omega (arith, so_far, left);
      noted = λ all. one_more (IsCleanupOf c.args.when) _ _ _ (c.in-Some.field-0-0, c.in-Some.cleanup) (λ q noted. noted) (λ n is. absurd (both_ways c.is_when.result c.if-is_when.false (c.is_when.ensures ∙ is.0))) (c.loop-cleanup.invariant.noted all);
    }

pub returns-clause-noted : goal.returns-clause-noted
returns-clause-noted c = λ all.
    let es = c.iter_cleanups-cleanup-items.result in
    let whole = all_of _ _ _ c.in-None.ensures.steps.0 c.loop-cleanup.invariant.rest ∙ c.into_iter-cleanup-iterator.ensures.into_iter_gives in
    cleanups_noted c.args.finalizers.now.state c.loop-cleanup.table.order c.args.when es c.iter_cleanups-cleanup-items.ensures.all.0 (subst (EachNoted (IsCleanupOf c.args.when) c.loop-cleanup.table.order) whole (c.loop-cleanup.invariant.noted all))
