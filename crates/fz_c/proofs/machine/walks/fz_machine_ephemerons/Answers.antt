use Rattle.std.proofs.Common.{◌∙◌, refl, ap}
use Rattle.fz_pass.specs.Keyed.{of_kind}
use Rattle.fz_finalizers.specs.States.{View}
use Rattle.fz_machine.specs.Machines.{Machine}
use Rattle.fz_c.proofs.Rooted.{behind, none_linked, some_linked}
use Rattle.fz_c.proofs.machine.walks.fz_machine_ephemerons.Goals as goal

pub returns-then-count-eq0 : goal.returns-then-count-eq0
returns-then-count-eq0 c =
    let same = c.finalizers-shown.ensures ∙ ap (λ (k : Machine). k.finalizers) (c.behind-it.view_is ∙ c.deref.ensures) in
    behind _ _ c.in-Some.it.value _ _ _ c.in-Some.ensures.taken c.put.ensures
    (refl, (c.iter_ephemerons-all.result, none_linked (λ (v : View). of_kind v.ephemerons) (λ _ _. c.iter_ephemerons-all.result) _ _ _ _ _ _ _ _ c.kind_for.ensures same c.iter_ephemerons-all.ensures.all c.iter_ephemerons-all.ensures.once refl c.from_place-left.ensures c.fill_links-reply.ensures.count c.args.ephemerons.now c.if-count-eq0.true))

pub returns : goal.returns
returns c =
    let same = c.finalizers-shown.ensures ∙ ap (λ (k : Machine). k.finalizers) (c.behind-it.view_is ∙ c.deref.ensures) in
    behind _ _ c.in-Some.it.value _ _ _ c.in-Some.ensures.taken c.put.ensures
    (refl, (c.iter_ephemerons-all.result, some_linked (λ (v : View). of_kind v.ephemerons) (λ _ _. c.iter_ephemerons-all.result) _ _ _ _ _ _ _ _ c.kind_for.ensures same c.iter_ephemerons-all.ensures.all c.iter_ephemerons-all.ensures.once refl c.from_place-left.ensures c.fill_links-reply.ensures.count c.args.ephemerons.now _ c.if-count-eq0.false refl c.fill_links-reply.ensures.filled))
