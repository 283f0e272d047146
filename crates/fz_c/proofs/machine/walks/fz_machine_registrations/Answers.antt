use Rattle.std.proofs.Common.{◌∙◌, refl, ap}
use Rattle.fz_machine.specs.Machines.{Machine}
use Rattle.fz_c.proofs.Rooted.{behind, none_registered, some_registered}
use Rattle.fz_c.proofs.machine.walks.fz_machine_registrations.Goals as goal

pub returns-then-count-eq0 : goal.returns-then-count-eq0
returns-then-count-eq0 c =
    let same = c.finalizers-shown.ensures ∙ ap (λ (k : Machine). k.finalizers) (c.behind-it.view_is ∙ c.deref.ensures) in
    behind _ _ c.in-Some.it.value _ _ _ c.in-Some.ensures.taken c.put.ensures
    (refl, none_registered _ _ _ _ _ _ same c.iter.ensures.all c.iter.ensures.order c.from_place-left.ensures c.fill_registrations-reply.ensures.count c.args.registrations.now c.if-count-eq0.true)

pub returns : goal.returns
returns c =
    let same = c.finalizers-shown.ensures ∙ ap (λ (k : Machine). k.finalizers) (c.behind-it.view_is ∙ c.deref.ensures) in
    behind _ _ c.in-Some.it.value _ _ _ c.in-Some.ensures.taken c.put.ensures
    (refl, some_registered _ _ _ _ _ _ same c.iter.ensures.all c.iter.ensures.order c.from_place-left.ensures c.fill_registrations-reply.ensures.count c.args.registrations.now _ c.if-count-eq0.false refl c.fill_registrations-reply.ensures.filled)
