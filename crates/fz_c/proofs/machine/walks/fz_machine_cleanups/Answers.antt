use Rattle.std.proofs.Common.{◌∙◌, refl, ap}
use Rattle.fz_machine.specs.Machines.{Machine}
use Rattle.fz_c.proofs.Rooted.{behind, none_cleaned, some_cleaned}
use Rattle.fz_c.proofs.machine.walks.fz_machine_cleanups.Goals as goal

pub returns-then-count-eq0 : goal.returns-then-count-eq0
returns-then-count-eq0 c =
    let same = c.finalizers-shown.ensures ∙ ap (λ (k : Machine). k.finalizers) (c.behind-it.view_is ∙ c.deref.ensures) in
    behind _ _ c.in-Some.it.value _ _ _ c.in-Some.ensures.taken c.put.ensures
    (refl, none_cleaned _ _ _ _ _ _ same c.iter_cleanups.ensures.all c.iter_cleanups.ensures.order c.from_place-left.ensures c.fill_cleanups-reply.ensures.count c.args.cleanups.now c.if-count-eq0.true)

pub returns : goal.returns
returns c =
    let same = c.finalizers-shown.ensures ∙ ap (λ (k : Machine). k.finalizers) (c.behind-it.view_is ∙ c.deref.ensures) in
    behind _ _ c.in-Some.it.value _ _ _ c.in-Some.ensures.taken c.put.ensures
    (refl, some_cleaned _ _ _ _ _ _ same c.iter_cleanups.ensures.all c.iter_cleanups.ensures.order c.from_place-left.ensures c.fill_cleanups-reply.ensures.count c.args.cleanups.now _ c.if-count-eq0.false refl c.fill_cleanups-reply.ensures.filled)
